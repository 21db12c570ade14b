-- The cost report: W-202 in its words, what is shown of it, and the books that the code keeps.
pub mod Report
pub mod Statements
pub mod Charging
