-- Document 01 with W-201 and W-203 as definitions, in its words and its order: Answers to Step, over the sound state of `states`; and who pays, for
-- W-202: Payers. Nothing else defines behaviour but the report, in `reports`. Then what is shown of them: Order and Cases for what is computed,
-- Statements for demand 3 and what is promised besides.
pub mod Answers
pub mod Refusals
pub mod Calls
pub mod Deliver
pub mod Step
pub mod Payers
pub mod Order
pub mod Cases
pub mod Statements
