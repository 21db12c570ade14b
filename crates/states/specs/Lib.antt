-- What a chain is and when a state is sound, document 01 in its words. Machines, Facts and Move are what the proofs speak of.
pub mod Chains
pub mod Sound
pub mod Machines
pub mod Facts
pub mod Move
