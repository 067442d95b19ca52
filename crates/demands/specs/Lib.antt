-- What is demanded: meaning.
pub mod Checks
pub mod Lent
pub mod AsListed
pub mod Refusals
pub mod FindSays
pub mod KeepSays
pub mod VerdictSays
pub mod MarksSay
-- Demand 1: each operation is as listed.
pub mod ChecksLaws
pub mod VerdictCourse
pub mod Demand1
-- Demands 2 and 3: what the answers say, and that it determines them.
pub mod Demand2
pub mod Demand3
-- Merged states.
pub mod SameMeaning
