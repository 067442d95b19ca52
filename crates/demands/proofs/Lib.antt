-- The theorems: each record of specs/ holds.
pub mod AsListedLaws
pub mod ReadListed
pub mod FindListed
pub mod VerdictListed
pub mod AnswersListed
pub mod KeepListed
pub mod Demand1
pub mod FindSaysLaws
pub mod KeepSaysLaws
pub mod Demand2
pub mod VerdictSaysLaws
pub mod MarksSayLaws
pub mod Demand3
pub mod SameMeaning
