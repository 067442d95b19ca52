-- P1 to P8.
pub mod Cases
pub mod CasesHold
-- The texts of all listed cases.
pub mod Texts
pub mod TextsLaws
-- Jobs on each side of a limit.
pub mod LimitsHold
