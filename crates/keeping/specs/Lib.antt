pub mod Kept
pub mod KeptFile
pub mod Write
pub mod KeptLaws
pub mod KeptFileLaws
pub mod WriteLaws
pub mod KeepOperation
pub mod KeepOperationLaws
