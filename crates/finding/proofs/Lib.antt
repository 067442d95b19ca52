pub mod Classing
pub mod MembersLeft
