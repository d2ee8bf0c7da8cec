pub mod Findings
pub mod Programs
pub mod Entries
pub mod Refusals
