pub mod Refusals
pub mod Counted
pub mod Texts
pub mod Entries
