pub mod Entries
pub mod Places
pub mod Region
pub mod Told
pub mod Finds
