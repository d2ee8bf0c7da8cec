pub mod Report
pub mod Meant
