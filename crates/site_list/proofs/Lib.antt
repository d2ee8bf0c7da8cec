pub mod Lists
pub mod Lines
pub mod Sets
pub mod Places
pub mod Numbers
pub mod Limits
