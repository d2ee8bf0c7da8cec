pub mod Views
pub mod Maps
pub mod Opened
pub mod Lists
pub mod Names
