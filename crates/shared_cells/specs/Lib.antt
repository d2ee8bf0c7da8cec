pub mod Reading
pub mod Runs
pub mod Dispatches
pub mod Calls
pub mod Callings
pub mod Tables
pub mod Shared
