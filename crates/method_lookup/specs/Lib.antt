pub mod Index
pub mod Visits
