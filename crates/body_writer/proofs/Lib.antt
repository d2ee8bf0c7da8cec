mod Views
mod Counts
pub mod Opens
