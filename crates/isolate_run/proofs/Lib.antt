pub mod Begins
pub mod Counts
pub mod Far
pub mod Runs
pub mod Starts
pub mod Tells
