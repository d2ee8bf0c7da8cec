pub mod Counts
pub mod Dealt
pub mod Passes
pub mod Results
