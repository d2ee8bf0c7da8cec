pub mod Ranking
pub mod Overriding
pub mod Descending
