pub mod Counts
pub mod Sums
pub mod Deals
pub mod Tells
pub mod Places
pub mod Examples
