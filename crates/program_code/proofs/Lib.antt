pub mod Lengths
pub mod Used
