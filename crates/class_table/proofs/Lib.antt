pub mod Telling
pub mod Words
pub mod Ways
pub mod Filling
pub mod Building
