pub mod Table
pub mod Lasts
pub mod Rows
