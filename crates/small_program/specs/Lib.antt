pub mod Numbering
pub mod Small
