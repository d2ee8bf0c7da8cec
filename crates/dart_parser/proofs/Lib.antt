pub mod View
pub mod Steps
pub mod Stmts
pub mod Parts
pub mod Members
pub mod Classes
pub mod Tops
