pub mod Statements
pub mod Nests
pub mod Members
pub mod Tops
