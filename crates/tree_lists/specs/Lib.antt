pub mod Locals
pub mod Methods
