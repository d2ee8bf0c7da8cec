pub mod Owners
pub mod OpenVariables
