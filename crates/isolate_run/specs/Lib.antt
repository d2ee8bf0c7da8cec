pub mod Loop
pub mod Ran
