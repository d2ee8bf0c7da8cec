pub mod Words
pub mod Outside
pub mod Places
pub mod Source
pub mod Refusals
pub mod Runs
pub mod Top
