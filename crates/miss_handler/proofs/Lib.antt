pub mod Orders
pub mod Tests
pub mod Moves
pub mod Runs
pub mod Places
pub mod Examples
