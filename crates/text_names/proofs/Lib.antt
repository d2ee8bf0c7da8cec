pub mod Maps
pub mod Reaching
pub mod Noting
pub mod Classes
pub mod Taken
pub mod Exact
