pub mod Maps
pub mod Around
pub mod Noted
pub mod Reached
pub mod Tops
pub mod Exact
pub mod Asked
pub mod Above
