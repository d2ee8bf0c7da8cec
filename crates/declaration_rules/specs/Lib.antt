pub mod Seen
pub mod Claims
pub mod Known
pub mod Mixing
pub mod Counting
pub mod Finding
