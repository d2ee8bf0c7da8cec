pub mod Counting
pub mod Firsts
pub mod Mixing
pub mod Names
pub mod Finding
pub mod Rules
