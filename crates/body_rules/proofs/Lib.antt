pub mod Firsts
pub mod Looked
