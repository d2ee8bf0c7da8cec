pub mod Input
pub mod Firsts
pub mod Model
pub mod Nests
