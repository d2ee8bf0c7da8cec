mod Walks
mod Examples
pub mod Meant
