pub mod Blocks
pub mod Lists
pub mod Meanings
pub mod Looked
