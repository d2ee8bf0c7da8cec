pub mod Undo
pub mod Using
pub mod Found
pub mod Looked
pub mod Meant
