pub mod Packs
pub mod Rows
pub mod Growth
pub mod Programs
pub mod Ruling
pub mod Effects
pub mod Keeps
pub mod Views
pub mod Endings
pub mod Telling
pub mod Running
pub mod Parts
mod Examples
