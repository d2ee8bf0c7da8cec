pub mod Intervals
pub mod Each
pub mod Entries
pub mod Subtypes
pub mod Props
pub mod Always
pub mod Facts
pub mod BuiltInSound
