pub mod Characters
pub mod Texts
pub mod Lengths
pub mod TokenLists
