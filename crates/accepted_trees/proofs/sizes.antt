pub mod SizesOfForms
pub mod Sums
pub mod FewNodes
