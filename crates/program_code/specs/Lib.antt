pub mod Sizes
pub mod Code
pub mod Depths
pub mod Needs
pub mod IsCode
pub mod Laws
