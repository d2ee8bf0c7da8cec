pub mod Falling
pub mod Steps
pub mod Overriding
pub mod Numbers
pub mod Descending
pub mod Walking
