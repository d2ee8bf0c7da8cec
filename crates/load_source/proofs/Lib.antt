pub mod Steps
mod Examples
mod Sizes
