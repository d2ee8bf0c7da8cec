pub mod States
pub mod Sites
