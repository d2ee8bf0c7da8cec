mod Sets
pub mod Tables
pub mod Writing
pub mod Whole
