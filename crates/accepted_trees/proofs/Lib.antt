pub mod sites
pub mod classes
pub mod RulesKept
pub mod members
pub mod bodies
pub mod sizes
pub mod Whole
