pub mod Parameters
pub mod OpenNames
pub mod SeenUses
pub mod TopNames
pub mod UsesAgree
pub mod Bodies
pub mod Trees
pub mod Worked
