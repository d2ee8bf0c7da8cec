pub mod Order
pub mod Selectors
pub mod TextSites
pub mod Tables
pub mod FewArguments
