pub mod SourceSites
pub mod Rows
