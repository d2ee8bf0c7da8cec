pub mod Scans
pub mod Ends
pub mod FineExps
pub mod FineStas
pub mod Units
pub mod Bodies
pub mod Whole
