pub mod Values
pub mod Members
pub mod Numbers
pub mod Natives
pub mod Reads
pub mod Store
pub mod Doing
