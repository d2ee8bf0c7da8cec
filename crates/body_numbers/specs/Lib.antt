pub mod Maps
pub mod Open
pub mod Views
pub mod Meant
pub mod Bodies
pub mod Assigned
