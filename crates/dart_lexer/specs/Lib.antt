pub mod Input
pub mod Signs
pub mod FirstFault
pub mod Model
