pub mod Pool
pub mod Machine
pub mod Laws
