pub mod Asking
pub mod Stepping
pub mod Sending
