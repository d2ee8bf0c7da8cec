pub mod Left
pub mod Spans
pub mod ReadsBack
