mod SameBody
pub mod BuiltIn
