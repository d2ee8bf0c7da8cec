pub mod Laws
pub mod BodyLaws
pub mod ThisLaws
