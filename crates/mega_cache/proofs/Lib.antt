mod Homes
mod PlaceLaws
mod Programs
mod Keeps
mod Reading
mod Windows
mod Once
mod Tables
mod Cases
pub mod Laws
