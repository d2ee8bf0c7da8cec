pub mod Constants
pub mod Out
pub mod Views
pub mod Emitted
pub mod EmittedStatements
pub mod Laws
