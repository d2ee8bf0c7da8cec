pub mod Tests
pub mod Free
pub mod Invocations
pub mod Follows
pub mod Sends
pub mod Does
