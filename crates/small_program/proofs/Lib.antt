pub mod Lists
pub mod Views
pub mod ClassFacts
pub mod MethodFacts
pub mod SiteFacts
pub mod SmallSound
