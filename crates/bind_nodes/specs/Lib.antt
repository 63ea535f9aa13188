pub mod Cases
pub mod Views
