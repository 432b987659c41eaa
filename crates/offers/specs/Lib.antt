pub mod Refusals
pub mod Offers
pub mod Surveys
