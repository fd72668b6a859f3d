pub mod Choices
pub mod Lists
pub mod Tellings
pub mod WordedRuleLemmas
