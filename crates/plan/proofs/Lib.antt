pub mod Drawn
pub mod Faults
pub mod Measures
pub mod Overs
pub mod Puts
