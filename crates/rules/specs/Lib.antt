pub mod Ambiguity
pub mod Charges
pub mod Slots
pub mod Turns
pub mod Bounds
pub mod Counts
