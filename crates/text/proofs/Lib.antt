pub mod Once
pub mod Parting
pub mod Playing
pub mod Reading
pub mod Shaping
pub mod Spelling
