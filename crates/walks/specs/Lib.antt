pub mod Networks
pub mod Labels
pub mod Laws
pub mod Loop
