pub mod Faults
pub mod Grounds
pub mod Histories
pub mod Labels
pub mod Queues
pub mod Questions
pub mod Stages
pub mod Traces
