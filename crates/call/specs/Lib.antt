pub mod Refusals
pub mod Setups
pub mod Tallies
pub mod Requests
pub mod Frames
pub mod Events
