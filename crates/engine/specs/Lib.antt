pub mod Endings
pub mod Effects
pub mod Pixels
pub mod Start
pub mod Runs
pub mod Batches
