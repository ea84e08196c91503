pub mod Ends
pub mod Registers
pub mod Batches
