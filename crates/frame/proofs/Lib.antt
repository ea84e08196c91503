pub mod Sizes
pub mod Images
pub mod Places
pub mod Relabels
pub mod Samples
