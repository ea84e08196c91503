pub mod Meaning
pub mod Whole
pub mod Fixed
pub mod Float
pub mod Floats
