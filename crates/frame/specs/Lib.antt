pub mod Image
pub mod Size
pub mod Layout
pub mod Relabel
pub mod Pixel
pub mod Frames
