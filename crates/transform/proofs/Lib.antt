pub mod Throughout
pub mod Outs
pub mod Right
pub mod First
pub mod Kept
pub mod StepSound
