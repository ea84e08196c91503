pub mod Filled
pub mod Counts
pub mod Ends
pub mod SameWords
pub mod Together
pub mod WrittenWords
pub mod Allowed
