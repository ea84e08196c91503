pub mod LoneRuns
pub mod Lowest
pub mod Rounds
pub mod Laws
