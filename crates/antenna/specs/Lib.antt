pub mod Exactly
pub mod Room
pub mod Excluded
pub mod AcceptedCalls
pub mod Reported
pub mod Clearances
