pub mod Cases
pub mod Decide
pub mod Shown
pub mod Layered
pub mod Clearances
