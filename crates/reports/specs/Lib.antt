pub mod Counting
pub mod Reporting
pub mod FromFile
pub mod Promise
pub mod Excluded
