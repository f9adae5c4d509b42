pub mod Listing
pub mod ListingOrder
pub mod ListingPoints
pub mod ListingWriting
pub mod ListingSmallest
