pub mod EntriesChecked
pub mod Entries
pub mod EntriesOfWire
pub mod EntriesFew
pub mod Excluded
