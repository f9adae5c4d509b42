-- The root.
pub mod Words
pub mod WordsLaws
pub mod Reading
