-- The root.
pub mod Form
pub mod Reading
pub mod Again
pub mod FormLaws
pub mod AgainLaws
pub mod Order
