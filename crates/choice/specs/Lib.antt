pub mod BySlices
pub mod BySlicesLaws
pub mod Choose
pub mod ChooseLaws
