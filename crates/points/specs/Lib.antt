pub mod Cuttable
pub mod Geometry
pub mod Lines
pub mod Excluded
