pub mod Promise
pub mod RepairLaws
