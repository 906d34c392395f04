pub mod SlotLaws
pub mod RowLaws
pub mod HostLaws
pub mod StepLaws
