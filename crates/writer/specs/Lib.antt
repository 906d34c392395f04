pub mod Types
pub mod Puts
pub mod Wrote
pub mod Sizes
pub mod Code
pub mod Write
pub mod WriteRules
