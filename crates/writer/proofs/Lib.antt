pub mod Puts
pub mod Wrote
pub mod Sizes
pub mod Integers
pub mod Headers
pub mod Bits
pub mod Writes
pub mod WriteRules
