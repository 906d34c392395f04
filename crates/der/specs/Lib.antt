pub mod Types
pub mod Head
pub mod Content
pub mod Element
pub mod Integer
pub mod Code
pub mod Dozen
