pub mod Types
pub mod Read
