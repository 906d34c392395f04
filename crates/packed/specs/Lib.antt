pub mod Answer
pub mod Arrays
pub mod Bytes
pub mod Enrolment
pub mod Outgoing
pub mod Places
pub mod Table
