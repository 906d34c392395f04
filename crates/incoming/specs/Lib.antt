pub mod Incoming
