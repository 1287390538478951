pub mod Ends
pub mod Places
pub mod Read
pub mod Tables
