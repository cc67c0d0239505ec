pub mod Fields
pub mod Grammar
pub mod Messages
pub mod Places
pub mod Steps
pub mod Tables
pub mod Written
