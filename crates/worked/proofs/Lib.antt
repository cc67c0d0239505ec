pub mod Laying
pub mod Placed
