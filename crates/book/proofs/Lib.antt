pub mod Keeping
pub mod Running
pub mod Walking
pub mod Loading
pub mod Filing
pub mod Telling
