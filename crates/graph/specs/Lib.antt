pub mod Members
pub mod Graphs
pub mod Laws
pub mod Splitting
pub mod Stored
pub mod Listed
pub mod Finding
pub mod Answers
