pub mod Rows
pub mod Ledgers
pub mod Refusals
pub mod Rules
pub mod Books
pub mod Files
pub mod Runs
pub mod Inner
