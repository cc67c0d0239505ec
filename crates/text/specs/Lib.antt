pub mod Over
pub mod Writers
