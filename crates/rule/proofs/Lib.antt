pub mod Classing
pub mod Complete
pub mod Faults
pub mod Gathering
pub mod Sound
pub mod Terms
pub mod Walking
