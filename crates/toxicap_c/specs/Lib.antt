pub mod Statuses
pub mod Buffers
pub mod Refusals
pub mod Endings
pub mod Calls
