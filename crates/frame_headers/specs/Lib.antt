pub mod Flags
pub mod Layout
pub mod Frame
pub mod Class
pub mod Sum
pub mod Headers
pub mod HeaderLaws
