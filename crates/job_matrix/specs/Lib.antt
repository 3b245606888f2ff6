pub mod Plans
pub mod Counting
pub mod Trays
pub mod Boards
pub mod BoardWorld
