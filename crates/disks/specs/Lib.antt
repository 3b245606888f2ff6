pub mod FileContents
pub mod DraftPaths
pub mod ReadFiles
pub mod Histories
pub mod Standing
pub mod MemoryDisks
pub mod ToldOfMemory
pub mod FoundFiles
