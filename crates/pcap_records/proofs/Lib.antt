mod FileBlocks
mod FileHeaders
mod HeadReading
mod PacketHeads
mod HeadLists
mod Passes
pub mod Running
mod Splitting
mod ReadingBack
