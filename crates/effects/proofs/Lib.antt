mod Numbered
mod MarkedCounts
mod Replays
