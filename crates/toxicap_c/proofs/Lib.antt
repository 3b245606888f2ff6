mod LaidParts
mod ToldEnds
