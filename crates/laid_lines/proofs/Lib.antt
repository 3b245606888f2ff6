mod LineParts
mod LaidRows
