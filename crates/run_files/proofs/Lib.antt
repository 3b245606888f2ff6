mod DumpLemmas
mod LoadedTexts
mod LoadedParts
pub mod StoredFiles
mod SeenParts
