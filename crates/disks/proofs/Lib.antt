mod FolderPaths
mod PublishedFiles
