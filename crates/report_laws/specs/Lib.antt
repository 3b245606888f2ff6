pub mod SeenHeads
