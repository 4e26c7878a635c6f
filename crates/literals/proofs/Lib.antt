mod Shapes
mod Suffixes
