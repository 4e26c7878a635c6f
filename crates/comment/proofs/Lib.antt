mod Docs
mod Blocks
mod Rules
