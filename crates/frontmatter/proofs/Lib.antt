mod Patterns
mod Seeks
mod Fences
mod Recoveries
mod Rules
