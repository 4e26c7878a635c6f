mod Counting
mod Hexadecimal
mod Rules
