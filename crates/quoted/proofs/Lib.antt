mod Quotes
mod Pounds
mod Closes
mod Opens
