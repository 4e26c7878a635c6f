mod Rules
mod Names
