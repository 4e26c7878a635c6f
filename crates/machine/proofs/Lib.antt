pub mod Streams
mod Eating
mod ByTokens
mod ToCome
mod Goes
mod Literals
mod RawRule
mod NumberRule
mod Begins
mod Words
mod Strings
mod RawStrings
mod Prefixed
mod Quotes
mod Lifetimes
mod Numbers
mod LineComments
mod BlockComments
mod Runs
pub mod Meets
mod Room
pub mod Cut
mod Tidy
mod TidySteps
mod Clean
pub mod LineEnds
pub mod Small
