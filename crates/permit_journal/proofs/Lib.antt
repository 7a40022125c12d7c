pub mod Growing
mod Behind
