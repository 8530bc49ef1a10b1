pub mod Tried
mod Written
