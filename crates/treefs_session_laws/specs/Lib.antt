pub mod Before
pub mod Written
pub mod Puts
