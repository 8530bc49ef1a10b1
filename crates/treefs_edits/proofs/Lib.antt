pub mod Begun
pub mod Left
pub mod Written
