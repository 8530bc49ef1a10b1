pub mod Names
pub mod Numbers
pub mod Operands
pub mod Assembly
pub mod Printing
pub mod Faults
