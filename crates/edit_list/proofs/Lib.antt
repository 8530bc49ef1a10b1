pub mod Puts
pub mod Undoing
pub mod PieceLists
pub mod Totals
pub mod ForCallers
