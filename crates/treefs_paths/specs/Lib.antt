pub mod Ways
pub mod Components
