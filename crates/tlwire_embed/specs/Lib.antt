pub mod Histories
pub mod Lines
pub mod Opens
pub mod Sees
pub mod Told
