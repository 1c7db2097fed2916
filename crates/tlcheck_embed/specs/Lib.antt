pub mod Asked
pub mod Histories
pub mod Kinds
pub mod Opens
pub mod Sees
pub mod Told
