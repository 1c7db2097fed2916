pub mod Certified
pub mod Left
pub mod Ordered
pub mod Plain
pub mod PlainBlock
pub mod PlainState
pub mod States
