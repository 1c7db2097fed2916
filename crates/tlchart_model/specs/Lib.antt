pub mod Lifeline
pub mod Message
pub mod Arrow
pub mod Change
pub mod Chart
