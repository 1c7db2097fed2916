pub mod Lifeline
pub mod Message
pub mod Turn
pub mod Chart
