pub mod Steps
pub mod Answers
pub mod Closing
pub mod NetworkSteps
pub mod Ready
pub mod Rests
pub mod NetworkState
pub mod Would
