pub mod Agents
pub mod Answers
pub mod Homes
pub mod Rounds
