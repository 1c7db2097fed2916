pub mod AgentLaws
pub mod AnswerLaws
pub mod RoundLaws
pub mod ServeLaws
