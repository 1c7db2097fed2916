pub mod RoundLaws
pub mod WayLaws
