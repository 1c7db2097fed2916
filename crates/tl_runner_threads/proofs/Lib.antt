pub mod CourseLaws
pub mod Deals
pub mod EndLaws
pub mod Sends
pub mod TurnLaws
