pub mod Film
pub mod Window
