pub mod Banks
pub mod Carried
pub mod Conclusion
pub mod Loops
pub mod RunError
