pub mod Course
pub mod Courses
pub mod Ends
pub mod Keys
pub mod Opens
