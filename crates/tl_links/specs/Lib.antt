pub mod Keys
pub mod Table
pub mod Wanted
