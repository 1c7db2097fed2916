pub mod DirectoryLaws
pub mod MoveLaws
pub mod CrossingLaws
pub mod ServeLaws
