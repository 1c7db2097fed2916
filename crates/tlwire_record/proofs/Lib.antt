pub mod DigitLaws
pub mod FieldWords
pub mod ValueWords
pub mod Lines
pub mod Offsets
