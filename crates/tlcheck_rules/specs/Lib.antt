pub mod Differs
pub mod Judged
pub mod Order
pub mod Rules
