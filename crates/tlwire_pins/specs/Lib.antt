pub mod Drops
pub mod Impossible
pub mod Judged
pub mod Pins
pub mod Taps
pub mod View
pub mod Walk
