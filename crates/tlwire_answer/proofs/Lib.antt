pub mod Advised
mod Asked
mod Clients
mod Firsts
mod Found
mod Replied
pub mod Texts
pub mod Told
