pub mod Inbox
pub mod Delivery
pub mod Bell
pub mod Ringing
pub mod Ends
pub mod Shares
