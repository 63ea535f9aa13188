pub mod Answers
pub mod Sent
pub mod Values
pub mod Normal
