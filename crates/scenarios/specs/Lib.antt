pub mod Replies
pub mod Answering
