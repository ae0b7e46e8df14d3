pub mod Determined
pub mod LongReplies
pub mod Numbered
pub mod Replies
