pub mod ExpectedReplies
pub mod Answers
