pub mod Judged
pub mod Copies
pub mod Files
pub mod Walks
pub mod Judgements
