pub mod Alone
pub mod BinAnswers
pub mod Choices
