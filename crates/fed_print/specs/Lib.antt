pub mod Answers
pub mod Dialogs
pub mod Lines
pub mod Object
pub mod Objects
pub mod Records
pub mod Written
