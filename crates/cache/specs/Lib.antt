pub mod Choose
pub mod ChooseMeaning
pub mod Handed
pub mod Choice
pub mod HandedBack
