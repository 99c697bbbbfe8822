pub mod ChooseMeans
pub mod Handed
