-- The laws of the judge.
pub mod Sound
pub mod Acting
pub mod Touching
pub mod Opens
pub mod Answers
pub mod Leaving
pub mod Carrying
pub mod Telling
pub mod Beginnings
pub mod Places
pub mod Theorems
