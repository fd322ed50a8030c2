pub mod Texts
mod TapTexts
