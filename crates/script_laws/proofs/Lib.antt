mod Texts
mod Parting
mod Numbers
mod Bytes
mod Made
mod Lining
pub mod Happens
pub mod Lawful
mod Nexts
pub mod SoFar
