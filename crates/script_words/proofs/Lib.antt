mod Numerals
mod Splits
mod HexBytes
mod SkipLists
mod Pushes
mod Headers
