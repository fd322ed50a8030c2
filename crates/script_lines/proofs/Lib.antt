mod TextLines
mod Passed
