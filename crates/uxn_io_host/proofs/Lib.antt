mod Bytes
mod Counting
mod PathTexts
mod Sorting
