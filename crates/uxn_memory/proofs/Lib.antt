mod Runs
mod Kept
