pub mod Cutting
pub mod Numerals
pub mod FirstFault
pub mod Tables
pub mod ScriptLimits
pub mod ScriptStepping
pub mod Versions
pub mod SetupStepping
