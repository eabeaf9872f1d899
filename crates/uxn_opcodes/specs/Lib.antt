pub mod Words
pub mod Table
pub mod Rule
pub mod Ports
pub mod Instruction
pub mod Model
pub mod ModelLaws
