pub mod CommandLines
pub mod CommandTexts
pub mod CommandKinds
pub mod Printing
pub mod Log
pub mod Watching
pub mod Bits
pub mod Scenes
