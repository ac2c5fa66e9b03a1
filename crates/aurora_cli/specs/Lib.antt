pub mod CommandWords
pub mod ProgramTexts
pub mod Endings
pub mod LoadFaults
pub mod Notes
