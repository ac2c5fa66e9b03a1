-- From characters to terms.
pub mod Characters
pub mod Layout
pub mod Quoted
pub mod Numerals
pub mod Words
pub mod Tokens
pub mod Operators
pub mod OperatorChanges
pub mod Trees
pub mod PostOperators
pub mod Primaries
pub mod Spelling
pub mod VariableNumbers
pub mod TermTexts
pub mod TextFaults
