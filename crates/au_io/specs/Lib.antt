pub mod FaultCounts
pub mod MemoryFiles
