pub mod LeftOf
pub mod Walks
pub mod Clocks
pub mod Leftmosts
pub mod Meetings
pub mod Sought
