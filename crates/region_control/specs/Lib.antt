pub mod Sides
pub mod Goals
pub mod Controls
pub mod Balls
pub mod Replies
pub mod GoalForms
pub mod Ahead
