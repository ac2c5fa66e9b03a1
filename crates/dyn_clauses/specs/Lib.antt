pub mod PositionIndex
pub mod KeyedClauses
pub mod DatabaseView
pub mod ClauseEnds
