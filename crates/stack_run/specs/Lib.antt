pub mod RunEnds
pub mod Pieces
pub mod MachineView
