pub mod SolvedSolutions
pub mod SolutionBranches
pub mod RepliesNext
pub mod RaisedBalls
pub mod KeptAtFront
