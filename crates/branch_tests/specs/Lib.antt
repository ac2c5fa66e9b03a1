pub mod SettledBranches
