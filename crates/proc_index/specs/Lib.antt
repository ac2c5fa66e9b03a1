pub mod Keys
pub mod Places
pub mod ProcedureIndex
pub mod Laws
pub mod TakenClauses
