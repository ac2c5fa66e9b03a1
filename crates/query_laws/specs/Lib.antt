pub mod QueriesCounted
