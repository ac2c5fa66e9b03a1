pub mod BudgetLemmas
pub mod EndingLemmas
pub mod NoteLemmas
pub mod OneRefusalLemmas
pub mod RefusalLemmas
