-- The variables of an entry are below its next number, so that a new one is new.
use Rattle.std.specs.Prelude.{ℕ, ◌≤◌, List}
use Rattle.au_term.specs.Term.{Term, var_bound}
use Rattle.au_model.specs.Terms.Each.{Each}
use Rattle.au_model.specs.Terms.Named.{NamedTerm}
use Rattle.run_model.specs.Machine.Items.{Item, GoalItem, CatchMark, CollectMark, RemovalItem, Continuation}
use Rattle.run_model.specs.Machine.Entries.{Entry, PlainEntry, CatchEntry, FindallEntry, EndEntry}

-- the variables of a term are below a number
abbrev pub IsTermBelow : ℕ → Term → Type 0
IsTermBelow b t = var_bound t ≤ b

abbrev pub AreTermsBelow : ℕ → List Term → Type 0
AreTermsBelow b ts = Each (IsTermBelow b) ts

abbrev pub AreItemTermsBelow : {N : Type 0} → ℕ → Item N → Type 0
AreItemTermsBelow b (GoalItem t h) = IsTermBelow b t
AreItemTermsBelow b (CatchMark h) = Unit {0}
AreItemTermsBelow b (CollectMark t h) = IsTermBelow b t
AreItemTermsBelow b (RemovalItem number) = Unit {0}

abbrev pub IsNamedBelow : ℕ → NamedTerm → Type 0
IsNamedBelow b v = IsTermBelow b v.term

-- the variables of what follows are below its next number
pub record IsContinuationNumbered {N : Type 0} (f : Continuation N) : Type 0 where
  pub items : Each (AreItemTermsBelow f.next) f.items
  pub named : Each (IsNamedBelow f.next) f.named

abbrev pub IsEntryNumbered : Entry → Type 0
IsEntryNumbered (PlainEntry f) = IsContinuationNumbered f
IsEntryNumbered (CatchEntry c r f) = IsTermBelow f.next c × IsTermBelow f.next r × IsContinuationNumbered f
IsEntryNumbered (FindallEntry results l f) = AreTermsBelow f.next results × IsTermBelow f.next l × IsContinuationNumbered f
IsEntryNumbered (EndEntry b) = Unit {0}

abbrev pub AreEntriesNumbered : List Entry → Type 0
AreEntriesNumbered es = Each IsEntryNumbered es
