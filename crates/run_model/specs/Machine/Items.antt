-- What is left to do of one alternative (a continuation of ISO/IEC 13211-1, 7.7.2), N being what names a scope.
use Rattle.std.specs.Prelude.{ℕ, List, [], ◌∷◌, ◌++◌, Option, Some, None, map}
use Rattle.au_term.specs.Term.{Term}
use Rattle.au_model.specs.Terms.Substitutions.{Substitution, resolve}
use Rattle.au_model.specs.Terms.Named.{NamedTerm}

pub data Item (N : Type 0) : Type 0 where
  -- a goal, and the scope to which a cut in it cuts
  GoalItem : Term → N → Item N
  -- the end of what a catch guards
  CatchMark : N → Item N
  -- a solution of a findall goal: what is collected, and for which findall
  CollectMark : Term → N → Item N
  -- the clause of this number is removed
  RemovalItem : ℕ → Item N

-- items, the terms of the query's named variables, and the next variable number, every binding applied
pub record Continuation (N : Type 0) : Type 0 where
  pub items : List (Item N)
  pub named : List NamedTerm
  pub next : ℕ

abbrev pub resolve_item : {N : Type 0} → Substitution → Item N → Item N
resolve_item s (GoalItem t h) = GoalItem (resolve s t) h
resolve_item s (CatchMark h) = CatchMark h
resolve_item s (CollectMark t h) = CollectMark (resolve s t) h
resolve_item s (RemovalItem number) = RemovalItem number

abbrev pub resolve_named : Substitution → NamedTerm → NamedTerm
resolve_named s v = record v { term = resolve s v.term }

abbrev pub resolve_continuation : {N : Type 0} → Substitution → Continuation N → Continuation N
resolve_continuation s f = record { items = map (resolve_item s) f.items; named = map (resolve_named s) f.named; next = f.next }

-- goals in one scope
abbrev pub goals_at : {N : Type 0} → N → List Term → List (Item N)
goals_at h gs = map (λ g. GoalItem g h) gs

abbrev pub with_items : {N : Type 0} → List (Item N) → Continuation N → Continuation N
with_items items f = record { items = items; named = f.named; next = f.next }

-- items before what follows
abbrev pub before : {N : Type 0} → List (Item N) → Continuation N → Continuation N
before items f = with_items (items ++ f.items) f

-- the removal of a clause, where one is named
abbrev pub removal_items : {N : Type 0} → Option ℕ → List (Item N)
removal_items (Some number) = RemovalItem number ∷ []
removal_items None = []

-- and before what follows
abbrev pub removing : {N : Type 0} → Option ℕ → Continuation N → Continuation N
removing number f = before (removal_items number) f

abbrev pub with_next : {N : Type 0} → ℕ → Continuation N → Continuation N
with_next n f = record { items = f.items; named = f.named; next = n }

-- the items after the catch marks in front
abbrev pub without_marks : {N : Type 0} → List (Item N) → List (Item N)
without_marks [] = []
without_marks (CatchMark h ∷ items) = without_marks items
without_marks (i ∷ items) = i ∷ items

-- the first catch mark
abbrev pub first_mark : {N : Type 0} → List (Item N) → Option N
first_mark [] = None
first_mark (CatchMark h ∷ items) = Some h
first_mark (i ∷ items) = first_mark items
