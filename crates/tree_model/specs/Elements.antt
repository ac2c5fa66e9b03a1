-- The list of what is left to do, with names of scopes in place of heights.
use Rattle.std.specs.Prelude.{ℕ, Bool, true, false, ◌&&◌, ◌==◌, List, [], ◌∷◌, Option}
use Rattle.au_term.specs.Term.{Term}
use Rattle.run_model.specs.Machine.Items.{Continuation}

-- the name of a scope, of an entry or of what an entry makes: whatever an entry makes has a name that extends its own
abbrev pub Name : Type 0
Name = List ℕ

abbrev pub same : Name → Name → Bool
same [] [] = true
same [] (b ∷ bs) = false
same (a ∷ names) [] = false
same (a ∷ names) (b ∷ bs) = (a == b) && same names bs

-- what was collected, and the scope of the findall goal for which it was
abbrev pub Record : Type 0
Record = Name × Term

pub data Element : Type 0 where
  -- inferences that change nothing, taken one by one, and the records that go down after them
  Credit : ℕ → List Record → Element
  -- an entry's own name, and what is left to do
  Plain : Name → Continuation Name → Element
  -- what stands to the right lies below this scope
  EndOf : Name → Element
  -- the scope of the goal that is guarded, which ends right above; the scope that ends right below; what is caught, the
  -- recovery; the entry's own name, and what follows
  Catch : Name → Name → Term → Term → Name → Continuation Name → Element
  -- the scope of the goal that is run through, which ends right above; the scope that ends right below; the results so
  -- far, what their list is unified with; the entry's own name, and what follows
  Findall : Name → Name → List Term → Term → Name → Continuation Name → Element
  -- the end of a query, with its uncaught ball if there is one
  End : Name → Option Term → Element
