-- What arguments ask of the parts of an atom.
use Rattle.std.specs.Prelude.{◌≡◌, ◌-◌, ◌≤◌, ◌++◌, ℕ, Bool, true, List, length, map, Option, Some, None, Vec, MatchOption}
use Rattle.std.specs.Global.{Global}
use Rattle.au_term.specs.Term.{Term}
use Rattle.au_model.specs.Terms.Forms.{same_name}
use Rattle.run_model.specs.Goals.Outcomes.{Solution}
use Rattle.run_model.specs.Goals.AtomParts.{PartArguments, split_solution, splits_for, admits_atom, admits_count, fits_part, part_at}
use Rattle.std_builtins.specs.Agreements.{AreAgreements}
use Rattle.std_builtins.specs.declared.asked.Asked.{Asked}
use Rattle.std_builtins.specs.declared.sub_atom.PartsAsked.{PartsAsked}

abbrev pub admits_characters : Option (Vec ℕ Global) → List ℕ → Bool
admits_characters None cs = true
admits_characters (Some characters) cs = same_name characters.items cs

-- the characters are those that the term asks for
abbrev pub IsAskedText : Asked → Type 0
IsAskedText asked = (cs : List ℕ) → admits_characters asked.characters cs ≡ admits_atom asked.term.now cs

-- how far a bound part, put before a text, agrees with what stands at each of the text's places
abbrev pub AreAskedAgreements : Option (Vec ℕ Global) → List ℕ → List ℕ → Type 0
AreAskedAgreements o cs ks = MatchOption o (Unit {0}) (λ part. AreAgreements (part.items ++ cs) ks)

-- no other number is admitted
abbrev pub IsOnlyCount : Term → Option ℕ → Type 0
IsOnlyCount t o = MatchOption o (Unit {0}) (λ n. (k : ℕ) → admits_count t k ≡ true → k ≡ n)

abbrev pub asked_meant : PartsAsked → PartArguments
asked_meant asked = record { before = asked.before.now; length = asked.length.now; after = asked.after.now; text = asked.text.term.now }

-- of the parts with so many characters from their beginning to the atom's end, no other length fits
abbrev pub IsOnlyLength : PartsAsked → ℕ → Option ℕ → Type 0
IsOnlyLength asked rest o = MatchOption o (Unit {0}) (λ n. (cs : List ℕ) (k m : ℕ) → length cs - k ≡ rest → m ≤ rest → fits_part (asked_meant asked) (part_at cs k m) ≡ true → m ≡ n)

-- the solutions that take characters apart
abbrev pub split_solutions : Asked → Asked → List ℕ → List Solution
split_solutions first second cs = map (split_solution first.term.now second.term.now) (splits_for first.term.now second.term.now cs)
