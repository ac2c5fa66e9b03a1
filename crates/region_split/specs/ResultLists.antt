-- The results of a findall (ISO/IEC 13211-1, 8.10.1).
use Rattle.std.specs.Prelude.{◌≡◌, ◌≤◌, ℕ, ◌+◌, List, [], ◌∷◌, ◌++◌}
use Rattle.au_term.specs.Term.{Term, VarTerm, var_bound}
use Rattle.au_model.specs.Terms.Each.{Each}
use Rattle.au_model.specs.Terms.Copies.{copied, copy_takes}
use Rattle.au_model.specs.Terms.Substitutions.{Substitution, value_of, resolve}

-- the results, and the next variable number after theirs
pub record ResultsView : Type 0 where
  pub terms : List Term
  pub next : ℕ

-- one more result, as a copy with the next numbers
abbrev pub with_copy : Term → ResultsView → ResultsView
with_copy t r = record { terms = r.terms ++ copied t r.next ∷ []; next = r.next + copy_takes t }

-- a term that nothing changes which leaves the numbers from this one on unbound
abbrev pub IsNumberedFrom : ℕ → Term → Type 0
IsNumberedFrom first t = (s : Substitution) → ((n : ℕ) → first ≤ n → value_of s n ≡ VarTerm n) → resolve s t ≡ t

-- results with numbers from this one on, all before their next
pub record AreResultsFrom (first : ℕ) (r : ResultsView) : Type 0 where
  pub next : first ≤ r.next
  pub above : Each (IsNumberedFrom first) r.terms
  pub below : Each (λ t. var_bound t ≤ r.next) r.terms
