-- Results with copies of records behind them.
use Rattle.std.proofs.Common.{◌≡◌, ℕ, ◌+◌, ◌≤◌, List, [], ◌∷◌, ◌++◌, map, refl, sym, ap, ◌∙◌, arith}
use Rattle.std.proofs.lemmas.List.{map-append}
use Rattle.std.specs.Prelude.{codes}
use Rattle.au_term.specs.Term.{Term, VarTerm, var_bound}
use Rattle.au_model.specs.Terms.Copies.{copied, copy_takes}
use Rattle.au_model.specs.Terms.Each.{Each}
use Rattle.au_model.specs.Terms.Forms.{binary, list_term}
use Rattle.au_model.specs.Terms.Substitutions.{Substitution, value_of, resolve}
use Rattle.au_model.proofs.EachLemmas.{each-append, each-more}
use Rattle.au_model.proofs.VariableBoundLemmas.{copied-below}
use Rattle.run_model.specs.Machine.Entries.{FindallEntry}
use Rattle.run_model.specs.Machine.Items.{Continuation, with_next}
use Rattle.tree_model.specs.Closing.{with_results}
use Rattle.region_split.specs.ResultLists.{ResultsView, with_copy}
use Rattle.region_split.proofs.ResultLemmas.{copy_unbound}
use Rattle.task_stops.specs.GatheredResults.{gathered}

-- they are those of the definition
pub gathered_entry : (ts : List Term) (r : ResultsView) (l : Term) (f : Continuation ℕ) → with_results ts (FindallEntry r.terms l (with_next r.next f))
    ≡ FindallEntry (gathered ts r).terms l (with_next (gathered ts r).next f)
gathered_entry [] r l f = refl
gathered_entry (t ∷ ts) r l f = gathered_entry ts (with_copy t r) l f

-- their variables are before their next number
pub gathered_below : (ts : List Term) (r : ResultsView) → Each (λ t. var_bound t ≤ r.next) r.terms → Each (λ t. var_bound t ≤ (gathered ts r).next) (gathered ts r).terms
gathered_below [] r h = h
gathered_below (t ∷ ts) r h =
    gathered_below ts (with_copy t r)
    (each-append (λ u. var_bound u ≤ r.next + copy_takes t) r.terms (copied t r.next ∷ [])
    (each-more (λ u. var_bound u ≤ r.next) (λ u. var_bound u ≤ r.next + copy_takes t) (λ u le. omega (arith, le)) r.terms h)
    (copied-below t r.next, tt))

pub gathered_more : (ts : List Term) (r : ResultsView) → r.next ≤ (gathered ts r).next
gathered_more [] r = omega arith
gathered_more (t ∷ ts) r = let h : r.next + copy_takes t ≤ (gathered ts (with_copy t r)).next = gathered_more ts (with_copy t r) in omega (arith, h)

-- bindings change the results alone where the numbers of the copies are unbound
pub gathered_bound : (s : Substitution) (ts : List Term) (r : ResultsView) → ((n : ℕ) → r.next ≤ n → value_of s n ≡ VarTerm n)
    → gathered ts (record { terms = map (resolve s) r.terms; next = r.next }) ≡ record { terms = map (resolve s) (gathered ts r).terms; next = (gathered ts r).next }
gathered_bound s [] r free = refl
gathered_bound s (t ∷ ts) r free =
    let copies : map (resolve s) r.terms ++ copied t r.next ∷ [] ≡ map (resolve s) (r.terms ++ copied t r.next ∷ [])
    = ap (λ u. map (resolve s) r.terms ++ u ∷ []) (sym (copy_unbound s t r.next free)) ∙ sym (map-append (resolve s) r.terms (copied t r.next ∷ [])) in
    ap (λ us. gathered ts (let v : ResultsView = record { terms = us; next = r.next + copy_takes t } in v)) copies
    ∙ gathered_bound s ts (with_copy t r) (λ n le. free n (omega (arith, le)))

pub list_resolved : (s : Substitution) (ts : List Term) → resolve s (list_term ts) ≡ list_term (map (resolve s) ts)
list_resolved s [] = refl
list_resolved s (t ∷ ts) = ap (λ us. binary (codes ".") (resolve s t) us) (list_resolved s ts)

pub list_bound : (n : ℕ) (ts : List Term) → Each (λ t. var_bound t ≤ n) ts → var_bound (list_term ts) ≤ n
list_bound n [] h = omega arith
list_bound n (t ∷ ts) h = let a = h.0 in let b = list_bound n ts h.1 in omega (arith, a, b)
