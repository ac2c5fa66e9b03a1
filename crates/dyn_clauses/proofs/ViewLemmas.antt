-- What callers see of the dynamic procedures, through each change.
use Rattle.std.proofs.Common.{◌≡◌, ◌∙◌, ℕ, ◌+◌, ◌<◌, Bool, true, false, cond, List, [], ◌∷◌, ◌++◌, map, refl, sym, ap, ap₂, subst, ◌==◌, ◌||◌}
use Rattle.std.specs.List.{AllZip, list_any}
use Rattle.std.specs.List.Sorted.{IsStrictlySortedBy}
use Rattle.std.specs.Ordering.{nat_cmp}
use Rattle.std.specs.Map.{keys_of, lookup}
use Rattle.std.specs.BTreeMap.{BTreeMap, insert_entry, is_at}
use Rattle.std.proofs.lemmas.List.Elements.{same_from_all_zip}
use Rattle.std.proofs.lemmas.Map.Entries.{entries_from_clone}
use Rattle.au_term.specs.Term.{argument_count}
use Rattle.au_model.specs.Terms.Forms.{name_of}
use Rattle.run_model.specs.Programs.Clauses.{Clause as ClauseTerms}
use Rattle.run_model.specs.Programs.Databases.{Database, DynamicProcedure, NumberedClause}
use Rattle.run_model.specs.Programs.DatabaseChanges.{next_clause, with_procedure}
use Rattle.proc_index.specs.declared.key.Key.{Key}
use Rattle.proc_index.specs.Keys.{may_match}
use Rattle.dyn_clauses.specs.declared.indicator.Indicator.{Indicator}
use Rattle.dyn_clauses.specs.declared.place.Place.{Place}
use Rattle.dyn_clauses.specs.declared.procedure.KeyedClause.{KeyedClause}
use Rattle.dyn_clauses.specs.declared.database.End.{End}
use Rattle.dyn_clauses.specs.declared.database.End.TheVariants.{First, Last}
use Rattle.dyn_clauses.specs.PositionIndex.{Placed, first_position, has_numbered, last_position, matching_clauses, middle, position_number, numbered_clauses, numbered_entry}
use Rattle.dyn_clauses.specs.KeyedClauses.{placed_entry}
use Rattle.dyn_clauses.specs.DatabaseView.{Entries, IsDatabase, KnownDatabase, clause_at, indicator_cmp, matching_numbered, procedures_meant, with_entry}
use Rattle.dyn_clauses.specs.ClauseEnds.{end_position, with_clause_at}
use Rattle.dyn_clauses.proofs.EntriesLemmas.{meant_with}
use Rattle.dyn_clauses.proofs.DatabaseLemmas.{database_same, number_first, number_last, put_first, put_last}

abbrev known_as : List Indicator → Database → KnownDatabase
known_as ss d = record { statics = ss; kept = d }

abbrev database_as : List DynamicProcedure → ℕ → Database
database_as ps n = record { procedures = ps; next = n }

pub changed : {old now : KnownDatabase} → old ≡ now → (g : Database → Database) (new : Database) → new ≡ g old.kept → known_as old.statics new ≡ known_as now.statics (g now.kept)
changed v g new e = ap₂ known_as (ap (λ (k : KnownDatabase). k.statics) v) (e ∙ ap (λ (k : KnownDatabase). g k.kept) v)

module _ (m : BTreeMap Indicator Placed) (a : BTreeMap ℕ Place) (n : ℕ) (h : IsDatabase m a n) (i : Indicator) (c : ClauseTerms) (name : i.name ≡ name_of c.head) (arity : i.arity ≡ argument_count c.head) (lt : n < middle) where
  abbrev before : Database
  before = database_as (procedures_meant m.entries) n

  named : (g : List NumberedClause → List NumberedClause) (es : Entries) → procedures_meant es ≡ with_procedure g i.name i.arity (procedures_meant m.entries)
      → database_as (procedures_meant es) (n + 1) ≡ database_as (with_procedure g (name_of c.head) (argument_count c.head) (procedures_meant m.entries)) (n + 1)
  named g es e = ap (λ ps. database_as ps (n + 1)) (e ∙ ap₂ (λ x y. with_procedure g x y (procedures_meant m.entries)) name arity)

  -- a clause at an end
  pub added : (end : End) (q : ℕ) (es : Entries) → q ≡ end_position end n → es ≡ with_entry (λ ps. insert_entry nat_cmp ps q c) i m.entries
      → database_as (procedures_meant es) (n + 1) ≡ with_clause_at end before c
  added First q es p e =
      let f = λ (ps : Placed). insert_entry nat_cmp ps (first_position n) c in
      let g = λ (cs : List NumberedClause). next_clause before c ∷ cs in
      named g es (ap procedures_meant (e ∙ ap (λ k. with_entry (λ ps. insert_entry nat_cmp ps k c) i m.entries) p)
      ∙ meant_with f i g m.entries (ap (λ k. (record { number = k; clause = c }) ∷ []) (number_first n lt)) (λ ps k. put_first m a n h i ps k c lt))
  added Last q es p e =
      let f = λ (ps : Placed). insert_entry nat_cmp ps (last_position n) c in
      let g = λ (cs : List NumberedClause). cs ++ next_clause before c ∷ [] in
      named g es (ap procedures_meant (e ∙ ap (λ k. with_entry (λ ps. insert_entry nat_cmp ps k c) i m.entries) p)
      ∙ meant_with f i g m.entries (ap (λ k. (record { number = k; clause = c }) ∷ []) (number_last n)) (λ ps k. put_last m a n h i ps k c))

-- the same entries
pub database_entries : (m n : BTreeMap Indicator Placed) (a b : BTreeMap ℕ Place) (number : ℕ) → IsDatabase m a number → n.entries ≡ m.entries → b.entries ≡ a.entries → IsDatabase n b number
database_entries m n a b number h e f =
    database_same m n a b number h (subst (λ (es : Entries). IsStrictlySortedBy indicator_cmp (keys_of es)) (sym e) h.kept.ordered) (λ j p. ap (λ (es : Entries). clause_at es j p) e) (λ k. ap (lookup (is_at (nat_cmp k))) f)

pub keys_cloned : (xs ys : List Indicator) → AllZip (λ x y. y ≡ x) xs ys → ys ≡ xs
keys_cloned xs ys h = same_from_all_zip (λ x y. y ≡ x) xs ys h (λ x y e. e)

pub entries_cloned : {K X : Type 0} (es fs : List (K × X)) → AllZip (λ p q. (q.0 ≡ p.0) × (q.1 ≡ p.1)) es fs → fs ≡ es
entries_cloned es fs h = entries_from_clone (λ x y. y ≡ x) (λ x y. y ≡ x) (λ x y e. e) (λ x y e. e) es fs h

pub matching_meant : (key : Key) (ps : Placed) → numbered_clauses (matching_clauses key ps) ≡ matching_numbered key (numbered_clauses ps)
matching_meant key [] = refl
matching_meant key (d ∷ ps) = go (may_match key d.1.head) (matching_meant key ps)
  where
    go : (b : Bool) → numbered_clauses (matching_clauses key ps) ≡ matching_numbered key (numbered_clauses ps)
        → numbered_clauses (cond b (d ∷ matching_clauses key ps) (matching_clauses key ps)) ≡ cond b (numbered_entry d ∷ matching_numbered key (numbered_clauses ps)) (matching_numbered key (numbered_clauses ps))
    go true e = ap (λ cs. numbered_entry d ∷ cs) e
    go false e = e

pub keys_numbered : (es : List (ℕ × KeyedClause)) (n : ℕ) → list_any (λ q. position_number q == n) (keys_of es) ≡ has_numbered (map placed_entry es) n
keys_numbered [] n = refl
keys_numbered (e ∷ es) n = ap (λ b. (position_number e.0 == n) || b) (keys_numbered es n)
