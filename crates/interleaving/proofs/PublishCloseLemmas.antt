-- An alternative whose run leaves nothing, or a result alone, may close: the pending list runs as before.
use Rattle.std.proofs.Common.{◌≡◌, ℕ, zero, suc, ◌+◌, true, false, List, [], ◌∷◌, Option, Some, None, refl, sym, ap, ◌∙◌, subst, arith}
use Rattle.run_model.specs.Programs.Clauses.{Clause}
use Rattle.run_model.specs.Machine.Items.{Continuation}
use Rattle.run_model.specs.Machine.Entries.{Entry, PlainEntry, CatchEntry, FindallEntry, EndEntry}
use Rattle.tree_model.specs.Elements.{Element}
use Rattle.interleaving.specs.Sound.{IsSound}
use Rattle.interleaving.specs.Machine.{Alike}
use Rattle.interleaving.specs.Scopes.{scoped}
use Rattle.tree_model.specs.Nodes.{Pending}
use Rattle.tree_model.specs.Levels.{Level, plug, Spot, levels_of}
use Rattle.tree_model.specs.Floors.{with_heights}
use Rattle.tree_model.specs.PrivateRuns.{private_run}
use Rattle.tree_model.specs.TreeStates.{TreeState}
use Rattle.tree_model.specs.Legality.{run_of}
use Rattle.tree_model.specs.PendingLists.{way_of, pending_list}
use Rattle.tree_model.specs.Ways.{is_on, IsOnWay, IsAwake}
use Rattle.tree_model.specs.SoundTrees.{IsOpen, profile}
use Rattle.interleaving.proofs.ListRoundLemmas.{around}
use Rattle.interleaving.proofs.WayLemmas.{off_way}
use Rattle.interleaving.proofs.PlacedEntryLemmas.{IsAt}
use Rattle.interleaving.proofs.LegalLemmas.{awake_entry, end_rests}
use Rattle.interleaving.proofs.PublishedBareLemmas.{list_before}
use Rattle.au_term.specs.Term.{Term}
use Rattle.run_model.specs.Machine.Items.{Item, GoalItem, CatchMark, CollectMark, RemovalItem}
use Rattle.tree_model.specs.Credits.{Credit as ClosedCredit, credit_of}
use Rattle.tree_model.specs.Nodes.{Closed}
use Rattle.tree_model.specs.Legality.{run_is_empty, run_gives_result}
use Rattle.tree_model.specs.Effects.{result_of, results_of}
use Rattle.interleaving.proofs.PublishEventLemmas.{before_list}
use Rattle.interleaving.proofs.PublishedEndLemmas.{list_closed, closed_sound, emptied_alike}
use Rattle.interleaving.proofs.PublishedResultLemmas.{list_result, collected_alike}
use Rattle.au_term.proofs.LogicLemmas.{false_true}

-- the list with the place closed, before anything folds
closed_list : (v : Level) (up : List Level) (k : ℕ) → pending_list (plug (v ∷ up) (Closed (credit_of k))) ≡ list_closed v up k
closed_list v up k = around (v ∷ up) (Closed (credit_of k))

abbrev pub credit_with_result : ℕ → Term → ClosedCredit
credit_with_result k t = record { inferences = k; answers = 0; records = t ∷ [] }

result_list : (v : Level) (up : List Level) (k : ℕ) (t : Term) → pending_list (plug (v ∷ up) (Closed (credit_with_result k t)))
    ≡ list_result v up k t
result_list v up k t = around (v ∷ up) (Closed (credit_with_result k t))

-- an end leaves itself
end_left : (clauses : List Clause) (t : TreeState) (s : Spot) (b : Option Term) (k : ℕ) (es : List Entry)
    → private_run t.job.clauses (levels_of s) (EndEntry b) k ≡ Some es → es ≡ EndEntry b ∷ []
unfolding private_run
end_left clauses t s b zero es e = let same : EndEntry b ∷ [] ≡ es = cc in sym same
end_left clauses t s b (suc k) es e = absurd (none_some (sym (end_rests t s b k) ∙ e))
  where
    none_some : None ≡ Some es → ⊥
    none_some z = cc

-- what is known where an alternative closes
pub record IsClosing (t : TreeState) (s : Spot) : Type 0 where
  pub at : IsAt t s
  pub inside : plug (levels_of s) (Pending s.hold s.entry) ≡ t.root
  -- nothing was spent on it before
  pub unspent : s.level.spent ≡ 0

pub record Closes (clauses : List Clause) (xs ys : List Element) : Type 0 where
  pub alike : Alike (scoped clauses) xs ys
  pub sound : IsSound ys

module _ (t : TreeState) (s : Spot) (c : IsClosing t s) (k : ℕ) where
  off : is_on (way_of (levels_of s)) t.next ≡ false
  off = off_way t.next (levels_of s) (c.at.free.fresh t.next (omega arith))

  -- by the entry
  empty_entry : (e : Entry) → profile (Pending s.hold e) ≡ IsOpen → IsAwake e → IsOnWay (way_of (levels_of s)) e
      → private_run t.job.clauses (levels_of s) (with_heights (levels_of s) e) k ≡ Some []
      → IsSound (pending_list (plug (levels_of s) (Pending s.hold e))) →
      Closes t.job.clauses (pending_list (plug (levels_of s) (Pending s.hold e))) (pending_list (plug (levels_of s) (Closed (credit_of k))))
  empty_entry (CatchEntry x r f) o w h run before = absurd w
  empty_entry (FindallEntry results l f) o w h run before = absurd w
  empty_entry (EndEntry b) o w h run before = absurd (no_entry (end_left t.job.clauses t s b k [] run))
    where
      no_entry : [] ≡ EndEntry b ∷ [] → ⊥
      no_entry z = cc
  empty_entry (PlainEntry f) o w h run before =
      let old = before_list s.level s.above s.hold f o in
      let none : s.level.spent + k ≡ k = omega (arith, c.unspent) in
      let old_sound = subst IsSound old before in
      let alike = emptied_alike t.job.clauses s.level s.above t.next f c.at.free c.at.placed.around h off k run s.level.spent old_sound in
      let sound = closed_sound t.job.clauses s.level s.above t.next f c.at.free c.at.placed.around h off k s.level.spent old_sound in
      let new : pending_list (plug (levels_of s) (Closed (credit_of k))) ≡ list_closed s.level s.above (s.level.spent + k) = closed_list
      s.level s.above k ∙ ap (list_closed s.level s.above) (sym none) in
      record {
        alike = subst (λ l. Alike (scoped t.job.clauses) l (pending_list (plug (levels_of s) (Closed (credit_of k))))) (sym old)
            (subst (λ l. Alike (scoped t.job.clauses) (list_before s.level s.above s.level.spent f) l) (sym new) alike);
        sound = subst IsSound (sym new) sound;
      }

  result_entry : (e : Entry) → profile (Pending s.hold e) ≡ IsOpen → IsAwake e → IsOnWay (way_of (levels_of s)) e
      → (g : Continuation ℕ) (x : Term) (hh : ℕ) (gs : List (Item ℕ)) → g.items ≡ CollectMark x hh ∷ gs →
      private_run t.job.clauses (levels_of s) (with_heights (levels_of s) e) k ≡ Some (PlainEntry g ∷ [])
      → IsSound (pending_list (plug (levels_of s) (Pending s.hold e)))
      → IsSound (pending_list (plug (levels_of s) (Closed (credit_with_result k x)))) →
      Alike (scoped t.job.clauses) (pending_list (plug (levels_of s) (Pending s.hold e)))
      (pending_list (plug (levels_of s) (Closed (credit_with_result k x))))
  result_entry (CatchEntry y r f) o w h g x hh gs first run before after = absurd w
  result_entry (FindallEntry results l f) o w h g x hh gs first run before after = absurd w
  result_entry (EndEntry b) o w h g x hh gs first run before after = absurd
      (no_entry (end_left t.job.clauses t s b k (PlainEntry g ∷ []) run))
    where
      no_entry : PlainEntry g ∷ [] ≡ EndEntry b ∷ [] → ⊥
      no_entry z = cc
  result_entry (PlainEntry f) o w h g x hh gs first run before after =
      let old = before_list s.level s.above s.hold f o in
      let none : s.level.spent + k ≡ k = omega (arith, c.unspent) in
      let new : pending_list (plug (levels_of s) (Closed (credit_with_result k x))) ≡ list_result s.level s.above (s.level.spent + k) x
      = result_list s.level s.above k x ∙ ap (λ n. list_result s.level s.above n x) (sym none) in
      let alike = collected_alike t.job.clauses s.level s.above t.next f c.at.free c.at.placed.around h off k g x hh gs first run
      s.level.spent (subst IsSound old before) (subst IsSound new after) in
      subst (λ l. Alike (scoped t.job.clauses) l (pending_list (plug (levels_of s) (Closed (credit_with_result k x))))) (sym old)
      (subst (λ l. Alike (scoped t.job.clauses) (list_before s.level s.above s.level.spent f) l) (sym new) alike)

-- a legal empty or collected publish: the list with the place closed
pub empty_closes : (t : TreeState) (s : Spot) (k : ℕ) → IsClosing t s → run_is_empty (run_of t s k) ≡ true
    → IsSound (pending_list t.root)
    → Closes t.job.clauses (pending_list t.root) (pending_list (plug (levels_of s) (Closed (credit_of k))))
unfolding run_of
empty_closes t s k c l before = go (run_of t s k) refl l
  where
    go : (o : Option (List Entry)) → private_run t.job.clauses (levels_of s) (with_heights (levels_of s) s.entry) k ≡ o → run_is_empty o
        ≡ true → Closes t.job.clauses (pending_list t.root) (pending_list (plug (levels_of s) (Closed (credit_of k))))
    go None e l = absurd (false_true l)
    go (Some (x ∷ es)) e l = absurd (false_true l)
    go (Some []) e l =
        subst (λ r. Closes t.job.clauses (pending_list r) (pending_list (plug (levels_of s) (Closed (credit_of k))))) c.inside
        (empty_entry t s c k s.entry c.at.opened (awake_entry s.hold s.entry c.at.opened c.at.placed.entry.1) c.at.placed.entry.0 e
        (subst (λ r. IsSound (pending_list r)) (sym c.inside) before))

pub collected_closes : (t : TreeState) (s : Spot) (k : ℕ) → IsClosing t s → run_gives_result (run_of t s k) ≡ true
    → IsSound (pending_list t.root) →
    IsSound (pending_list (plug (levels_of s) (Closed (record { inferences = k; answers = 0; records = results_of (run_of t s k) })))) →
    Alike (scoped t.job.clauses) (pending_list t.root)
    (pending_list (plug (levels_of s) (Closed (record { inferences = k; answers = 0; records = results_of (run_of t s k) }))))
unfolding run_of
collected_closes t s k c l before after = go (run_of t s k) refl l after
  where
    go : (o : Option (List Entry)) → private_run t.job.clauses (levels_of s) (with_heights (levels_of s) s.entry) k ≡ o
        → run_gives_result o ≡ true → IsSound
        (pending_list (plug (levels_of s) (Closed (record { inferences = k; answers = 0; records = results_of o })))) →
        Alike (scoped t.job.clauses) (pending_list t.root)
        (pending_list (plug (levels_of s) (Closed (record { inferences = k; answers = 0; records = results_of o }))))
    go None e l after = absurd (false_true l)
    go (Some []) e l after = absurd (false_true l)
    go (Some (CatchEntry y r f ∷ es)) e l after = absurd (false_true l)
    go (Some (FindallEntry results y f ∷ es)) e l after = absurd (false_true l)
    go (Some (EndEntry b ∷ es)) e l after = absurd (false_true l)
    go (Some (PlainEntry g ∷ x ∷ es)) e l after = absurd (false_true l)
    go (Some (PlainEntry g ∷ [])) e l after = by_items g.items refl l after
      where
        by_items : (items : List (Item ℕ)) → g.items ≡ items → elim items [ CollectMark u h ∷ rest ↦ true | i ↦ false ] ≡ true
            → IsSound (pending_list (plug (levels_of s) (Closed (record { inferences = k; answers = 0; records = result_of items })))) →
            Alike (scoped t.job.clauses) (pending_list t.root)
            (pending_list (plug (levels_of s) (Closed (record { inferences = k; answers = 0; records = result_of items }))))
        by_items [] i l after = absurd (false_true l)
        by_items (GoalItem u h ∷ items) i l after = absurd (false_true l)
        by_items (CatchMark h ∷ items) i l after = absurd (false_true l)
        by_items (RemovalItem n ∷ items) i l after = absurd (false_true l)
        by_items (CollectMark u h ∷ items) i l after =
            subst (λ r. Alike (scoped t.job.clauses) (pending_list r)
            (pending_list (plug (levels_of s) (Closed (credit_with_result k u))))) c.inside
            (result_entry t s c k s.entry c.at.opened (awake_entry s.hold s.entry c.at.opened c.at.placed.entry.1) c.at.placed.entry.0 g
            u h items i e (subst (λ r. IsSound (pending_list r)) (sym c.inside) before) after)
