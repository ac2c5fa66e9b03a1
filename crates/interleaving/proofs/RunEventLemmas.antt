-- Runs that leave nothing, or a result.
use Rattle.std.proofs.Common.{◌≡◌, ℕ, zero, suc, ◌≤◌, ◌⊎◌, inl, inr, true, false, [], ◌∷◌, ◌++◌, Option, Some, None, refl, sym, ap, ◌∙◌}
use Rattle.std.proofs.Common.{subst, arith}
use Rattle.au_term.specs.Term.{Term}
use Rattle.run_model.specs.Machine.Entries.{Entry, PlainEntry, CatchEntry, FindallEntry, EndEntry}
use Rattle.tree_model.specs.Credits.{Credit, credit_of}
use Rattle.tree_model.specs.Nodes.{Pending, Closed}
use Rattle.tree_model.specs.Levels.{plug, Place, Spot, levels_of}
use Rattle.tree_model.specs.PrivateRuns.{own_at_rest, private_run}
use Rattle.tree_model.specs.Floors.{floor_of, with_heights}
use Rattle.tree_model.specs.Closing.{closes}
use Rattle.tree_model.specs.Events.{Event, Empty, Collected}
use Rattle.tree_model.specs.TreeStates.{TreeState}
use Rattle.tree_model.specs.Legality.{taken_at, run_of, run_is_empty, run_gives_result, at_spot, is_legal}
use Rattle.tree_model.specs.Effects.{closed_with, results_of, where_some, after_event}
use Rattle.tree_model.specs.PendingLists.{way_of, pending_list}
use Rattle.tree_model.specs.Ways.{under_query, IsOnWay, IsAwake}
use Rattle.tree_model.specs.SoundTrees.{IsSoundTree}
use Rattle.tree_model.specs.CaughtTrees.{IsCaught, IsCaughtTree}
use Rattle.tree_model.proofs.CountLemmas.{count_around}
use Rattle.interleaving.specs.Sound.{IsSound}
use Rattle.interleaving.specs.Follows.{Follows}
use Rattle.interleaving.specs.HistoryInvariants.{ListFollows}
use Rattle.interleaving.specs.RunLaws.{Reaches, IsOpenPlace, EmptyReaches, CollectedReaches}
use Rattle.interleaving.proofs.OpenSpotLemmas.{IsOpenSpot, IsPlaced, placed_at, count_at, taken_at_open}
use Rattle.interleaving.proofs.LegalLemmas.{end_rests, awake_entry}
use Rattle.interleaving.proofs.LeadLemmas.{follows_then}
use Rattle.interleaving.proofs.ClosingEndLemmas.{closes_end}
use Rattle.interleaving.proofs.ListScopeLemmas.{IsDistinct}
use Rattle.interleaving.proofs.ListsSoundLemmas.{lists_are_sound}
use Rattle.interleaving.proofs.FoldLemmas.{caught_out}
use Rattle.interleaving.proofs.ClosingListLemmas.{closes_follow}
use Rattle.interleaving.proofs.WakeLemmas.{end_wakes}
use Rattle.interleaving.proofs.FindallWakeLemmas.{findall_wakes}
use Rattle.interleaving.proofs.GoingLemmas.{going, legal_parts}
use Rattle.interleaving.proofs.QuietEventLemmas.{list_follows}
use Rattle.au_term.proofs.LogicLemmas.{false_true}

-- an open place of a tree, and the tree where it closes
pub closing_follows : (t : TreeState) (s : Spot) (c : Credit) → IsSoundTree t → IsCaughtTree t → IsOpenSpot t.root s
    → under_query (way_of (levels_of s)) ≡ true
    → Reaches t.job.clauses (pending_list t.root) (pending_list (plug (levels_of s) (Closed c)))
    → IsSound (pending_list (closes t.next (levels_of s) c).root) → Follows t.job.clauses (pending_list t.root)
    (pending_list (closes t.next (levels_of s) c).root)
closing_follows t s c i k o asked r j =
    let placed = placed_at t s i o in
    let distinct : IsDistinct (levels_of s) = λ m. subst (λ x. x ≤ 1) (count_at t s o m) (i.distinct m) in
    let fresh : count_around t.next (levels_of s) ≡ 0 = sym (count_at t s o t.next) ∙ i.fresh t.next (omega arith) in
    let caught = caught_out (levels_of s) (Pending s.hold s.entry)
    (subst (λ root. IsCaught (λ m. false) false false root) (sym o.inside) k.caught) in
    follows_then t.job.clauses (pending_list t.root) (pending_list (plug (levels_of s) (Closed c)))
    (pending_list (closes t.next (levels_of s) c).root) r.follows
    (closes_follow t.job.clauses (end_wakes t.job.clauses) (findall_wakes t.job.clauses) t.next (levels_of s) c placed.around distinct
    fresh caught.0 asked r.sound j)

-- an entry that takes a private step, or leaves nothing, is asked by a query
abbrev pub IsAskedAt : Spot → Type 0
IsAskedAt s = under_query (way_of (levels_of s)) ≡ true

pub end_stays : (t : TreeState) (s : Spot) (b : Option Term) (k : ℕ) → s.entry ≡ EndEntry b
    → (run_of t s k ≡ None) ⊎ (run_of t s k ≡ Some (EndEntry b ∷ []))
unfolding run_of private_run
end_stays t s b zero e = inr (ap (λ x. Some (own_at_rest (floor_of (levels_of s)) (with_heights (levels_of s) x ∷ []))) e)
end_stays t s b (suc k) e = inl (ap (λ x. private_run t.job.clauses (levels_of s) (with_heights (levels_of s) x) (suc k)) e
    ∙ end_rests t s b k)

pub asked_at : (t : TreeState) (s : Spot) → IsOpenSpot t.root s → IsPlaced s → ((b : Option Term) → s.entry ≡ EndEntry b → ⊥) → IsAskedAt s
asked_at t s o p no_end = go s.entry refl p.entry.0 (awake_entry s.hold s.entry o.opened p.entry.1)
  where
    go : (e : Entry) → s.entry ≡ e → IsOnWay (way_of (levels_of s)) e → IsAwake e → IsAskedAt s
    go (PlainEntry f) q i a = i.asked
    go (EndEntry b) q i a = absurd (no_end b q)
    go (CatchEntry c r f) q i a = absurd a
    go (FindallEntry results l f) q i a = absurd a

module _ (t : TreeState) (i : IsSoundTree t) (k : IsCaughtTree t) where
  abbrev noted : TreeState → Event → TreeState
  noted x e = record x { history = t.history ++ e ∷ [] }

  open_place : (s : Spot) → IsOpenSpot t.root s → IsOpenPlace t s
  open_place s o = record { inside = o.inside; opened = o.opened }

  closed_follows : (e : Event) (s : Spot) (c : Credit) → IsOpenSpot t.root s → IsAskedAt s → Reaches t.job.clauses (pending_list t.root)
      (pending_list (plug (levels_of s) (Closed c))) → IsSoundTree (noted (closed_with s c t) e)
      → IsCaughtTree (noted (closed_with s c t) e) → ListFollows t (noted (closed_with s c t) e)
  closed_follows e s c o u r j q =
      list_follows t (noted (closed_with s c t) e) j refl refl refl
      (closing_follows t s c i k o u r (lists_are_sound (noted (closed_with s c t) e) j q))
      (λ x l. closes_end t.next (levels_of s) c (placed_at t s i o).around u)

  pub empty_follows : EmptyReaches → (w : ℕ) (a : Place) (n : ℕ) → IsSoundTree (after_event t (Empty w a n))
      → IsCaughtTree (after_event t (Empty w a n)) → is_legal t (Empty w a n) ≡ true → ListFollows t (after_event t (Empty w a n))
  unfolding after_event
  empty_follows reach w a n j q l = go (taken_at w a t) refl (legal_parts t (Empty w a n) l).1
      (going t (legal_parts t (Empty w a n) l).0).halted j q
    where
      go : (o : Option Spot) → taken_at w a t ≡ o → at_spot o (λ s. run_is_empty (run_of t s n)) ≡ true → t.halted ≡ None
          → IsSoundTree (noted (where_some o t (λ s. closed_with s (credit_of n) t)) (Empty w a n))
          → IsCaughtTree (noted (where_some o t (λ s. closed_with s (credit_of n) t)) (Empty w a n))
          → ListFollows t (noted (where_some o t (λ s. closed_with s (credit_of n) t)) (Empty w a n))
      go None e x running j q = false_true x
      go (Some s) e x running j q =
          let o = taken_at_open w a t s e in
          let no_end : (b : Option Term) → s.entry ≡ EndEntry b → ⊥ = λ b z. stays_on b (end_stays t s b n z) x in
          closed_follows (Empty w a n) s (credit_of n) o (asked_at t s o (placed_at t s i o) no_end)
          (reach t s n i k (lists_are_sound t i k) (open_place s o) running x) j q
        where
          stays_on : (b : Option Term) → (run_of t s n ≡ None) ⊎ (run_of t s n ≡ Some (EndEntry b ∷ [])) → run_is_empty (run_of t s n)
              ≡ true → ⊥
          stays_on b (inl z) h = false_true (sym (ap run_is_empty z) ∙ h)
          stays_on b (inr z) h = false_true (sym (ap run_is_empty z) ∙ h)

  pub collected_follows : CollectedReaches → (w : ℕ) (a : Place) (n : ℕ) → IsSoundTree (after_event t (Collected w a n))
      → IsCaughtTree (after_event t (Collected w a n)) → is_legal t (Collected w a n) ≡ true
      → ListFollows t (after_event t (Collected w a n))
  unfolding after_event
  collected_follows reach w a n j q l = go (taken_at w a t) refl (legal_parts t (Collected w a n) l).1
      (going t (legal_parts t (Collected w a n) l).0).halted j q
    where
      go : (o : Option Spot) → taken_at w a t ≡ o → at_spot o (λ s. run_gives_result (run_of t s n)) ≡ true → t.halted ≡ None
          → IsSoundTree (noted (where_some o t
          (λ s. closed_with s (record { inferences = n; answers = 0; records = results_of (run_of t s n) }) t)) (Collected w a n))
          → IsCaughtTree (noted (where_some o t
          (λ s. closed_with s (record { inferences = n; answers = 0; records = results_of (run_of t s n) }) t)) (Collected w a n))
          → ListFollows t (noted (where_some o t
          (λ s. closed_with s (record { inferences = n; answers = 0; records = results_of (run_of t s n) }) t)) (Collected w a n))
      go None e x running j q = false_true x
      go (Some s) e x running j q =
          let o = taken_at_open w a t s e in
          let no_end : (b : Option Term) → s.entry ≡ EndEntry b → ⊥ = λ b z. stays_on b (end_stays t s b n z) x in
          closed_follows (Collected w a n) s (record { inferences = n; answers = 0; records = results_of (run_of t s n) }) o
          (asked_at t s o (placed_at t s i o) no_end) (reach t s n i k (lists_are_sound t i k) (open_place s o) running x) j q
        where
          stays_on : (b : Option Term) → (run_of t s n ≡ None) ⊎ (run_of t s n ≡ Some (EndEntry b ∷ []))
              → run_gives_result (run_of t s n) ≡ true → ⊥
          stays_on b (inl z) h = false_true (sym (ap run_gives_result z) ∙ h)
          stays_on b (inr z) h = false_true (sym (ap run_gives_result z) ∙ h)
