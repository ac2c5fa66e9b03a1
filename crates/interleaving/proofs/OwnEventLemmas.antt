-- Events that are no answers, from what runs and prunes do to the list.
use Rattle.std.proofs.Common.{◌≡◌, ℕ, zero, suc, true, List, [], ◌∷◌, ◌++◌, Option, Some, None, refl, sym, ap, ◌∙◌}
use Rattle.std.specs.Prelude.{◌&&◌, nat_le, length}
use Rattle.au_term.specs.Term.{Term}
use Rattle.run_model.specs.Machine.Entries.{Entry, EndEntry}
use Rattle.tree_model.specs.Levels.{Level, Place, Spot, levels_of}
use Rattle.tree_model.specs.PrivateRuns.{private_run}
use Rattle.tree_model.specs.Floors.{with_heights}
use Rattle.tree_model.specs.Shapes.{placed}
use Rattle.tree_model.specs.Events.{Event, Claim, Nodes, Empty, Collected, Lost, Suspend, Resume, Prune, Answer, Stop}
use Rattle.tree_model.specs.TreeStates.{TreeState}
use Rattle.tree_model.specs.Legality.{taken_at, run_of, run_fits, at_spot, is_legal}
use Rattle.tree_model.specs.Effects.{spending, run_placed, where_some, after_event}
use Rattle.tree_model.specs.PendingLists.{pending_list, back_of}
use Rattle.tree_model.specs.SoundTrees.{IsSoundTree}
use Rattle.tree_model.specs.CaughtTrees.{IsCaughtTree}
use Rattle.interleaving.specs.Follows.{Follows, PublishChangesList}
use Rattle.interleaving.specs.RunLaws.{EmptyReaches, CollectedReaches}
use Rattle.interleaving.specs.HistoryInvariants.{ListFollows, EventFollows, IsOwn, IsPrune}
use Rattle.interleaving.proofs.OpenSpotLemmas.{placed_at, taken_at_open}
use Rattle.interleaving.proofs.EndLemmas.{has_end, back_end, round_end}
use Rattle.interleaving.proofs.GoingLemmas.{legal_parts}
use Rattle.interleaving.proofs.LegalLemmas.{end_rests}
use Rattle.interleaving.proofs.QuietEventLemmas.{list_follows, claim_follows, resume_follows, suspend_follows, lost_follows, stop_follows}
use Rattle.interleaving.proofs.ListsSoundLemmas.{lists_are_sound}
use Rattle.interleaving.proofs.RunEventLemmas.{IsAskedAt, asked_at, empty_follows, collected_follows}
use Rattle.au_term.proofs.LogicLemmas.{and-right, and-left, false_true}

spent_back : (k : ℕ) (levels : List Level) → back_of (spending k levels) ≡ back_of levels
spent_back k [] = refl
spent_back k (v ∷ up) = refl

-- a run of some inferences is not that of an end
runs_on : (t : TreeState) (s : Spot) (b : Option Term) (k : ℕ) → nat_le 1 k ≡ true → s.entry ≡ EndEntry b → run_of t s k ≡ None
unfolding run_of
runs_on t s b zero l e = false_true l
runs_on t s b (suc k) l e = ap (λ x. private_run t.job.clauses (levels_of s) (with_heights (levels_of s) x) (suc k)) e ∙ end_rests t s b k

module _ (t : TreeState) (i : IsSoundTree t) (q : IsCaughtTree t) where
  abbrev noted : TreeState → Event → TreeState
  noted x e = record x { history = t.history ++ e ∷ [] }

  published : (e : Event) (s : Spot) (k : ℕ) (sizes : List ℕ) (o : Option (List Entry)) → has_end (back_of (levels_of s)) ≡ true
      → IsSoundTree (noted (run_placed s k sizes o t) e) → run_fits (length (levels_of s)) sizes o ≡ true
      → Follows t.job.clauses (pending_list t.root) (pending_list (noted (run_placed s k sizes o t) e).root)
      → ListFollows t (noted (run_placed s k sizes o t) e)
  published e s k sizes None h j l f = false_true l
  published e s k sizes (Some es) h j l f = list_follows t (noted (run_placed s k sizes (Some es) t) e) j refl refl refl f
      (λ x y. round_end (spending k (levels_of s)) (placed t.next sizes (levels_of s) es) (ap has_end (spent_back k (levels_of s)) ∙ h))

  pub publish_follows : PublishChangesList → (w : ℕ) (a : Place) (k : ℕ) (sizes : List ℕ)
      → IsSoundTree (after_event t (Nodes w a k sizes)) → IsCaughtTree (after_event t (Nodes w a k sizes))
      → is_legal t (Nodes w a k sizes) ≡ true → ListFollows t (after_event t (Nodes w a k sizes))
  unfolding after_event
  publish_follows law w a k sizes j r l = unfolded
      (law t w a k sizes i j (lists_are_sound t i q) (lists_are_sound (after_event t (Nodes w a k sizes)) j r) l) j
      (legal_parts t (Nodes w a k sizes) l).1
    where
      unfolded : Follows t.job.clauses (pending_list t.root) (pending_list (after_event t (Nodes w a k sizes)).root)
          → IsSoundTree (after_event t (Nodes w a k sizes))
          → at_spot (taken_at w a t) (λ s. nat_le 1 k && run_fits (length (levels_of s)) sizes (run_of t s k)) ≡ true
          → ListFollows t (after_event t (Nodes w a k sizes))
      unfolded f j x = go (taken_at w a t) refl f j x
        where
          go : (o : Option Spot) → taken_at w a t ≡ o → Follows t.job.clauses (pending_list t.root)
              (pending_list (noted (where_some o t (λ s. run_placed s k sizes (run_of t s k) t)) (Nodes w a k sizes)).root)
              → IsSoundTree (noted (where_some o t (λ s. run_placed s k sizes (run_of t s k) t)) (Nodes w a k sizes))
              → at_spot o (λ s. nat_le 1 k && run_fits (length (levels_of s)) sizes (run_of t s k)) ≡ true
              → ListFollows t (noted (where_some o t (λ s. run_placed s k sizes (run_of t s k) t)) (Nodes w a k sizes))
          go None e f j x = false_true x
          go (Some s) e f j x =
              let o = taken_at_open w a t s e in
              let p = placed_at t s i o in
              let fits = and-right (nat_le 1 k) _ x in
              let some = and-left (nat_le 1 k) _ x in
              let asked : IsAskedAt s = asked_at t s o p (λ b z. stays_on (runs_on t s b k some z) fits) in
              published (Nodes w a k sizes) s k sizes (run_of t s k) (back_end (levels_of s) p.around asked) j fits f
            where
              stays_on : run_of t s k ≡ None → run_fits (length (levels_of s)) sizes (run_of t s k) ≡ true → ⊥
              stays_on z h = false_true (sym (ap (run_fits (length (levels_of s)) sizes) z) ∙ h)

pub own_follow : PublishChangesList → EmptyReaches → CollectedReaches → EventFollows IsPrune → EventFollows IsOwn
own_follow publish empty collected prune t (Claim w a) o i q j r l = claim_follows t i w a j
own_follow publish empty collected prune t (Resume w a) o i q j r l = resume_follows t i w a j
own_follow publish empty collected prune t (Suspend w a frozen) o i q j r l = suspend_follows t i w a frozen j
own_follow publish empty collected prune t (Lost w a) o i q j r l = lost_follows t i w a j
own_follow publish empty collected prune t (Stop w) o i q j r l = stop_follows t i w j
own_follow publish empty collected prune t (Nodes w a k sizes) o i q j r l = publish_follows t i q publish w a k sizes j r l
own_follow publish empty collected prune t (Empty w a k) o i q j r l = empty_follows t i q empty w a k j r l
own_follow publish empty collected prune t (Collected w a k) o i q j r l = collected_follows t i q collected w a k j r l
own_follow publish empty collected prune t (Prune w a) o i q j r l = prune t (Prune w a) tt i q j r l
own_follow publish empty collected prune t (Answer w a frozen) o i q j r l = absurd o
