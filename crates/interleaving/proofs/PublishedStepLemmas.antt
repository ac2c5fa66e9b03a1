-- A private run of an alternative, by names of its own.
use Rattle.std.proofs.Common.{◌≡◌, ℕ, ◌+◌, ◌==◌, Bool, true, false, cond, List, [], ◌∷◌, ◌++◌, length, Some, refl, sym, ap, ◌∙◌, subst}
use Rattle.std.proofs.Common.{arith}
use Rattle.std.specs.Prelude.{◌&&◌}
use Rattle.run_model.specs.Programs.Clauses.{Clause}
use Rattle.run_model.specs.Machine.Items.{Continuation}
use Rattle.run_model.specs.Machine.Entries.{Entry, PlainEntry}
use Rattle.tree_model.specs.Elements.{same, Credit}
use Rattle.interleaving.specs.Sound.{IsSound}
use Rattle.interleaving.specs.Views.{IsBlind}
use Rattle.interleaving.specs.Laws.{MayBecome}
use Rattle.interleaving.specs.OwnRuns.{RunsPrivately}
use Rattle.tree_model.specs.Levels.{Level}
use Rattle.tree_model.specs.Floors.{with_heights, floor_of}
use Rattle.tree_model.specs.PrivateRuns.{private_run}
use Rattle.tree_model.specs.PendingLists.{way_of, step_of, step_name, front_of, back_of}
use Rattle.tree_model.specs.Ways.{is_on, IsOnWay}
use Rattle.tree_model.specs.SoundTrees.{IsOpen}
use Rattle.interleaving.proofs.AppendLemmas.{append-assoc, each-append}
use Rattle.interleaving.proofs.ListChangeLemmas.{becomes, credits_add}
use Rattle.interleaving.proofs.SameRunLemmas.{same_run}
use Rattle.interleaving.proofs.OwnRunLemmas.{runs_privately}
use Rattle.interleaving.proofs.ContextLemmas.{IsAround}
use Rattle.interleaving.proofs.ClosingSoundLemmas.{IsFree}
use Rattle.interleaving.proofs.SideLemmas.{under_of_blind}
use Rattle.interleaving.proofs.NamedFloorLemmas.{below_named}
use Rattle.interleaving.proofs.BaredLemmas.{may_then, made_at, made_grown}
use Rattle.interleaving.proofs.PublishedBareLemmas.{own_plain}
use Rattle.interleaving.proofs.NamingLemmas.{not-same}
use Rattle.interleaving.proofs.BranchLemmas.{pair_older}
use Rattle.interleaving.proofs.LeadNameLemmas.{lead_far}
use Rattle.interleaving.proofs.LeadRunLemmas.{lead_segment, new_entry, new_end, run_front, run_back, run_floor, deepest, run_stands}
use Rattle.au_term.proofs.LogicLemmas.{true_false}

module _ (clauses : List Clause) (v : Level) (up : List Level) (next : ℕ) (es : List Entry) (f : Continuation ℕ)
    (free : IsFree next (v ∷ up)) (a : IsAround (v ∷ up) IsOpen)
    (h : IsOnWay (way_of (v ∷ up)) (PlainEntry f)) (off : is_on (way_of (v ∷ up)) next ≡ false) (k : ℕ) where
  pub by_names : IsSound (own_plain v up f ∷ below_named (v ∷ up)) → private_run clauses (v ∷ up) (with_heights (v ∷ up) (PlainEntry f))
      k ≡ Some es → RunsPrivately clauses (made_at (0 ∷ next ∷ []) next) k (lead_segment v up next f) (below_named (v ∷ up)) es
      (floor_of (v ∷ up))
  by_names low run =
      runs_privately clauses (made_at (0 ∷ next ∷ []) next) (made_grown (0 ∷ next ∷ []) next) (below_named (v ∷ up)) (floor_of (v ∷ up))
      (run_floor v up next f free a h off) (same (length v.left ∷ v.number ∷ [])) (deepest v up next f free a h off)
      k (with_heights (v ∷ up) (PlainEntry f) ∷ []) es (lead_segment v up next f) (
        (
          beside,
          lead_far (step_of v) (way_of up) a.0.new (0 ∷ next ∷ []) (fresh (length v.left == 0) (v.number == next) refl) f.items
              h.scoped,
        ),
        (tt, tt),
      )
      (run_stands v up next f free a h off low) (sym (same_run clauses (v ∷ up) (with_heights (v ∷ up) (PlainEntry f)) k) ∙ run)
    where
      not_next : (v.number == next) ≡ false
      not_next = other_number_next (v.number == next) refl
        where
          other_number_next : (b : Bool) → (v.number == next) ≡ b → b ≡ false
          other_number_next false e = refl
          other_number_next true e = absurd (true_false (sym (ap (λ b. cond b true (is_on (way_of up) next)) e) ∙ off))

      fresh : (b c : Bool) → (v.number == next) ≡ c → same (step_name (step_of v)) (0 ∷ next ∷ []) ≡ false
      fresh b c e = ap (λ z. (length v.left == 0) && (z && true)) not_next ∙ and-last (length v.left == 0)
        where
          and-last : (b : Bool) → (b && false) ≡ false
          and-last true = refl
          and-last false = refl

      beside : (more : List ℕ) → same (length v.left ∷ v.number ∷ []) (more ++ 0 ∷ 0 ∷ next ∷ []) ≡ false
      beside more = not-same (length v.left ∷ v.number ∷ []) (more ++ 0 ∷ 0 ∷ next ∷ [])
          (λ e. pair_older (0 ∷ 0 ∷ next ∷ []) refl (length v.left) v.number more e)

  -- the law
  pub lead_becomes : (r : RunsPrivately clauses (made_at (0 ∷ next ∷ []) next) k (lead_segment v up next f) (below_named (v ∷ up)) es
      (floor_of (v ∷ up))) (spent : ℕ) →
      MayBecome clauses (front_of (v ∷ up) ++ (Credit spent [] ∷ (lead_segment v up next f ++ back_of (v ∷ up))))
      (front_of (v ∷ up) ++ (Credit (spent + k) [] ∷ (r.left ++ back_of (v ∷ up))))
  lead_becomes r spent =
      let front = front_of (v ∷ up) in
      let zs = back_of (v ∷ up) in
      let b = lead_segment v up next f in
      let inside = made_at (0 ∷ next ∷ []) next in
      let early = becomes clauses (made_at (0 ∷ next ∷ []) next) k [] (front ++ (Credit spent [] ∷ [])) b r.left zs
      (record {
        grown = made_grown (0 ∷ next ∷ []) next;
        front = each-append (IsBlind (made_at (0 ∷ next ∷ []) next)) front
            (Credit spent [] ∷ []) (run_front v up next f free a h off) (tt, tt);
        own =
            (new_entry (0 ∷ next ∷ []) next, (new_end (0 ∷ next ∷ []) next, tt));
        under = under_of_blind 0 next next zs (run_back v up next f free a h off);
        some = omega arith;
      }) r.private in
      let first = append-assoc front (Credit spent [] ∷ []) (b ++ zs) in
      let then = append-assoc front (Credit spent [] ∷ []) (Credit k [] ∷ (r.left ++ zs)) in
      may_then clauses (front ++ (Credit spent [] ∷ (b ++ zs))) (front ++ (Credit spent [] ∷ Credit k [] ∷ (r.left ++ zs)))
      (front ++ (Credit (spent + k) [] ∷ (r.left ++ zs)))
      (subst (λ l. MayBecome clauses l (front ++ (Credit spent [] ∷ Credit k [] ∷ (r.left ++ zs)))) first
      (subst (λ l. MayBecome clauses ((front ++ (Credit spent [] ∷ [])) ++ (b ++ zs)) l) then early))
      (credits_add clauses spent k [] [] front (r.left ++ zs))
