-- Where an alternative becomes the nodes of its private run, the tree keeps its marks, records and queries.
use Rattle.std.proofs.Common.{◌≡◌, ℕ, zero, suc, ◌+◌, ◌≤◌, Bool, true, false, List, [], ◌∷◌, ◌++◌, length, Option, Some, None, refl, sym}
use Rattle.std.proofs.Common.{ap, ◌∙◌, subst, arith}
use Rattle.std.specs.Prelude.{◌&&◌, nat_le}
use Rattle.au_model.specs.Terms.Each.{Each}
use Rattle.run_model.specs.Programs.Clauses.{Clause}
use Rattle.run_model.specs.Machine.Items.{Continuation}
use Rattle.run_model.specs.Machine.Entries.{Entry, PlainEntry, CatchEntry, FindallEntry, EndEntry}
use Rattle.interleaving.specs.Sound.{IsSound}
use Rattle.tree_model.specs.Nodes.{Alternatives, alternative, Pending, Inner}
use Rattle.tree_model.specs.Levels.{Level, Place, plug, Spot, levels_of}
use Rattle.tree_model.specs.Floors.{node_of, with_heights, floor_of}
use Rattle.tree_model.specs.PrivateRuns.{private_run}
use Rattle.tree_model.specs.Shapes.{fits_shape, cuts_of, placed_scope, placed}
use Rattle.tree_model.specs.Events.{Nodes}
use Rattle.tree_model.specs.TreeStates.{TreeState}
use Rattle.tree_model.specs.Legality.{is_nonempty, run_fits, taken_at, run_of, at_spot, is_legal}
use Rattle.tree_model.specs.Effects.{spending, run_placed, where_some, after_event}
use Rattle.tree_model.specs.PendingLists.{Way, way_of, pending_list}
use Rattle.tree_model.specs.Ways.{is_on, IsOnWay, IsAwake}
use Rattle.tree_model.specs.SoundTrees.{IsOpen, profile, IsSoundTree}
use Rattle.tree_model.specs.CaughtTrees.{catch_right, IsNoEnd, IsCaughtTree}
use Rattle.interleaving.proofs.ContextLemmas.{IsAround}
use Rattle.interleaving.proofs.ClosingSoundLemmas.{IsFree}
use Rattle.interleaving.proofs.GrowingLemmas.{around_path}
use Rattle.interleaving.proofs.WayLemmas.{off_way}
use Rattle.interleaving.proofs.EntryLemmas.{length-floor}
use Rattle.interleaving.proofs.BallLemmas.{node_on}
use Rattle.interleaving.proofs.StackLemmas.{AreOver}
use Rattle.interleaving.proofs.RunSoundLemmas.{height_way, length-heights, run_sound}
use Rattle.interleaving.proofs.LegalLemmas.{awake_entry, end_rests, placed_floor, placed_above, one_size}
use Rattle.interleaving.proofs.PlacedEntryLemmas.{IsAt, at_spot as known_at}
use Rattle.interleaving.proofs.OpenSpotLemmas.{taken_at_open}
use Rattle.interleaving.proofs.GoingLemmas.{going, legal_parts}
use Rattle.interleaving.proofs.CaughtHoldLemmas.{open_right}
use Rattle.interleaving.proofs.ListsSoundLemmas.{lists_are_sound, under_of}
use Rattle.interleaving.proofs.ListScopeLemmas.{dormant_on}
use Rattle.interleaving.proofs.NamedFloorLemmas.{below_named}
use Rattle.interleaving.proofs.LowListLemmas.{low_entry}
use Rattle.interleaving.proofs.LeadRunLemmas.{old_sound}
use Rattle.interleaving.proofs.PublishedBareLemmas.{list_before}
use Rattle.interleaving.proofs.PublishedStepLemmas.{by_names}
use Rattle.interleaving.proofs.PublishEventLemmas.{before_list, HasNode, first_node}
use Rattle.interleaving.proofs.PlacedErasedLemmas.{HaveSizes}
use Rattle.interleaving.proofs.RunMeasuredLemmas.{fits_fill}
use Rattle.interleaving.proofs.CaughtContextLemmas.{none_last, no_nodes, IsCaughtRoot}
use Rattle.interleaving.proofs.CaughtEventLemmas.{as_tree}
use Rattle.interleaving.proofs.CaughtPruneLemmas.{put_node}
use Rattle.interleaving.proofs.CaughtTakenLemmas.{root_at, same_caught}
use Rattle.interleaving.proofs.MarkedLemmas.{AreMarked, all_over, named_marked, catch_low}
use Rattle.interleaving.proofs.PlacedCaughtLemmas.{floor_dormant, AreAlone, fits_alone, IsPlacedOver, IsPlacedCaught, placed_caught}
use Rattle.au_term.proofs.LogicLemmas.{and-right, and-left, false_true}

-- the marks of a private run
run_marked : (clauses : List Clause) (v : Level) (up : List Level) (next k : ℕ) (es : List Entry) (f : Continuation ℕ)
    → IsFree next (v ∷ up) → IsAround (v ∷ up) IsOpen → IsOnWay (way_of (v ∷ up)) (PlainEntry f) → IsSound (list_before v up v.spent f)
    → private_run clauses (v ∷ up) (with_heights (v ∷ up) (PlainEntry f)) k ≡ Some es → AreMarked (floor_of (v ∷ up)) es
run_marked clauses v up next k es f free a h before run =
    let off : is_on (way_of (v ∷ up)) next ≡ false = off_way next (v ∷ up) (free.fresh next (omega arith)) in
    let low = low_entry next v up f free a h (old_sound v up next f free a h off v.spent before) in
    let r = by_names clauses v up next es f free a h off k low run in
    all_over es (floor_of (v ∷ up))
    (named_marked (r.left ++ below_named (v ∷ up)) (es ++ floor_of (v ∷ up)) r.stands.sound r.stands.entries)

over_no_end : (w : Way) (es : List Entry) → AreOver w es → Each IsNoEnd es
over_no_end w [] h = tt
over_no_end w (PlainEntry f ∷ es) h = (tt, over_no_end w es h.1)
over_no_end w (CatchEntry c r f ∷ es) h = (tt, over_no_end w es h.1)
over_no_end w (FindallEntry results l f ∷ es) h = (tt, over_no_end w es h.1)
over_no_end w (EndEntry b ∷ es) h = absurd h.0

-- the shape of a run
shape_sizes : (low : ℕ) (sizes : List ℕ) (es : List Entry) → is_nonempty es ≡ true → fits_shape low sizes es ≡ true
    → HaveSizes sizes es × AreAlone sizes es
shape_sizes low sizes [] n f = false_true n
shape_sizes low sizes (e ∷ []) n f = subst (λ sz. HaveSizes sz (e ∷ []) × AreAlone sz (e ∷ [])) (sym (one_size sizes f))
    ((omega arith, omega arith, refl), (refl, tt))
shape_sizes low sizes (e ∷ d ∷ es) n f =
    (fits_fill low (cuts_of (e ∷ d ∷ es)) sizes (e ∷ d ∷ es) f, fits_alone low (cuts_of (e ∷ d ∷ es)) sizes (e ∷ d ∷ es) f)

-- where the nodes of a run are placed
run_placed_over : (levels : List Level) (next : ℕ) (sizes : List ℕ) (es : List Entry) → IsAround levels IsOpen → IsFree next levels
    → AreMarked (floor_of levels) es → Each IsNoEnd es → HaveSizes sizes es → AreAlone sizes es
    → IsPlacedOver (placed_scope next sizes levels) next sizes (dormant_on levels) (floor_of levels) es
run_placed_over levels next sizes es a free marked no_ends fills alone = record {
  nums = λ h x y. below h x (omega (arith, y, length-floor levels));
  holds = λ p. ap (λ n. placed_scope next sizes levels (suc (n + p))) (length-floor levels ∙ sym (length-heights levels))
      ∙ placed_above next sizes levels p;
  sleeping = λ h k. let l = catch_low h (floor_of levels) k in subst (λ n. dormant_on levels n ≡ true)
      (sym (placed_floor next sizes levels (suc h) (omega (arith, l, length-floor levels))))
      (floor_dormant levels (around_path levels IsOpen a) h k);
  marked = marked;
  no_ends = no_ends;
  alone = alone;
  fills = fills;
}
  where
    below : (h : ℕ) → 1 ≤ h → h ≤ length levels → suc (placed_scope next sizes levels h) ≤ next
    below h x y = go (nat_le next (node_of levels h)) refl
      where
        go : (c : Bool) → nat_le next (node_of levels h) ≡ c → suc (placed_scope next sizes levels h) ≤ next
        go true e = let high : next ≤ node_of levels h = grind arith in false_true
            (sym (off_way (node_of levels h) levels (free.fresh (node_of levels h) high)) ∙ node_on levels h x y)
        go false e = let l : suc (node_of levels h) ≤ next = grind arith in omega (arith, l, placed_floor next sizes levels h y)

module _ (t : TreeState) (s : Spot) (h : IsAt t s) (root : IsCaughtRoot (plug (levels_of s) (Pending s.hold s.entry))) where
  first : (sp : ℕ) (others : Alternatives) → catch_right (alternative sp (Pending s.hold s.entry) others) ≡ false
  first sp others = open_right s.hold s.entry h.opened sp others

  placed_preserved : (k : ℕ) (sizes : List ℕ) (es : List Entry) → HasNode t.next sizes (levels_of s) es
      → IsPlacedCaught (dormant_on (levels_of s)) (placed t.next sizes (levels_of s) es)
      → IsCaughtTree (run_placed s k sizes (Some es) t)
  placed_preserved k sizes es n c =
      let c2 : IsPlacedCaught (dormant_on (levels_of s)) (Inner n.node) = subst (IsPlacedCaught (dormant_on (levels_of s))) n.placed_node
      (subst (λ sz. IsPlacedCaught (dormant_on (levels_of s)) (placed t.next sz (levels_of s) es)) n.same c) in
      as_tree (run_placed s k sizes (Some es) t)
      (subst (λ sz. IsCaughtRoot (plug (spending k (levels_of s)) (placed t.next sz (levels_of s) es))) (sym n.same)
      (subst (λ x. IsCaughtRoot (plug (spending k (levels_of s)) x)) (sym n.placed_node)
      (put_node t s h (Pending s.hold s.entry) first refl root k n.node (λ z. c2.caught false (under_of (levels_of s)))
      (record {
        no_query = λ z. c2.no_query;
        no_node = λ z. no_nodes (Inner n.node) c2.no_query;
        closed = λ z. z;
        last = λ z.
            none_last (Inner n.node) c2.no_query;
      }) c2.unspent)))

  run_preserved : (k : ℕ) (sizes : List ℕ) (e : Entry) → s.entry ≡ e → IsAwake e → IsOnWay (way_of (levels_of s)) e
      → IsSound (pending_list t.root) → plug (levels_of s) (Pending s.hold s.entry) ≡ t.root → IsCaughtTree t
      → (o : Option (List Entry))
      → private_run t.job.clauses (levels_of s) (with_heights (levels_of s) e) k ≡ o
      → (nat_le 1 k && run_fits (length (levels_of s)) sizes o) ≡ true → IsCaughtTree (run_placed s k sizes o t)
  run_preserved k sizes e q a i z inside c None run fit = c
  run_preserved k sizes (CatchEntry x r f) q a i z inside c (Some es) run fit = absurd a
  run_preserved k sizes (FindallEntry results l f) q a i z inside c (Some es) run fit = absurd a
  run_preserved zero sizes (EndEntry b) q a i z inside c (Some es) run fit = false_true fit
  run_preserved (suc k) sizes (EndEntry b) q a i z inside c (Some es) run fit = absurd (none_some (sym (end_rests t s b k) ∙ run))
    where
      none_some : None ≡ Some es → ⊥
      none_some z = cc
  run_preserved k sizes (PlainEntry f) q a i z inside c (Some es) run fit =
      let v = s.level in
      let up = s.above in
      let levels = levels_of s in
      let fits = and-right (nat_le 1 k) _ fit in
      let some = and-left (is_nonempty es) _ fits in
      let shape = and-right (is_nonempty es) _ fits in
      let whole : plug levels (Pending s.hold (PlainEntry f)) ≡ t.root = ap (λ x. plug levels (Pending s.hold x)) (sym q) ∙ inside in
      let before : IsSound (list_before v up v.spent f) = subst IsSound
      (before_list v up s.hold f (subst (λ x. profile (Pending s.hold x) ≡ IsOpen) q h.opened))
      (subst (λ r. IsSound (pending_list r)) (sym whole) z) in
      let marked = run_marked t.job.clauses v up t.next k es f h.free h.placed.around i before run in
      let over = (run_sound t.job.clauses levels (PlainEntry f) k es (around_path levels IsOpen h.placed.around) tt i run).over in
      let both = shape_sizes (length levels) sizes es some shape in
      placed_preserved k sizes es (first_node t.next sizes levels es shape some)
      (placed_caught (placed_scope t.next sizes levels) t.next sizes (dormant_on levels) (floor_of levels) es
      (run_placed_over levels t.next sizes es h.placed.around h.free marked (over_no_end (height_way levels) es over) both.0
      both.1))

pub publish_caught : (t : TreeState) (w : ℕ) (a : Place) (k : ℕ) (sizes : List ℕ) → IsSoundTree t → IsCaughtTree t
    → is_legal t (Nodes w a k sizes) ≡ true → IsCaughtTree (after_event t (Nodes w a k sizes))
unfolding after_event run_of
publish_caught t w a k sizes i q l = go (taken_at w a t) refl (legal_parts t (Nodes w a k sizes) l).1
    (going t (legal_parts t (Nodes w a k sizes) l).0).halted
  where
    go : (o : Option Spot) → taken_at w a t ≡ o → at_spot o (λ s. nat_le 1 k && run_fits (length (levels_of s)) sizes (run_of t s k))
        ≡ true → t.halted ≡ None → IsCaughtTree
        (record (where_some o t (λ s. run_placed s k sizes (run_of t s k) t)) { history = t.history ++ Nodes w a k sizes ∷ [] })
    go None e x running = false_true x
    go (Some s) e x running =
        let at = known_at w a t s i e in
        let o = taken_at_open w a t s e in
        same_caught (run_placed s k sizes (run_of t s k) t) _ (noted_root (run_of t s k) s) (noted_halted (run_of t s k) s)
        (run_preserved t s at (root_at t s q running o) k sizes s.entry refl (awake_entry s.hold s.entry at.opened at.placed.entry.1)
        at.placed.entry.0 (lists_are_sound t i q) o.inside q (run_of t s k) refl x)
      where
        noted_root : (r : Option (List Entry)) (s : Spot) → (run_placed s k sizes r t).root ≡ (run_placed s k sizes r t).root
        noted_root r s = refl

        noted_halted : (r : Option (List Entry)) (s : Spot) → (run_placed s k sizes r t).halted ≡ (run_placed s k sizes r t).halted
        noted_halted r s = refl
