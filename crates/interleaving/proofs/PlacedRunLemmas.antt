-- The nodes that a private run becomes stand for what the run leaves, over the floor of the branch.
use Rattle.std.proofs.Common.{◌≡◌, ℕ, suc, ◌+◌, ◌≤◌, ◌==◌, Bool, true, false, cond, List, [], ◌∷◌, ◌++◌, length, refl, sym, ap, ◌∙◌}
use Rattle.std.proofs.Common.{subst, arith}
use Rattle.std.specs.Prelude.{nat_le}
use Rattle.au_model.specs.Terms.Each.{Each}
use Rattle.run_model.specs.Machine.Entries.{Entry}
use Rattle.tree_model.specs.Elements.{Element}
use Rattle.interleaving.specs.HeightMachine.{height_entries}
use Rattle.interleaving.specs.Erased.{height, erased}
use Rattle.tree_model.specs.Levels.{Level}
use Rattle.tree_model.specs.Floors.{height_of, node_of, floor_of}
use Rattle.tree_model.specs.Shapes.{cuts_of, fits_shape, placed_scope, placed}
use Rattle.tree_model.specs.PendingLists.{way_of, step_of, scope_on, list_below}
use Rattle.tree_model.specs.Ways.{is_on}
use Rattle.tree_model.specs.Legality.{is_nonempty}
use Rattle.interleaving.proofs.WayLemmas.{cond-true, cond-false, other_number}
use Rattle.interleaving.proofs.RoundtripLemmas.{IsPath}
use Rattle.interleaving.proofs.BallLemmas.{node_on}
use Rattle.interleaving.proofs.RunSoundLemmas.{height_way, length-heights, floor_way, IsRun}
use Rattle.interleaving.proofs.LegalLemmas.{placed_floor, placed_above, one_size, any_seen}
use Rattle.interleaving.proofs.PlacedSoundLemmas.{named_in, IsSeen, all_seen}
use Rattle.interleaving.proofs.NamedFloorLemmas.{below_named, count-below, low_height, below_erased}
use Rattle.interleaving.proofs.PlacedNameLemmas.{bare, HasItsHeight, AreMeasured}
use Rattle.interleaving.proofs.PlacedErasedLemmas.{NoneInside, HaveSizes, IsNaming, placed_erased}
use Rattle.interleaving.proofs.PlacedReadableLemmas.{placed_read}
use Rattle.interleaving.proofs.RunMeasuredLemmas.{NotInside, not_inside_low, none_inside, fits_fill, cut_not_inside, GuardAt}
use Rattle.interleaving.proofs.RunMeasuredLemmas.{guard_not_inside}
use Rattle.interleaving.proofs.RunNameLemmas.{are_measured}
use Rattle.interleaving.proofs.ReadableLemmas.{IsReadable}
use Rattle.interleaving.proofs.SequentialHeightLemmas.{height-append}
use Rattle.au_term.proofs.LogicLemmas.{true_false, number_same}

-- a height of the floor, its node, and the node's height
pub height_node : (levels : List Level) → IsPath (way_of levels) → (h : ℕ) → 1 ≤ h → h ≤ length levels
    → height_of levels (node_of levels h) ≡ h
height_node [] p h a b = absurd (omega (arith, a, b))
height_node (v ∷ up) p h a b = go (h == suc (length up)) refl (height_node up p.1 h a)
  where
    go : (c : Bool) → (h == suc (length up)) ≡ c → (h ≤ length up → height_of up (node_of up h) ≡ h)
        → height_of (v ∷ up) (cond c v.number (node_of up h)) ≡ h
    go true e f = let top : h ≡ suc (length up) = grind arith in cond-true (v.number == v.number) (suc (length up))
        (height_of up v.number) (number_same v.number) ∙ sym top
    go false e f =
        let low : h ≤ length up = grind arith in
        let off : (v.number == node_of up h) ≡ false = other_number (way_of up) v.number (node_of up h) p.0 (node_on up h a low)
        (v.number == node_of up h) refl in
        cond-false (v.number == node_of up h) (suc (length up)) (height_of up (node_of up h)) off ∙ f low

-- the segment of a place that has become nodes, without empty credits
abbrev pub placed_list : List Level → ℕ → List ℕ → List Entry → List Element
placed_list levels next sizes es = bare (list_below (way_of levels) 0 (placed next sizes levels es))

-- what is known where a run is published
pub record IsPublished (levels : List Level) (next : ℕ) (sizes : List ℕ) (es : List Entry) : Type 0 where
  pub path : IsPath (way_of levels)
  pub new : (m : ℕ) → next ≤ m → is_on (way_of levels) m ≡ false
  pub run : IsRun levels es
  pub some : is_nonempty es ≡ true
  pub fit : fits_shape (length levels) sizes es ≡ true

naming_by : (Whole : ℕ → Type 0) (seen : ℕ → Bool) (levels : List Level) (next : ℕ) (sizes : List ℕ) (es : List Entry)
    → IsPublished levels next sizes es →
    ((h : ℕ) → seen h ≡ true → Whole h) → ((h : ℕ) → suc h ≤ length (height_way levels) → Whole (suc h))
    → ((h : ℕ) → GuardAt (length (height_way levels)) es h → Whole (suc h)) → Each (IsSeen seen) es →
    NoneInside Whole (length levels) sizes → HaveSizes sizes es → IsNaming Whole (placed_scope next sizes levels) next sizes (way_of levels)
    (below_named levels) es
naming_by Whole seen levels next sizes es p cuts low guards v none fills =
    record {
      sees = λ h w a b. met h a (omega (arith, b, count-below levels));
      nums = λ h a b. below h a (omega (arith, b, count-below levels));
      holds = λ q. ap (λ n. placed_scope next sizes levels (suc (n + q))) (count-below levels ∙ sym (length-heights levels))
          ∙ placed_above next sizes levels q;
      splits = subst (λ n. NoneInside Whole n sizes) (sym (count-below levels)) none;
      measured = subst (λ n. AreMeasured Whole n es) (length-heights levels ∙ sym (count-below levels))
          (are_measured Whole seen (height_way levels) (floor_way levels).counted cuts low es guards v p.run.over);
      fills = fills;
    }
  where
    met : (h : ℕ) → 1 ≤ h → h ≤ length levels → HasItsHeight (below_named levels) (way_of levels) (placed_scope next sizes levels) h
    met h a b = ap (λ m. height (below_named levels) (scope_on (way_of levels) m)) (placed_floor next sizes levels h b)
        ∙ (low_height levels (node_of levels h) ∙ height_node levels p.path h a b)

    below : (h : ℕ) → 1 ≤ h → h ≤ length levels → suc (placed_scope next sizes levels h) ≤ next
    below h a b = go (nat_le next (node_of levels h)) refl
      where
        go : (c : Bool) → nat_le next (node_of levels h) ≡ c → suc (placed_scope next sizes levels h) ≤ next
        go true e = let high : next ≤ node_of levels h = grind arith in absurd
            (true_false (sym (node_on levels h a b) ∙ p.new (node_of levels h) high))
        go false e = let l : suc (node_of levels h) ≤ next = grind arith in omega (arith, l, placed_floor next sizes levels h b)

-- one entry
single_naming : (levels : List Level) (next : ℕ) (e : Entry) → IsPublished levels next (1 ∷ []) (e ∷ [])
    → IsNaming (λ h. Unit {0}) (placed_scope next (1 ∷ []) levels) next (1 ∷ []) (way_of levels) (below_named levels) (e ∷ [])
single_naming levels next e p =
    naming_by (λ h. Unit {0}) (λ n. true) levels next (1 ∷ []) (e ∷ []) p (λ h s. tt) (λ h l. tt) (λ h g. tt) (any_seen e, tt)
    ((λ h w a b. omega (arith, a, b)), tt) (omega arith, omega arith, refl)

-- more entries
many_naming : (levels : List Level) (next : ℕ) (sizes : List ℕ) (e d : Entry) (es : List Entry)
    → IsPublished levels next sizes (e ∷ d ∷ es) →
    IsNaming (NotInside (length levels) sizes) (placed_scope next sizes levels) next sizes (way_of levels) (below_named levels) (e ∷ d ∷ es)
many_naming levels next sizes e d es p =
    let all = e ∷ d ∷ es in
    let cuts = cuts_of (e ∷ d ∷ es) in
    let same = length-heights levels in
    naming_by (NotInside (length levels) sizes) (named_in cuts) levels next sizes all p
    (λ h s. cut_not_inside (length levels) cuts sizes all p.fit h s)
    (λ h l. not_inside_low (length levels) sizes (suc h) (omega (arith, l, same)))
    (λ h g. guard_not_inside (length levels) cuts sizes all p.fit h (subst (λ n. GuardAt n all h) same g)) (all_seen all)
    (none_inside (NotInside (length levels) sizes) (length levels) sizes (λ h w. w))
    (fits_fill (length levels) cuts sizes all p.fit)

pub record PlacedIsErased (levels : List Level) (next : ℕ) (sizes : List ℕ) (es : List Entry) : Type 0 where
  pub erases : erased (placed_list levels next sizes es ++ below_named levels) ≡ height_entries (es ++ floor_of levels)
  pub reads : IsReadable (below_named levels) → IsReadable (placed_list levels next sizes es ++ below_named levels)

by_naming : (Whole : ℕ → Type 0) (v : Level) (up : List Level) (next : ℕ) (sizes : List ℕ) (es : List Entry) → IsPath (way_of (v ∷ up)) →
    IsNaming Whole (placed_scope next sizes (v ∷ up)) next sizes (way_of (v ∷ up)) (below_named (v ∷ up)) es
    → PlacedIsErased (v ∷ up) next sizes es
by_naming Whole v up next sizes es p n = record {
  erases = placed_erased Whole (placed_scope next sizes (v ∷ up)) next sizes (step_of v) (way_of up) (below_named (v ∷ up)) es n
      ∙ (ap (λ l. height_entries es ++ l) (below_erased (v ∷ up) p) ∙ sym (height-append es (floor_of (v ∷ up))));
  reads = placed_read Whole (placed_scope next sizes (v ∷ up)) next sizes (step_of v) (way_of up) (below_named (v ∷ up)) es n;
}

pub placed_is_erased : (v : Level) (up : List Level) (next : ℕ) (sizes : List ℕ) (es : List Entry) → IsPublished (v ∷ up) next sizes es
    → PlacedIsErased (v ∷ up) next sizes es
placed_is_erased v up next sizes [] p = absurd (true_false (sym p.some))
placed_is_erased v up next sizes (e ∷ []) p =
    let one = one_size sizes p.fit in
    subst (λ sz. PlacedIsErased (v ∷ up) next sz (e ∷ [])) (sym one)
    (by_naming (λ h. Unit {0}) v up next (1 ∷ []) (e ∷ []) p.path
    (single_naming (v ∷ up) next e (subst (λ sz. IsPublished (v ∷ up) next sz (e ∷ [])) one p)))
placed_is_erased v up next sizes (e ∷ d ∷ es) p = by_naming (NotInside (length (v ∷ up)) sizes) v up next sizes (e ∷ d ∷ es) p.path
    (many_naming (v ∷ up) next sizes e d es p)
