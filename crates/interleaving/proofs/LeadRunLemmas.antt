-- An alternative that becomes the nodes of its private run: the run is taken under a name of its own for the end of the
-- alternative, since what sleeps right of it has that name too.
use Rattle.std.proofs.Common.{◌≡◌, ℕ, suc, ◌≤◌, Bool, true, false, List, [], ◌∷◌, ◌++◌, length, refl, sym, ap, ◌∙◌, subst, arith}
use Rattle.au_model.specs.Terms.Each.{Each}
use Rattle.run_model.specs.Programs.Clauses.{Clause}
use Rattle.run_model.specs.Machine.Items.{Continuation, with_items}
use Rattle.run_model.specs.Machine.Entries.{PlainEntry}
use Rattle.tree_model.specs.Elements.{Name, same, Element, Credit, Plain, EndOf}
use Rattle.interleaving.specs.HeightMachine.{HeightEntry}
use Rattle.interleaving.specs.Erased.{from, element_count, height, erased}
use Rattle.interleaving.specs.Sound.{names, IsMadeElsewhere, IsSound}
use Rattle.interleaving.specs.Views.{IsBlind}
use Rattle.interleaving.specs.OwnRuns.{NamesEntries, IsFloorUnder}
use Rattle.tree_model.specs.Levels.{Level}
use Rattle.tree_model.specs.Floors.{with_heights, height_of, floor_of}
use Rattle.tree_model.specs.PendingLists.{way_of, named_continuation, front_of, back_of}
use Rattle.tree_model.specs.Ways.{is_on, IsOnWay}
use Rattle.tree_model.specs.SoundTrees.{IsOpen}
use Rattle.tree_model.proofs.CountLemmas.{count_around}
use Rattle.interleaving.proofs.AppendLemmas.{append-assoc, each-append}
use Rattle.interleaving.proofs.NamingLemmas.{from_end, same-itself}
use Rattle.interleaving.proofs.SoundEarlyLemmas.{sound_exchange, sound-after}
use Rattle.interleaving.proofs.OwnInferenceLemmas.{floor-low}
use Rattle.interleaving.proofs.FrontSameLemmas.{front_is_same}
use Rattle.interleaving.proofs.ContextLemmas.{IsAround}
use Rattle.interleaving.proofs.ClosingSoundLemmas.{IsFree}
use Rattle.interleaving.proofs.GrowingLemmas.{around_path}
use Rattle.interleaving.proofs.NamedFloorLemmas.{below_named, floor_named, low_height, entry_low, below_erased, first_low}
use Rattle.interleaving.proofs.BaredLemmas.{made_at, made_grown, new_number}
use Rattle.interleaving.proofs.PublishedBareLemmas.{own_entry, right_of, own_plain, list_before}
use Rattle.interleaving.proofs.BesideLemmas.{OutNode}
use Rattle.interleaving.proofs.SideLemmas.{out_other, is_old, front_blind, blind_front, blind_back, under_low}
use Rattle.interleaving.proofs.LowEntryLemmas.{carried_low}
use Rattle.interleaving.proofs.LowListLemmas.{findalls_low}
use Rattle.interleaving.proofs.BranchLemmas.{below_from, pair_older}
use Rattle.interleaving.proofs.RenamedLemmas.{lead_items, Other, lead_sound, lead_erased}
use Rattle.interleaving.proofs.LeadNameLemmas.{others_new, blind_findalls}
use Rattle.au_model.proofs.ApplyLemmas.{or_right}
use Rattle.au_term.proofs.LogicLemmas.{true_false}

-- the run's own names
abbrev pub own_end : ℕ → Name
own_end next = 0 ∷ next ∷ []

abbrev pub own_run_name : ℕ → Name
own_run_name next = 0 ∷ 0 ∷ next ∷ []

abbrev pub lead_plain : Level → List Level → ℕ → Continuation ℕ → Element
lead_plain v up next f =
    Plain (0 ∷ 0 ∷ next ∷ []) (with_items
    (lead_items (length v.left ∷ v.number ∷ []) (0 ∷ next ∷ []) (named_continuation (way_of (v ∷ up)) f).items)
    (named_continuation (way_of (v ∷ up)) f))

abbrev pub lead_segment : Level → List Level → ℕ → Continuation ℕ → List Element
lead_segment v up next f = lead_plain v up next f ∷ EndOf (0 ∷ next ∷ []) ∷ []

abbrev pub run_inside : ℕ → Name → Bool
run_inside next = made_at (0 ∷ next ∷ []) next

pub new_entry : (top : Name) (next : ℕ) → made_at top next (0 ∷ 0 ∷ next ∷ []) ≡ true
new_entry top next = or_right _ _ (new_number next next (omega arith))

pub new_end : (top : Name) (next : ℕ) → made_at top next (0 ∷ next ∷ []) ≡ true
new_end top next = or_right _ _ (new_number next next (omega arith))

module _ (v : Level) (up : List Level) (next : ℕ) (f : Continuation ℕ) (free : IsFree next (v ∷ up)) (a : IsAround (v ∷ up) IsOpen)
    (h : IsOnWay (way_of (v ∷ up)) (PlainEntry f)) (off : is_on (way_of (v ∷ up)) next ≡ false) where
  -- nothing of the tree was made there
  out_all : (r : ℕ) → 1 ≤ count_around r (v ∷ up) → OutNode 0 next next r
  out_all r l = out_other 0 next next r (λ e. absurd (omega (arith, is_old next (v ∷ up) free r l, e))) (is_old next (v ∷ up) free r l)

  pub run_front : Each (IsBlind (made_at (0 ∷ next ∷ []) next)) (front_of (v ∷ up))
  run_front = blind_front 0 next next (v ∷ up) IsOpen a out_all

  pub run_back : Each (IsBlind (made_at (0 ∷ next ∷ []) next)) (back_of (v ∷ up))
  run_back = blind_back 0 next next (v ∷ up) IsOpen a out_all

  older_names : (p : Name) → length p ≡ 3 → Each (IsMadeElsewhere p) (names (named_continuation (way_of (v ∷ up)) f).items)
  older_names p l = (carried_low (v ∷ up) (around_path (v ∷ up) IsOpen a) (below_named (v ∷ up)) (λ r o. below_from (v ∷ up) r) p l
      f.items h.scoped).older

  others : Each (Other (0 ∷ next ∷ [])) (names (named_continuation (way_of (v ∷ up)) f).items)
  others = others_new (way_of (v ∷ up)) 0 next off f.items

  pub low_sound : IsSound (own_plain v up f ∷ below_named (v ∷ up))
      → IsSound (lead_plain v up next f ∷ EndOf (0 ∷ next ∷ []) ∷ below_named (v ∷ up))
  low_sound s = (
    lead_sound (length v.left ∷ v.number ∷ []) (0 ∷ next ∷ []) (0 ∷ length v.left ∷ v.number ∷ []) (0 ∷ 0 ∷ next ∷ [])
        (floor_named (v ∷ up)) (pair_older (0 ∷ 0 ∷ next ∷ []) refl 0 next) (named_continuation (way_of (v ∷ up)) f).items others
        (older_names (0 ∷ 0 ∷ next ∷ []) refl)
        (findalls_low (IsMadeElsewhere (0 ∷ 0 ∷ next ∷ [])) (v ∷ up) (λ m k. pair_older (0 ∷ 0 ∷ next ∷ []) refl 0 m)) s.0,
    s.1,
  )

  real_sound : IsSound (own_plain v up f ∷ back_of (v ∷ up)) → IsSound (lead_plain v up next f ∷ EndOf (0 ∷ next ∷ []) ∷ back_of (v ∷ up))
  real_sound s = (
    lead_sound (length v.left ∷ v.number ∷ []) (0 ∷ next ∷ []) (0 ∷ length v.left ∷ v.number ∷ []) (0 ∷ 0 ∷ next ∷ [])
        (right_of (v ∷ up)) (pair_older (0 ∷ 0 ∷ next ∷ []) refl 0 next) (named_continuation (way_of (v ∷ up)) f).items others
        (older_names (0 ∷ 0 ∷ next ∷ []) refl)
        (blind_findalls (made_at (0 ∷ next ∷ []) next) (made_grown (0 ∷ next ∷ []) next) (0 ∷ 0 ∷ next ∷ [])
        (new_entry (0 ∷ next ∷ []) next) (back_of (v ∷ up)) run_back) s.0,
    s.1,
  )

  same_entry : (rest : List Element)
      → erased (lead_plain v up next f ∷ EndOf (0 ∷ next ∷ []) ∷ EndOf (length v.left ∷ v.number ∷ []) ∷ rest)
      ≡ erased (own_plain v up f ∷ EndOf (length v.left ∷ v.number ∷ []) ∷ rest)
  same_entry rest = lead_erased (length v.left ∷ v.number ∷ []) (0 ∷ next ∷ []) (0 ∷ length v.left ∷ v.number ∷ []) (0 ∷ 0 ∷ next ∷ [])
      rest (pair_older (0 ∷ 0 ∷ next ∷ []) refl 0 next) (named_continuation (way_of (v ∷ up)) f) others

  pub run_floor : IsFloorUnder (made_at (0 ∷ next ∷ []) next) (below_named (v ∷ up)) (floor_of (v ∷ up))
  run_floor = record { under = under_low 0 next next (v ∷ up) out_all; entries = below_erased (v ∷ up) (around_path (v ∷ up) IsOpen a) }

  pub deepest : (s : Name) → same (length v.left ∷ v.number ∷ []) s ≡ false → (t : List Element) → from (below_named (v ∷ up)) s
      ≡ EndOf s ∷ t → suc (height (below_named (v ∷ up)) s) ≤ element_count (below_named (v ∷ up))
  deepest s e t k =
      let past = from_end (length v.left ∷ v.number ∷ []) s (floor_named (v ∷ up)) apart in
      omega (arith, floor-low (floor_named (v ∷ up)) s t (first_low (v ∷ up)) (sym past ∙ k), ap element_count past)
    where
      apart : s ≡ length v.left ∷ v.number ∷ [] → ⊥
      apart z = true_false (sym (same-itself (length v.left ∷ v.number ∷ [])) ∙ (ap (same (length v.left ∷ v.number ∷ [])) (sym z) ∙ e))

  pub run_stands : IsSound (own_plain v up f ∷ below_named (v ∷ up))
      → NamesEntries (made_at (0 ∷ next ∷ []) next) (lead_segment v up next f) (below_named (v ∷ up))
      (with_heights (v ∷ up) (PlainEntry f) ∷ []) (floor_of (v ∷ up))
  run_stands s = record {
    sound = low_sound s;
    inner = (new_entry (0 ∷ next ∷ []) next, (new_end (0 ∷ next ∷ []) next, tt));
    entries = same_entry (floor_named (v ∷ up))
        ∙ (entry_low v.number (length v.left) (way_of (v ∷ up)) (PlainEntry f) (below_named (v ∷ up)) (height_of (v ∷ up))
        (low_height (v ∷ up)) ∙ ap (λ l. HeightEntry (with_heights (v ∷ up) (PlainEntry f)) ∷ l)
        (below_erased (v ∷ up) (around_path (v ∷ up) IsOpen a)));
  }

  -- the list under the run's own names
  abbrev lead_list : ℕ → List Element
  lead_list spent = front_of (v ∷ up) ++ (Credit spent [] ∷ (lead_segment v up next f ++ back_of (v ∷ up)))

  blind_credit : (spent : ℕ) → Each (IsBlind (made_at (length v.left ∷ v.number ∷ []) next)) (front_of (v ∷ up) ++ (Credit spent [] ∷ []))
  blind_credit spent = each-append (IsBlind (made_at (length v.left ∷ v.number ∷ []) next)) (front_of (v ∷ up)) (Credit spent [] ∷ [])
      (front_blind next v up free a) (tt, tt)

  pub old_sound : (spent : ℕ) → IsSound (list_before v up spent f) → IsSound (own_plain v up f ∷ back_of (v ∷ up))
  old_sound spent s = sound-after (Credit spent [] ∷ []) (own_plain v up f ∷ back_of (v ∷ up))
      (sound-after (front_of (v ∷ up)) (Credit spent [] ∷ own_plain v up f ∷ back_of (v ∷ up)) s)

  pub lead_list_sound : (clauses : List Clause) (spent : ℕ) → IsSound (list_before v up spent f)
      → IsSound (front_of (v ∷ up) ++ (Credit spent [] ∷ (lead_segment v up next f ++ back_of (v ∷ up))))
  lead_list_sound clauses spent s =
      let front = front_of (v ∷ up) in
      let back = back_of (v ∷ up) in
      let old = append-assoc front (Credit spent [] ∷ []) ((own_plain v up f ∷ []) ++ back) in
      let new = append-assoc front (Credit spent [] ∷ []) (lead_segment v up next f ++ back) in
      subst IsSound new (sound_exchange clauses (made_at (length v.left ∷ v.number ∷ []) next) (front ++ (Credit spent [] ∷ []))
      (own_plain v up f ∷ []) (lead_segment v up next f) back (blind_credit spent) (own_entry v next, tt)
      (new_entry (length v.left ∷ v.number ∷ []) next, (new_end (length v.left ∷ v.number ∷ []) next, tt)) (omega arith)
      (subst IsSound (sym old) s) (real_sound (old_sound spent s)))

  pub lead_list_same : (spent : ℕ) → erased (list_before v up spent f)
      ≡ erased (front_of (v ∷ up) ++ (Credit spent [] ∷ (lead_segment v up next f ++ back_of (v ∷ up))))
  lead_list_same spent =
      let front = front_of (v ∷ up) in
      let back = back_of (v ∷ up) in
      let old = append-assoc front (Credit spent [] ∷ []) ((own_plain v up f ∷ []) ++ back) in
      let new = append-assoc front (Credit spent [] ∷ []) (lead_segment v up next f ++ back) in
      ap erased (sym old) ∙ (front_is_same (made_at (length v.left ∷ v.number ∷ []) next) (front ++ (Credit spent [] ∷ []))
      (own_plain v up f ∷ []) (lead_segment v up next f) back (blind_credit spent) (own_entry v next, tt)
      (new_entry (length v.left ∷ v.number ∷ []) next, (new_end (length v.left ∷ v.number ∷ []) next, tt))
      (sym (same_entry (right_of (v ∷ up)))) ∙ ap erased new)
