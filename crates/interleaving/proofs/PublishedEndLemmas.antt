-- An alternative whose private run leaves nothing becomes a credit.
use Rattle.std.proofs.Common.{◌≡◌, ℕ, ◌+◌, false, List, [], ◌∷◌, ◌++◌, length, Some, sym, ap, ◌∙◌, subst, arith}
use Rattle.run_model.specs.Programs.Clauses.{Clause}
use Rattle.run_model.specs.Machine.Items.{Continuation}
use Rattle.run_model.specs.Machine.Entries.{PlainEntry}
use Rattle.interleaving.specs.Machine.{Alike}
use Rattle.interleaving.specs.Scopes.{scoped}
use Rattle.tree_model.specs.Elements.{Element, Credit, EndOf}
use Rattle.interleaving.specs.Erased.{erased}
use Rattle.interleaving.specs.Sound.{IsSound}
use Rattle.interleaving.specs.Views.{IsBlind}
use Rattle.interleaving.specs.OwnRuns.{NamesEntries}
use Rattle.tree_model.specs.Levels.{Level}
use Rattle.tree_model.specs.Floors.{with_heights, floor_of}
use Rattle.tree_model.specs.PrivateRuns.{private_run}
use Rattle.tree_model.specs.PendingLists.{way_of, front_of, back_of}
use Rattle.tree_model.specs.Ways.{is_on, IsOnWay}
use Rattle.tree_model.specs.SoundTrees.{IsOpen}
use Rattle.interleaving.proofs.AppendLemmas.{append-assoc, each-append}
use Rattle.interleaving.proofs.ListChangeLemmas.{named_anew}
use Rattle.interleaving.proofs.FrontSameLemmas.{front_is_same}
use Rattle.interleaving.proofs.FloorLemmas.{readable_enough}
use Rattle.interleaving.proofs.ReadableLemmas.{IsReadable, sound_readable}
use Rattle.interleaving.proofs.ContextLemmas.{IsAround}
use Rattle.interleaving.proofs.ClosingSoundLemmas.{IsFree, free-above}
use Rattle.interleaving.proofs.SideLemmas.{front_blind}
use Rattle.interleaving.proofs.NamedFloorLemmas.{below_named, floor_named, first_low}
use Rattle.interleaving.proofs.BaredLemmas.{may_stay, made_at}
use Rattle.interleaving.proofs.PublishedBareLemmas.{right_of, own_plain, list_before}
use Rattle.interleaving.proofs.DistinctNameLemmas.{respects_floor, respects_below}
use Rattle.interleaving.proofs.LowListLemmas.{low_entry}
use Rattle.interleaving.proofs.LeadRunLemmas.{lead_segment, run_front, lead_list_sound, lead_list_same, old_sound}
use Rattle.interleaving.proofs.SoundEarlyLemmas.{sound_exchange}
use Rattle.interleaving.proofs.GrowingLemmas.{around_path}
use Rattle.interleaving.proofs.NamedFloorLemmas.{below_erased}
use Rattle.interleaving.proofs.PublishedBareLemmas.{own_entry}
use Rattle.interleaving.proofs.PublishedStepLemmas.{by_names, lead_becomes}

-- the list with a credit in the alternative's place
abbrev pub list_closed : Level → List Level → ℕ → List Element
list_closed v up spent = front_of (v ∷ up) ++ (Credit spent [] ∷ back_of (v ∷ up))

module _ (clauses : List Clause) (v : Level) (up : List Level) (next : ℕ) (f : Continuation ℕ) (free : IsFree next (v ∷ up))
    (a : IsAround (v ∷ up) IsOpen)
    (h : IsOnWay (way_of (v ∷ up)) (PlainEntry f)) (off : is_on (way_of (v ∷ up)) next ≡ false) (k : ℕ) where
  -- nothing is left of it
  none_left : (left : List Element) → IsSound (own_plain v up f ∷ below_named (v ∷ up)) → NamesEntries (made_at (0 ∷ next ∷ []) next) left
      (below_named (v ∷ up)) [] (floor_of (v ∷ up)) → erased (left ++ back_of (v ∷ up)) ≡ erased (back_of (v ∷ up))
  none_left left low s =
      let end = EndOf (length v.left ∷ v.number ∷ []) ∷ [] in
      let before = append-assoc left end (floor_named (v ∷ up)) in
      ap erased (sym (append-assoc left end (right_of (v ∷ up))))
      ∙ readable_enough (floor_named (v ∷ up)) (right_of (v ∷ up)) (left ++ end) end (first_low (v ∷ up))
      (respects_floor next v up free a (respects_below next up (free-above next v up free) a.1))
      (subst IsReadable (sym before) (sound_readable (left ++ below_named (v ∷ up)) s.sound))
      (sound_readable (below_named (v ∷ up)) low.1)
      (ap erased before ∙ (s.entries ∙ sym (below_erased (v ∷ up) (around_path (v ∷ up) IsOpen a))))

  pub closed_sound : (spent : ℕ) → IsSound (list_before v up spent f) → IsSound (list_closed v up (spent + k))
  closed_sound spent s =
      sound_exchange clauses (made_at (length v.left ∷ v.number ∷ []) next) (front_of (v ∷ up))
      (Credit spent [] ∷ own_plain v up f ∷ []) (Credit (spent + k) [] ∷ []) (back_of (v ∷ up)) (front_blind next v up free a)
      (tt, (own_entry v next, tt)) (tt, tt) (omega arith) s
      (tt, (old_sound v up next f free a h off spent s).1)

  pub emptied_alike : private_run clauses (v ∷ up) (with_heights (v ∷ up) (PlainEntry f)) k ≡ Some [] → (spent : ℕ)
      → IsSound (list_before v up spent f) → Alike (scoped clauses) (list_before v up spent f) (list_closed v up (spent + k))
  emptied_alike run spent before n w =
      let low = low_entry next v up f free a h (old_sound v up next f free a h off spent before) in
      let r = by_names clauses v up next [] f free a h off k low run in
      let front = front_of (v ∷ up) in
      let back = back_of (v ∷ up) in
      let lead = front ++ (Credit spent [] ∷ (lead_segment v up next f ++ back)) in
      let mid = front ++ (Credit (spent + k) [] ∷ (r.left ++ back)) in
      let sound = lead_list_sound v up next f free a h off clauses spent before in
      let whole = front_is_same (made_at (0 ∷ next ∷ []) next) (front ++ (Credit (spent + k) [] ∷ [])) [] r.left back
      (each-append (IsBlind (made_at (0 ∷ next ∷ []) next)) front (Credit (spent + k) [] ∷ []) (run_front v up next f free a h off)
      (tt, tt)) tt r.stands.inner (sym (none_left r.left low r.stands)) in
      let same = ap erased (sym (append-assoc front (Credit (spent + k) [] ∷ []) back))
      ∙ (whole ∙ ap erased (append-assoc front (Credit (spent + k) [] ∷ []) (r.left ++ back))) in
      let one = named_anew clauses lead lead (list_before v up spent f) (may_stay clauses lead) sound before
      (lead_list_same v up next f free a h off spent) n w in
      sym one ∙ named_anew clauses lead mid (list_closed v up (spent + k)) (lead_becomes clauses v up next [] f free a h off k r spent)
      sound (closed_sound spent before) same n w
