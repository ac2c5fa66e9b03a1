-- The lists before and after a private run becomes nodes run alike.
use Rattle.std.proofs.Common.{◌≡◌, ℕ, ◌+◌, false, List, [], ◌∷◌, ◌++◌, length, Some, sym, ap, ◌∙◌, subst, arith}
use Rattle.run_model.specs.Programs.Clauses.{Clause}
use Rattle.run_model.specs.Machine.Items.{Continuation}
use Rattle.run_model.specs.Machine.Entries.{Entry, PlainEntry}
use Rattle.interleaving.specs.Machine.{Alike}
use Rattle.interleaving.specs.Scopes.{scoped}
use Rattle.tree_model.specs.Elements.{Name, Element, Credit, EndOf}
use Rattle.interleaving.specs.Erased.{erased}
use Rattle.interleaving.specs.Sound.{IsSound}
use Rattle.interleaving.specs.Views.{IsBlind}
use Rattle.interleaving.specs.OwnRuns.{NamesEntries}
use Rattle.tree_model.specs.Levels.{Level}
use Rattle.tree_model.specs.Nodes.{Node, Inner}
use Rattle.tree_model.specs.Floors.{with_heights, floor_of}
use Rattle.tree_model.specs.PrivateRuns.{private_run}
use Rattle.tree_model.specs.Shapes.{placed_scope, placed}
use Rattle.tree_model.specs.PendingLists.{way_of, front_of, back_of}
use Rattle.tree_model.specs.Ways.{is_on, IsOnWay}
use Rattle.tree_model.specs.SoundTrees.{IsOpen}
use Rattle.interleaving.proofs.AppendLemmas.{append-assoc, each-append}
use Rattle.interleaving.proofs.ListChangeLemmas.{named_anew}
use Rattle.interleaving.proofs.FrontSameLemmas.{front_is_same}
use Rattle.interleaving.proofs.FloorLemmas.{readable_enough}
use Rattle.interleaving.proofs.ReadableLemmas.{IsReadable, sound_readable}
use Rattle.interleaving.proofs.ContextLemmas.{IsAround}
use Rattle.interleaving.proofs.ClosingSoundLemmas.{IsFree, free-above}
use Rattle.interleaving.proofs.NamedFloorLemmas.{below_named, floor_named, first_low}
use Rattle.interleaving.proofs.PlacedRunLemmas.{placed_list, IsPublished, placed_is_erased}
use Rattle.interleaving.proofs.BaredLemmas.{may_stay, made_at, inner_new}
use Rattle.interleaving.proofs.PublishedBareLemmas.{right_of, own_plain, list_before, list_after, bared}
use Rattle.interleaving.proofs.DistinctNameLemmas.{respects_floor, respects_below}
use Rattle.interleaving.proofs.LowListLemmas.{low_entry}
use Rattle.interleaving.proofs.LeadRunLemmas.{lead_segment, run_front, lead_list_sound, lead_list_same, old_sound}
use Rattle.interleaving.proofs.PublishedStepLemmas.{by_names, lead_becomes}

module _ (clauses : List Clause) (v : Level) (up : List Level) (next size : ℕ) (sizes : List ℕ) (es : List Entry)
    (p : IsPublished (v ∷ up) next (size ∷ sizes) es) (f : Continuation ℕ) (free : IsFree next (v ∷ up)) (a : IsAround (v ∷ up) IsOpen)
    (h : IsOnWay (way_of (v ∷ up)) (PlainEntry f)) (k : ℕ) where
  off : is_on (way_of (v ∷ up)) next ≡ false
  off = p.new next (omega arith)

  -- the same entries over what stands to the right
  same_back : (left : List Element) → IsSound (own_plain v up f ∷ below_named (v ∷ up)) → NamesEntries (made_at (0 ∷ next ∷ []) next) left
      (below_named (v ∷ up)) es (floor_of (v ∷ up)) → erased (left ++ back_of (v ∷ up))
      ≡ erased (placed_list (v ∷ up) next (size ∷ sizes) es ++ back_of (v ∷ up))
  same_back left low s =
      let c = placed_list (v ∷ up) next (size ∷ sizes) es in
      let own : Name = length v.left ∷ v.number ∷ [] in
      let end = EndOf (length v.left ∷ v.number ∷ []) ∷ [] in
      let list_is = placed_is_erased v up next (size ∷ sizes) es p in
      let before = append-assoc left end (floor_named (v ∷ up)) in
      let after = append-assoc c end (floor_named (v ∷ up)) in
      let whole = readable_enough (floor_named (v ∷ up)) (right_of (v ∷ up)) (left ++ end) (c ++ end) (first_low (v ∷ up))
      (respects_floor next v up free a (respects_below next up (free-above next v up free) a.1))
      (subst IsReadable (sym before) (sound_readable (left ++ below_named (v ∷ up)) s.sound))
      (subst IsReadable (sym after) (list_is.reads (sound_readable (below_named (v ∷ up)) low.1)))
      (ap erased before ∙ (s.entries ∙ (sym list_is.erases ∙ ap erased (sym after)))) in
      ap erased (sym (append-assoc left end (right_of (v ∷ up)))) ∙ (whole ∙ ap erased (append-assoc c end (right_of (v ∷ up))))

  same_whole : (left : List Element) → IsSound (own_plain v up f ∷ below_named (v ∷ up)) → NamesEntries (made_at (0 ∷ next ∷ []) next) left
      (below_named (v ∷ up)) es (floor_of (v ∷ up)) → (spent : ℕ) →
      erased (front_of (v ∷ up) ++ (Credit (spent + k) [] ∷ (placed_list (v ∷ up) next (size ∷ sizes) es ++ back_of (v ∷ up))))
      ≡ erased (front_of (v ∷ up) ++ (Credit (spent + k) [] ∷ (left ++ back_of (v ∷ up))))
  same_whole left low s spent =
      let front = front_of (v ∷ up) in
      let zs = back_of (v ∷ up) in
      let c = placed_list (v ∷ up) next (size ∷ sizes) es in
      let whole = front_is_same (made_at (0 ∷ next ∷ []) next) (front ++ (Credit (spent + k) [] ∷ [])) left c zs
      (each-append (IsBlind (made_at (0 ∷ next ∷ []) next)) front (Credit (spent + k) [] ∷ []) (run_front v up next f free a h off)
      (tt, tt)) s.inner
      (inner_new (0 ∷ next ∷ []) next next size sizes (way_of (v ∷ up)) (placed_scope next (size ∷ sizes) (v ∷ up)) es
      (omega arith)) (same_back left low s) in
      ap erased (sym (append-assoc front (Credit (spent + k) [] ∷ []) (c ++ zs)))
      ∙ (sym whole ∙ ap erased (append-assoc front (Credit (spent + k) [] ∷ []) (left ++ zs)))

  pub published_alike : private_run clauses (v ∷ up) (with_heights (v ∷ up) (PlainEntry f)) k ≡ Some es → (spent : ℕ) (node : Node)
      → placed next (size ∷ sizes) (v ∷ up) es ≡ Inner node →
      IsSound (list_before v up spent f) → IsSound (list_after v up (spent + k) (placed next (size ∷ sizes) (v ∷ up) es))
      → Alike (scoped clauses) (list_before v up spent f) (list_after v up (spent + k) (placed next (size ∷ sizes) (v ∷ up) es))
  published_alike run spent node e before after n w =
      let low = low_entry next v up f free a h (old_sound v up next f free a h off spent before) in
      let r = by_names clauses v up next es f free a h off k low run in
      let lead = front_of (v ∷ up) ++ (Credit spent [] ∷ (lead_segment v up next f ++ back_of (v ∷ up))) in
      let mid = front_of (v ∷ up) ++ (Credit (spent + k) [] ∷ (r.left ++ back_of (v ∷ up))) in
      let new = front_of (v ∷ up) ++ (Credit (spent + k) [] ∷ (placed_list (v ∷ up) next (size ∷ sizes) es ++ back_of (v ∷ up))) in
      let sound = lead_list_sound v up next f free a h off clauses spent before in
      let b = bared clauses v up next size sizes es k spent node e in
      let one = named_anew clauses lead lead (list_before v up spent f) (may_stay clauses lead) sound before
      (lead_list_same v up next f free a h off spent) n w in
      sym one ∙ (named_anew clauses lead mid new (lead_becomes clauses v up next es f free a h off k r spent) sound (b.sound after)
      (same_whole r.left low r.stands spent) n w ∙ sym (b.alike n w))
