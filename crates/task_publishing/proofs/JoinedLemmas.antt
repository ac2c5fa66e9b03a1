-- What an alternative that was taken off stands for, with what was deferred in its place.
use Rattle.std.proofs.Common.{◌≡◌, ℕ, ◌≤◌, List, [], ◌∷◌, ◌++◌, length, map, take, drop, refl, sym, ap, ap₂, ◌∙◌}
use Rattle.std.proofs.Math.Seq.{take-append_seam}
use Rattle.std.proofs.lemmas.List.{length-map, map-append, drop-map}
use Rattle.au_model.specs.Terms.Each.{Each}
use Rattle.au_model.specs.Terms.Named.{NamedTerm}
use Rattle.au_model.specs.Terms.Substitutions.{Substitution, resolve}
use Rattle.run_model.specs.Machine.Items.{Item, GoalItem, CatchMark, CollectMark, RemovalItem, Continuation, resolve_item, resolve_named}
use Rattle.run_model.specs.Machine.Entries.{Entry, PlainEntry, CatchEntry, FindallEntry}
use Rattle.clause_compile.specs.declared.item.Item.{Item as BranchItem}
use Rattle.region_split.specs.ChoicePoints.{height_of_cut, by_height}
use Rattle.region_floor.specs.Deferred.{Deferred, carried_term, joined_items, joined_continuation, joined_entry, deferred_now, IsBoundNow}
use Rattle.task_region.specs.TaskViews.{carried}
use Rattle.tree_model.specs.Levels.{Level}
use Rattle.branch_reading.specs.Readings.{items_meant}
use Rattle.branch_shapes.specs.ChoiceScopes.{choice_height, items_by_heights, HasNumbersUpTo}
use Rattle.branch_shapes.specs.FloorItems.{items_over_floor}
use Rattle.branch_shapes.specs.Groups.{Groups}
use Rattle.task_publishing.specs.PublishedRuns.{published_continuation, published_entry, published_group}
use Rattle.region_capture.specs.CapturedMeanings.{MeantAlternative, meant_continuation, meant_entry}
use Rattle.region_capture.specs.CapturedChoices.{MeantChoice, group_entries}
use Rattle.region_capture.specs.declared.captured.CapturedKind.{CapturedKind}
use Rattle.region_capture.specs.declared.captured.CapturedKind.TheVariants.{Choice, Catch, Findall}
use Rattle.task_publishing.specs.OwnEntries.{deferred_over, placement_of}

-- the scopes of an alternative's items are so many choice points at most
abbrev pub NumbersUpTo : ℕ → MeantAlternative → Type 0
NumbersUpTo many a = Each (HasNumbersUpTo many) a.items

module _ (levels : List Level) (number : ℕ) (named : List NamedTerm) (items : List BranchItem) (gs : Groups) (heights : List ℕ) (many : ℕ)
    (same : (n : ℕ) → n ≤ many → height_of_cut heights n ≡ choice_height (length levels) gs n)
    (stay : items_by_heights (length levels) gs (items_over_floor levels (items_meant items)) ≡ items_over_floor levels (items_meant items))
    (bound_now : IsBoundNow) where
  abbrev over : List (Item ℕ)
  over = items_over_floor levels (items_meant items)

  abbrev now : List (Item ℕ) → List (Item ℕ)
  now xs = items_by_heights (length levels) gs xs

  -- heights and bindings do not touch what was deferred
  dropped : (s : Substitution) (n : ℕ) → drop n (map (resolve_item s) over) ≡ map (resolve_item s) (now (drop n over))
  dropped s n =
      drop-map (resolve_item s) n over
      ∙ ap (map (resolve_item s)) (ap (drop n) (sym stay) ∙ drop-map _ n over)

  items_joined : (s : Substitution) (xs : List (Item ℕ)) → Each (HasNumbersUpTo many) xs
      → joined_items (map (resolve_item s) over) (map (resolve_item s) (map (by_height heights) xs)) ≡ map (resolve_item s) (now (joined_items over xs))
  items_joined s [] h = refl
  items_joined s (GoalItem t n ∷ xs) h = ap₂ (λ c js. GoalItem (resolve s t) c ∷ js) (same n h.0) (items_joined s xs h.1)
  items_joined s (CatchMark n ∷ xs) h = ap₂ (λ c js. CatchMark c ∷ js) (same n h.0) (items_joined s xs h.1)
  items_joined s (CollectMark t n ∷ xs) h = ap₂ (λ c js. CollectMark (resolve s t) c ∷ js) (same n h.0) (items_joined s xs h.1)
  items_joined s (RemovalItem n ∷ xs) h =
      ap₂ (λ ys zs. ys ++ zs) (dropped s n) (items_joined s xs h.1)
      ∙ (sym (map-append (resolve_item s) (now (drop n over)) (now (joined_items over xs)))
      ∙ ap (map (resolve_item s)) (sym (map-append _ (drop n over) (joined_items over xs))))

  -- the named terms of the query, and those that were carried
  named_parts : (s : Substitution) → map (resolve_named s) (carried named over) ≡ map (resolve_named s) named ++ map (resolve_named s) (map carried_term over)
  named_parts s = map-append (resolve_named s) named (map carried_term over)

  own_named : (s : Substitution) → take (length named) (map (resolve_named s) (carried named over)) ≡ map (resolve_named s) named
  own_named s =
      ap (take (length named)) (named_parts s)
      ∙ (ap (λ n. take n (map (resolve_named s) named ++ map (resolve_named s) (map carried_term over))) (sym (length-map named (resolve_named s)))
      ∙ take-append_seam (map (resolve_named s) named) (map (resolve_named s) (map carried_term over)))

  made : (a b : List (Item ℕ)) (c d : List NamedTerm) (n : ℕ) → a ≡ b → c ≡ d
      → ◌≡◌ {A = Continuation ℕ} (record { items = a; named = c; next = n }) (record { items = b; named = d; next = n })
  made a b c d n e f = ap₂ (λ (xs : List (Item ℕ)) (ys : List NamedTerm). record { items = xs; named = ys; next = n }) e f

  abbrev whole : Deferred
  whole = deferred_over levels named items

  continuation_joined : (a : MeantAlternative) → NumbersUpTo many a
      → joined_continuation whole (meant_continuation heights (carried named over) a) ≡ published_continuation (placement_of levels number named gs) items a
  continuation_joined a h =
      let f : Continuation ℕ = meant_continuation heights (carried named over) a in
      let deferred : deferred_now whole f ≡ map (resolve_item a.bound) over = bound_now a.bound (record { items = over; named = named; next = a.next }) f refl in
      made (joined_items (deferred_now whole f) f.items) (map (resolve_item a.bound) (now (joined_items over a.items))) (take (length named) f.named)
      (map (resolve_named a.bound) named) a.next
      (ap (λ xs. joined_items xs f.items) deferred ∙ items_joined a.bound a.items h) (own_named a.bound)

  pub entry_joined : (kind : CapturedKind) (a : MeantAlternative) → NumbersUpTo many a
      → joined_entry whole (meant_entry kind heights (carried named over) a) ≡ published_entry (placement_of levels number named gs) items kind a
  entry_joined Choice a h = ap PlainEntry (continuation_joined a h)
  entry_joined (Catch catcher recovery) a h = ap (CatchEntry (resolve a.bound catcher) (resolve a.bound recovery)) (continuation_joined a h)
  entry_joined (Findall list results) a h = ap (FindallEntry (map (resolve a.bound) results.items) (resolve a.bound list)) (continuation_joined a h)

  entries_joined : (kind : CapturedKind) (ms : List MeantAlternative) → Each (NumbersUpTo many) ms
      → map (joined_entry whole) (map (meant_entry kind heights (carried named over)) ms)
      ≡ map (published_entry (placement_of levels number named gs) items kind) ms
  entries_joined kind [] h = refl
  entries_joined kind (a ∷ ms) h = ap₂ (λ (e : Entry) (es : List Entry). e ∷ es) (entry_joined kind a h.0) (entries_joined kind ms h.1)

  -- and of choice points
  pub groups_joined : (ms : List MeantChoice) → Each (λ m. Each (NumbersUpTo many) m.alternatives) ms
      → map (λ m. map (joined_entry whole) (group_entries heights (carried named over) m)) ms
      ≡ map (published_group (placement_of levels number named gs) items) ms
  groups_joined [] h = refl
  groups_joined (m ∷ ms) h = ap₂ (λ (g : List Entry) (hs : Groups). g ∷ hs) (entries_joined m.kind m.alternatives h.0) (groups_joined ms h.1)
