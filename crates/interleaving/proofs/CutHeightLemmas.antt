-- A cut: both lists are the same by their heights, and the tree follows.
use Rattle.std.proofs.Common.{◌≡◌, ℕ, ◌+◌, ◌≤◌, ◌==◌, true, false, List, [], ◌∷◌, ◌++◌, map, length, Some, None, refl, sym, ap, ◌∙◌}
use Rattle.std.proofs.Common.{subst, arith}
use Rattle.au_model.specs.Terms.Each.{Each}
use Rattle.run_model.specs.Machine.Items.{Item, Continuation, with_items}
use Rattle.run_model.specs.Machine.Entries.{Entry, PlainEntry}
use Rattle.tree_model.specs.Nodes.{ChoiceNode}
use Rattle.tree_model.specs.Levels.{Level, Spot, levels_of}
use Rattle.tree_model.specs.Floors.{renamed_item, node_of, with_nodes}
use Rattle.tree_model.specs.Orders.{levels_below}
use Rattle.tree_model.specs.TreeStates.{TreeState}
use Rattle.tree_model.specs.Effects.{spending, cut_at}
use Rattle.tree_model.specs.PendingLists.{Way, way_of, scope_on, element_on, named_continuation, pending_list, front_of}
use Rattle.tree_model.specs.Ways.{is_on, in_reach, way_from, AreScoped}
use Rattle.tree_model.specs.SoundTrees.{IsSoundTree}
use Rattle.tree_model.specs.CaughtTrees.{IsCaughtTree}
use Rattle.tree_model.specs.Elements.{Name, Record, Element, Credit, Plain, EndOf}
use Rattle.tree_model.proofs.CountLemmas.{count_around}
use Rattle.interleaving.specs.Machine.{Machine, Infers, Seek, gives, free_steps, run, seen}
use Rattle.interleaving.specs.Scopes.{Shared, Sought, Scope, act, scoped}
use Rattle.interleaving.specs.Segments.{outer}
use Rattle.interleaving.specs.Quiet.{IsQuiet, inferences, records}
use Rattle.interleaving.specs.Roots.{rooted}
use Rattle.interleaving.specs.Views.{IsBlind, IsInner}
use Rattle.interleaving.specs.Laws.{is_inner_record}
use Rattle.interleaving.specs.HeightMachine.{HeightEntry}
use Rattle.interleaving.specs.Erased.{element_count, height, with_height, erased}
use Rattle.interleaving.specs.Sound.{IsSound}
use Rattle.interleaving.specs.Follows.{lead}
use Rattle.interleaving.proofs.WayLemmas.{off_way, other_number}
use Rattle.interleaving.proofs.RoundtripLemmas.{by_nodes, by_heights, back_again}
use Rattle.interleaving.proofs.OpenSpotLemmas.{IsOpenSpot}
use Rattle.interleaving.proofs.AppendLemmas.{append-assoc, each-append}
use Rattle.interleaving.proofs.SoundEarlyLemmas.{from-inner}
use Rattle.interleaving.proofs.RunHeightLemmas.{names_are_free}
use Rattle.interleaving.proofs.FrontSameLemmas.{front_is_same}
use Rattle.interleaving.proofs.LeadLemmas.{lead-quiet, lead-grows}
use Rattle.interleaving.proofs.ClockLemmas.{AreClear, quiet-append}
use Rattle.interleaving.proofs.ListEndLemmas.{scope_at}
use Rattle.interleaving.proofs.ListScopeLemmas.{way_down, on-down}
use Rattle.interleaving.proofs.NamedFloorLemmas.{scope-above}
use Rattle.interleaving.proofs.PlacedNameLemmas.{bare as bare_list}
use Rattle.interleaving.proofs.FrontCloseLemmas.{bare}
use Rattle.interleaving.proofs.LowerListLemmas.{lower_front, lower_back}
use Rattle.interleaving.proofs.UpperBlindLemmas.{is_free_of, zero_free}
use Rattle.interleaving.proofs.RecoveryNamesLemmas.{items_high}
use Rattle.interleaving.proofs.PrunedListLemmas.{lower_pruned, ends_inner, ends_gone}
use Rattle.interleaving.proofs.PrunedBallLemmas.{PruneMoves, free_here, list_here, sound_here}
use Rattle.interleaving.proofs.CutFollowsLemmas.{outer_apart, no_quiet, at, cut, low_free, own_inside, next_free, scope_inside, on_upper}
use Rattle.interleaving.proofs.CutFollowsLemmas.{upper_apart}
use Rattle.interleaving.proofs.CutTakenLemmas.{old_list, quiet_low, old_becomes}
use Rattle.interleaving.proofs.CutTreeLemmas.{ends_low, new_list, bared, short_inner, number_is, new_becomes}

module _ (t : TreeState) (i : IsSoundTree t) (k : IsCaughtTree t) (running : t.halted ≡ None) (s : Spot) (o : IsOpenSpot t.root s)
    (f : Continuation ℕ) (entry : s.entry ≡ PlainEntry f)
    (n : ℕ) (reach : in_reach (way_of (levels_of s)) n ≡ true) (below : (s.level.number == n) ≡ false) (items : List (Item ℕ))
    (part : AreScoped (way_from (way_of (levels_of s)) n) items) (all : AreScoped (way_of (levels_of s)) items)
    (g : Continuation ℕ) (same_named : g.named ≡ f.named) (same_next : g.next ≡ f.next)
    (clear : AreClear (levels_below (Some n) (levels_of s))) where
  abbrev levels : List Level
  levels = levels_of s

  abbrev v : Level
  v = s.level

  abbrev m : Machine Shared Element Sought Record
  m = scoped t.job.clauses

  abbrev own : Name
  own = 0 ∷ length s.level.left ∷ s.level.number ∷ []

  abbrev named : Continuation Name
  named = named_continuation (way_of (levels_of s)) f

  abbrev sc : ℕ → Name
  sc = scope_on (way_of (levels_of s))

  abbrev after_cut : Continuation Name
  after_cut = record {
    items = map (renamed_item (scope_on (way_of (levels_of s))) (scope_on (way_of (levels_of s)))) items;
    named =
        f.named;
    next = f.next;
  }

  abbrev cut_entry : Entry
  cut_entry = PlainEntry (with_items (by_heights (levels_of s) items) g)

  abbrev w : Level
  w = (at t i k running s o f entry n reach below items part all g same_named same_next clear).level

  abbrev up : List Level
  up = (at t i k running s o f entry n reach below items part all g same_named same_next clear).above

  abbrev h : Name
  h = length w.left ∷ n ∷ []

  abbrev front : List Element
  front = front_of (w ∷ up)

  abbrev low : List Element
  low = lower_front n levels

  abbrev xs : List Element
  xs = low ++ (Credit v.spent [] ∷ [])

  abbrev ones : List Element
  ones = low ++ (Credit (v.spent + 1) [] ∷ [])

  abbrev mid : List Element
  mid = lower_back n levels ++ (EndOf h ∷ (cut t i k running s o f entry n reach below items part all g same_named same_next clear).right)

  abbrev rs : List Record
  rs = records xs

  abbrev rows : List Record
  rows = outer (is_inner_record (cut t i k running s o f entry n reach below items part all g same_named same_next clear).inside)
      (records xs)

  abbrev given : List Element
  given = map (gives m (records xs)) (cut t i k running s o f entry n reach below items part all g same_named same_next clear).right

  abbrev number : ℕ
  number = inferences xs + 1

  abbrev old_taken : List Element
  old_taken = front ++ (Credit number rows
      ∷ (Plain own after_cut ∷ (EndOf h
      ∷ (given ++ (cut t i k running s o f entry n reach below items part all g same_named same_next clear).under))))

  abbrev near : Way
  near = record { node = t.next; index = 0; kind = ChoiceNode } ∷ way_of levels

  abbrev elem : Element
  elem = element_on near (with_nodes (node_of levels) cut_entry)

  abbrev cut_away : List Element
  cut_away = lower_pruned n (spending 1 levels)

  abbrev short : List Element
  short = elem ∷ (EndOf (0 ∷ t.next ∷ []) ∷ bare_list cut_away)

  abbrev placed : List Element
  placed = Credit 0 [] ∷ (elem ∷ (EndOf (0 ∷ t.next ∷ []) ∷ cut_away))

  abbrev last : List Element
  last = EndOf h ∷ ((cut t i k running s o f entry n reach below items part all g same_named same_next clear).right
      ++ (cut t i k running s o f entry n reach below items part all g same_named same_next clear).under)

  abbrev new_taken : List Element
  new_taken = front ++ (Credit number rows
      ∷ (short ++ (EndOf h ∷ (given ++ (cut t i k running s o f entry n reach below items part all g same_named same_next
      clear).under))))

  -- both by their heights
  abbrev rest : List Element
  rest = EndOf h ∷ (given ++ (cut t i k running s o f entry n reach below items part all g same_named same_next clear).under)

  abbrev new_rest : List Element
  new_rest = EndOf (0 ∷ t.next ∷ []) ∷ (bare_list cut_away ++ rest)

  part_on : (r : ℕ) → is_on (way_from (way_of levels) n) r ≡ true → is_on (way_of (w ∷ up)) r ≡ true
  part_on r z = subst (λ way. is_on way r ≡ true) (sym (way_down levels n) ∙ ap way_of
      (at t i k running s o f entry n reach below items part all g same_named same_next clear).down) z

  whole_on : (r : ℕ) → 1 ≤ count_around r (w ∷ up) → is_on (way_of (w ∷ up)) r ≡ true → is_on (way_of levels) r ≡ true
  whole_on r l z = on-down levels n r (subst (λ x. is_on (way_of x) r ≡ true)
      (sym (at t i k running s o f entry n reach below items part all g same_named same_next clear).down) z)

  heights_same : (r : ℕ) → is_on (way_from (way_of levels) n) r ≡ true → height rest (sc r) ≡ height new_rest (scope_on near r)
  heights_same r z =
      let on_r = part_on r z in
      let some = (on_upper t i k running s o f entry n reach below items part all g same_named same_next clear) r on_r in
      let on_all = whole_on r some on_r in
      let new : is_on (way_of levels) t.next
      ≡ false = off_way t.next levels ((free_here t i k running s o f entry).fresh t.next (omega arith)) in
      let far : scope_on near r ≡ sc r = scope-above (record { node = t.next; index = 0; kind = ChoiceNode }) (way_of levels) r
      (other_number (way_of levels) t.next r new on_all (t.next == r) refl) in
      let name = scope_at r (way_of levels) on_all in
      let inner : Each (IsInner (rooted (is_free_of (w ∷ up)))) (EndOf (0 ∷ t.next ∷ []) ∷ bare_list cut_away) = (
        zero_free (w ∷ up) t.next (next_free t i k running s o f entry n reach below items part all g same_named same_next clear),
        ends_inner (is_free_of (w ∷ up)) (rooted (is_free_of (w ∷ up))) (λ x y. y)
            (bare_list cut_away) ((ends_low t i k running s o f entry n reach below items part all g same_named same_next clear)
            (is_free_of (w ∷ up)) (λ q l. zero_free (w ∷ up) q
            ((low_free t i k running s o f entry n reach below items part all g same_named same_next clear) q l))),
      ) in
      let apart : rooted (is_free_of (w ∷ up)) (sc r) ≡ false = ap (rooted (is_free_of (w ∷ up))) name.1
      ∙ (upper_apart t i k running s o f entry n reach below items part all g same_named same_next clear) r name.0 some in
      sym (ap (height new_rest) far ∙ ap element_count
      (from-inner (rooted (is_free_of (w ∷ up))) (EndOf (0 ∷ t.next ∷ []) ∷ bare_list cut_away) rest (sc r) inner apart))

  entries_same : erased (Plain own after_cut ∷ rest) ≡ erased (short ++ rest)
  entries_same =
      let sf = scope_on near in
      let high = items_high sc sf (height rest) (height new_rest) (way_from (way_of levels) n) items heights_same part in
      let back : by_nodes (node_of levels) (by_heights levels items) ≡ items = back_again levels (way_of levels) items (λ r z. z) all in
      let right : map (with_height (height rest)) (map (renamed_item sc sc) items)
      ≡ map (with_height (height new_rest)) (map (renamed_item sf sf) (by_nodes (node_of levels) (by_heights levels items))) = high
      ∙ ap (λ l. map (with_height (height new_rest)) (map (renamed_item sf sf) l)) (sym back) in
      let new_items = map (with_height (height new_rest))
      (map (renamed_item sf sf) (by_nodes (node_of levels) (by_heights levels items))) in
      ap (λ l. HeightEntry (PlainEntry (record { items = l; named = f.named; next = f.next })) ∷ erased rest) right
      ∙ (ap (λ x. HeightEntry (PlainEntry (record { items = new_items; named = x; next = f.next })) ∷ erased rest) (sym same_named)
      ∙ (ap (λ x. HeightEntry (PlainEntry (record { items = new_items; named = g.named; next = x })) ∷ erased rest) (sym same_next)
      ∙ ap (λ l. HeightEntry (PlainEntry (record { items = new_items; named = g.named; next = g.next })) ∷ l)
      (sym (ends_gone (is_free_of (w ∷ up)) (bare_list cut_away) rest
      ((ends_low t i k running s o f entry n reach below items part all g same_named same_next clear) (is_free_of (w ∷ up))
      (λ q l. zero_free (w ∷ up) q ((low_free t i k running s o f entry n reach below items part all g same_named same_next clear) q
      l)))))))

  lists_same : erased old_taken ≡ erased new_taken
  lists_same =
      let pre = front ++ (Credit number rows ∷ []) in
      let tail = given ++ (cut t i k running s o f entry n reach below items part all g same_named same_next clear).under in
      let first = Plain own after_cut ∷ (EndOf h ∷ []) in
      let second = short ++ (EndOf h ∷ []) in
      let blind : Each (IsBlind (cut t i k running s o f entry n reach below items part all g same_named same_next clear).inside) pre =
      each-append (IsBlind (cut t i k running s o f entry n reach below items part all g same_named same_next clear).inside) front
      (Credit number rows ∷ []) (cut t i k running s o f entry n reach below items part all g same_named same_next clear).front
      (outer_apart (cut t i k running s o f entry n reach below items part all g same_named same_next clear).inside rs, tt) in
      let joined : second ++ tail ≡ short ++ rest = append-assoc short (EndOf h ∷ []) tail in
      let heights : erased (first ++ tail) ≡ erased (second ++ tail) = entries_same ∙ ap erased (sym joined) in
      ap erased (sym (append-assoc front (Credit number rows ∷ []) (first ++ tail)))
      ∙ (front_is_same (cut t i k running s o f entry n reach below items part all g same_named same_next clear).inside pre first second
      tail blind (
        (own_inside t i k running s o f entry n reach below items part all g same_named same_next clear),
        ((scope_inside t i k running s o f entry n reach below items part all g same_named same_next clear), tt),
      ) (each-append (IsInner (cut t i k running s o f entry n reach below items part all g same_named same_next clear).inside) short
      (EndOf h ∷ []) (short_inner t i k running s o f entry n reach below items part all g same_named same_next clear)
      ((scope_inside t i k running s o f entry n reach below items part all g same_named same_next clear), tt)) heights
      ∙ ap erased (append-assoc front (Credit number rows ∷ []) (second ++ tail) ∙ ap (λ l. front ++ (Credit number rows ∷ l)) joined))

  pub cut_moves : (es : List Entry) → act t.job.clauses (bare t.job.clauses own named)
      ≡ Infers (Seek (Scope (scope_on (way_of (levels_of s)) n) (Plain own after_cut)))
      → IsSound (pending_list (cut_at s n (cut_entry ∷ es) t).root) → PruneMoves t (cut_at s n (cut_entry ∷ es) t)
  cut_moves es takes j =
      let clauses = t.job.clauses in
      let old = list_here t i k running s o f entry
      ∙ (old_list t i k running s o f entry n reach below items part all g same_named same_next clear) in
      let new = (new_list t i k running s o f entry n reach below items part all g same_named same_next clear) es in
      let one = (old_becomes t i k running s o f entry n reach below items part all g same_named same_next clear) takes in
      let two = (new_becomes t i k running s o f entry n reach below items part all g same_named same_next clear) in
      let three = (bared t i k running s o f entry n reach below items part all g same_named same_next clear) in
      let flat : (front ++ ones) ++ (short ++ last)
      ≡ front ++ ((ones ++ (short ++ (EndOf h
      ∷ (cut t i k running s o f entry n reach below items part all g same_named same_next clear).right)))
      ++ (cut t i k running s o f entry n reach below items part all g same_named same_next clear).under) =
      append-assoc front ones (short ++ last) ∙ ap (λ l. front ++ l) (ap (λ l. ones ++ l) (sym (append-assoc short (EndOf h
      ∷ (cut t i k running s o f entry n reach below items part all g same_named same_next clear).right)
      (cut t i k running s o f entry n reach below items part all g same_named same_next clear).under)) ∙ sym (append-assoc ones (short
      ++ (EndOf h ∷ (cut t i k running s o f entry n reach below items part all g same_named same_next clear).right))
      (cut t i k running s o f entry n reach below items part all g same_named same_next clear).under)) in
      let sound_old : IsSound (front ++ ((xs ++ (Plain own named ∷ mid))
      ++ (cut t i k running s o f entry n reach below items part all g same_named same_next clear).under)) = subst IsSound
      (old_list t i k running s o f entry n reach below items part all g same_named same_next clear)
      (sound_here t i k running s o f entry) in
      let sound_short : IsSound (front
      ++ ((ones ++ (short ++ (EndOf h
      ∷ (cut t i k running s o f entry n reach below items part all g same_named same_next clear).right)))
      ++ (cut t i k running s o f entry n reach below items part all g same_named same_next clear).under)) = subst IsSound flat
      (three.sound (subst IsSound new j)) in
      let names = names_are_free clauses old_taken new_taken (one.sound sound_old) (two.sound sound_short) lists_same in
      let quiet = quiet-append low (Credit v.spent [] ∷ [])
      (quiet_low t i k running s o f entry n reach below items part all g same_named same_next clear) tt in
      let quiet_ones = quiet-append low (Credit (v.spent + 1) [] ∷ [])
      (quiet_low t i k running s o f entry n reach below items part all g same_named same_next clear) tt in
      let lead_old : lead ((xs ++ (Plain own named ∷ mid))
      ++ (cut t i k running s o f entry n reach below items part all g same_named same_next clear).under)
      ≡ inferences xs + 0 = ap lead (append-assoc xs (Plain own named ∷ mid)
      (cut t i k running s o f entry n reach below items part all g same_named same_next clear).under)
      ∙ lead-quiet xs (Plain own named
      ∷ (mid ++ (cut t i k running s o f entry n reach below items part all g same_named same_next clear).under)) quiet in
      let lead_new : lead (ones ++ (placed ++ last)) ≡ inferences ones + 0 = lead-quiet ones (placed ++ last) quiet_ones in
      let count = (number_is t i k running s o f entry n reach below items part all g same_named same_next clear) in
      let more = lead-grows front ((xs ++ (Plain own named ∷ mid))
      ++ (cut t i k running s o f entry n reach below items part all g same_named same_next clear).under) (ones ++ (placed ++ last))
      (omega (arith, lead_old, lead_new, count)) in
      let all_leads : lead (pending_list t.root) ≤ lead (pending_list (cut_at s n (cut_entry ∷ es) t).root) =
      (let x = ap lead old in let y = ap lead (new ∙ append-assoc front ones (placed ++ last)) in omega (arith, x, y, more)) in
      record {
        world = refl;
        queries = refl;
        halted = refl;
        follows = record {
          alike = λ q x b. ap (λ l. seen (run m q x (free_steps m [] l))) old
              ∙ (one.alike q x
              ∙ (names q x
              ∙ (sym (two.alike q x)
              ∙ (ap (λ l. seen (run m q x (free_steps m [] l))) (sym flat)
              ∙ (sym (three.alike q x) ∙ ap (λ l. seen (run m q x (free_steps m [] l))) (sym new))))));
          lead = λ q b l. omega (arith, all_leads, l);
        };
        going = λ z. no_quiet ((front ++ ones) ++ (Credit 0 [] ∷ [])) _ _ _
            (subst IsQuiet (new ∙ sym (append-assoc (front ++ ones) (Credit 0 [] ∷ [])
            (elem ∷ (EndOf (0 ∷ t.next ∷ []) ∷ (cut_away ++ last))))) z);
      }
