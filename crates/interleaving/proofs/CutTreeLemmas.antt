-- The list of the tree after a cut.
use Rattle.std.proofs.Common.{◌≡◌, ℕ, ◌+◌, ◌≤◌, ◌==◌, Bool, true, false, List, [], ◌∷◌, ◌++◌, map, length, Some, None, sym, ap, ◌∙◌}
use Rattle.std.proofs.Common.{subst, arith}
use Rattle.au_model.specs.Terms.Each.{Each}
use Rattle.run_model.specs.Machine.Items.{Item, Continuation, with_items}
use Rattle.run_model.specs.Machine.Entries.{Entry, PlainEntry}
use Rattle.tree_model.specs.Nodes.{ChoiceNode, Inner, single}
use Rattle.tree_model.specs.Levels.{Level, Spot, levels_of}
use Rattle.tree_model.specs.Floors.{renamed_item, node_of, with_nodes}
use Rattle.tree_model.specs.Orders.{levels_below}
use Rattle.tree_model.specs.Pruning.{pruned}
use Rattle.tree_model.specs.TreeStates.{TreeState}
use Rattle.tree_model.specs.Effects.{spending, cut_at}
use Rattle.tree_model.specs.PendingLists.{Way, way_of, scope_on, element_on, list_in, named_continuation, pending_list, spent_at}
use Rattle.tree_model.specs.PendingLists.{front_of, back_of}
use Rattle.tree_model.specs.Ways.{in_reach, way_from, AreScoped}
use Rattle.tree_model.specs.SoundTrees.{IsSoundTree}
use Rattle.tree_model.specs.CaughtTrees.{IsCaughtTree}
use Rattle.tree_model.specs.Elements.{Name, Record, Element, Credit, Plain, EndOf}
use Rattle.interleaving.specs.Machine.{Machine, gives}
use Rattle.interleaving.specs.Scopes.{Shared, Sought, scoped}
use Rattle.interleaving.specs.Segments.{outer, Private}
use Rattle.interleaving.specs.Quiet.{inferences, records}
use Rattle.interleaving.specs.Views.{IsInner}
use Rattle.interleaving.specs.Laws.{is_inner_record, IsSegment, MayBecome}
use Rattle.interleaving.proofs.ListRoundLemmas.{around}
use Rattle.interleaving.proofs.WayLemmas.{cond-false}
use Rattle.interleaving.proofs.RoundtripLemmas.{by_heights}
use Rattle.interleaving.proofs.OpenSpotLemmas.{IsOpenSpot}
use Rattle.interleaving.proofs.AppendLemmas.{append-assoc, each-append}
use Rattle.interleaving.proofs.QuietCreditLemmas.{gives-fixed, quiet-private}
use Rattle.interleaving.proofs.ListChangeLemmas.{becomes as private_becomes}
use Rattle.interleaving.proofs.BaredLemmas.{bare_becomes}
use Rattle.interleaving.proofs.ClockLemmas.{AreClear, quiet-append, inferences-append}
use Rattle.interleaving.proofs.FoldLemmas.{records-append}
use Rattle.interleaving.proofs.ListEndLemmas.{levels_down}
use Rattle.interleaving.proofs.PlacedNameLemmas.{bare as bare_list}
use Rattle.interleaving.proofs.LowerListLemmas.{lower_front, lower_back, count_lower}
use Rattle.interleaving.proofs.BallFollowsLemmas.{some_count}
use Rattle.interleaving.proofs.PrunedListLemmas.{pruned_front, lower_pruned, pruned_back, EndsOf, ends_inner, ends_fixed}
use Rattle.interleaving.proofs.PrunedListLemmas.{lower_ends}
use Rattle.interleaving.proofs.CutFollowsLemmas.{at, cut, low_ok, next_inside, next_own, scope_inside}
use Rattle.interleaving.proofs.CutTakenLemmas.{back_is, front_is, lower, quiet_low}
use Rattle.interleaving.proofs.GrowingLemmas.{pruned_way}

module _ (t : TreeState) (i : IsSoundTree t) (k : IsCaughtTree t) (running : t.halted ≡ None) (s : Spot) (o : IsOpenSpot t.root s)
    (f : Continuation ℕ) (entry : s.entry ≡ PlainEntry f)
    (n : ℕ) (reach : in_reach (way_of (levels_of s)) n ≡ true) (below : (s.level.number == n) ≡ false) (items : List (Item ℕ))
    (part : AreScoped (way_from (way_of (levels_of s)) n) items) (all : AreScoped (way_of (levels_of s)) items)
    (g : Continuation ℕ) (same_named : g.named ≡ f.named) (same_next : g.next ≡ f.next)
    (clear : AreClear (levels_below (Some n) (levels_of s))) where
  abbrev levels : List Level
  levels = levels_of s

  abbrev v : Level
  v = s.level

  abbrev m : Machine Shared Element Sought Record
  m = scoped t.job.clauses

  abbrev own : Name
  own = 0 ∷ length s.level.left ∷ s.level.number ∷ []

  abbrev named : Continuation Name
  named = named_continuation (way_of (levels_of s)) f

  abbrev sc : ℕ → Name
  sc = scope_on (way_of (levels_of s))

  abbrev after_cut : Continuation Name
  after_cut = record {
    items = map (renamed_item (scope_on (way_of (levels_of s))) (scope_on (way_of (levels_of s)))) items;
    named =
        f.named;
    next = f.next;
  }

  abbrev cut_entry : Entry
  cut_entry = PlainEntry (with_items (by_heights (levels_of s) items) g)

  abbrev w : Level
  w = (at t i k running s o f entry n reach below items part all g same_named same_next clear).level

  abbrev up : List Level
  up = (at t i k running s o f entry n reach below items part all g same_named same_next clear).above

  abbrev h : Name
  h = length w.left ∷ n ∷ []

  abbrev front : List Element
  front = front_of (w ∷ up)

  abbrev low : List Element
  low = lower_front n levels

  abbrev xs : List Element
  xs = low ++ (Credit v.spent [] ∷ [])

  abbrev ones : List Element
  ones = low ++ (Credit (v.spent + 1) [] ∷ [])

  abbrev mid : List Element
  mid = lower_back n levels ++ (EndOf h ∷ (cut t i k running s o f entry n reach below items part all g same_named same_next clear).right)

  abbrev rs : List Record
  rs = records xs

  abbrev rows : List Record
  rows = outer (is_inner_record (cut t i k running s o f entry n reach below items part all g same_named same_next clear).inside)
      (records xs)

  abbrev given : List Element
  given = map (gives m (records xs)) (cut t i k running s o f entry n reach below items part all g same_named same_next clear).right

  abbrev number : ℕ
  number = inferences xs + 1

  abbrev old_taken : List Element
  old_taken = front ++ (Credit number rows
      ∷ (Plain own after_cut ∷ (EndOf h
      ∷ (given ++ (cut t i k running s o f entry n reach below items part all g same_named same_next clear).under))))

  abbrev near : Way
  near = record { node = t.next; index = 0; kind = ChoiceNode } ∷ way_of levels

  abbrev elem : Element
  elem = element_on near (with_nodes (node_of levels) cut_entry)

  abbrev cut_away : List Element
  cut_away = lower_pruned n (spending 1 levels)

  abbrev short : List Element
  short = elem ∷ (EndOf (0 ∷ t.next ∷ []) ∷ bare_list cut_away)

  abbrev placed : List Element
  placed = Credit 0 [] ∷ (elem ∷ (EndOf (0 ∷ t.next ∷ []) ∷ cut_away))

  abbrev last : List Element
  last = EndOf h ∷ ((cut t i k running s o f entry n reach below items part all g same_named same_next clear).right
      ++ (cut t i k running s o f entry n reach below items part all g same_named same_next clear).under)

  pub ends_low : (ok : ℕ → Bool) → ((r : ℕ) → 1 ≤ count_lower r n levels → ok r ≡ true) → EndsOf ok (bare_list cut_away)
  ends_low ok c = lower_ends ok n (spending 1 levels) c

  spent_down : levels_down (spending 1 levels) n ≡ w ∷ up
  spent_down = cond-false (v.number == n) _ (levels_down s.above n) below
      ∙ (sym (cond-false (v.number == n) levels (levels_down s.above n) below)
      ∙ (at t i k running s o f entry n reach below items part all g same_named same_next clear).down)

  pub new_list : (es : List Entry) → pending_list (cut_at s n (cut_entry ∷ es) t).root ≡ (front ++ ones) ++ (placed ++ last)
  new_list es =
      let spent = spending 1 levels in
      let e = with_nodes (node_of levels) cut_entry in
      let node = single t.next e in
      let head = pruned_front n spent in
      around (pruned n spent) (Inner node)
      ∙ (ap (λ l. l ++ (Credit (spent_at (pruned n spent)) [] ∷ (list_in (way_of (pruned n spent)) node ++ back_of (pruned n spent))))
      head.0
      ∙ (ap (λ j. front_of levels ++ (Credit j [] ∷ (list_in (way_of (pruned n spent)) node ++ back_of (pruned n spent)))) head.1
      ∙ (ap (λ way. front_of levels ++ (Credit (v.spent + 1) [] ∷ (list_in way node ++ back_of (pruned n spent)))) (pruned_way n spent)
      ∙ (ap (λ l. front_of levels ++ (Credit (v.spent + 1) [] ∷ (list_in (way_of levels) node ++ l)))
      (pruned_back n spent ∙ ap (λ l. cut_away ++ l)
      (ap back_of spent_down ∙ (back_is t i k running s o f entry n reach below items part all g same_named same_next clear)))
      ∙ (ap (λ l. l ++ (Credit (v.spent + 1) [] ∷ (placed ++ last)))
      (front_is t i k running s o f entry n reach below items part all g same_named same_next clear)
      ∙ (append-assoc front low (Credit (v.spent + 1) [] ∷ (placed ++ last))
      ∙ sym (append-assoc front ones (placed ++ last)
      ∙ ap (λ l. front ++ l) (append-assoc low (Credit (v.spent + 1) [] ∷ []) (placed ++ last)))))))))

  pub bared : MayBecome t.job.clauses ((front ++ ones) ++ (placed ++ last)) ((front ++ ones) ++ (short ++ last))
  bared = bare_becomes t.job.clauses (front ++ ones) placed last

  abbrev new_taken : List Element
  new_taken = front ++ (Credit number rows
      ∷ (short ++ (EndOf h ∷ (given ++ (cut t i k running s o f entry n reach below items part all g same_named same_next
      clear).under))))

  pub short_inner : Each (IsInner (cut t i k running s o f entry n reach below items part all g same_named same_next clear).inside) short
  short_inner = (
    (next_own t i k running s o f entry n reach below items part all g same_named same_next clear),
    (
      (next_inside t i k running s o f entry n reach below items part all g same_named same_next clear) 0,
      ends_inner
          (cut t i k running s o f entry n reach below items part all g same_named same_next clear).ok
          (cut t i k running s o f entry n reach below items part all g same_named same_next clear).inside
          (cut t i k running s o f entry n reach below items part all g same_named same_next clear).named (bare_list cut_away)
          (ends_low (cut t i k running s o f entry n reach below items part all g same_named same_next clear).ok
          (low_ok t i k running s o f entry n reach below items part all g same_named same_next clear)),
    ),
  )

  pub number_is : inferences ones ≡ number
  number_is =
      let one : inferences ones ≡ inferences low + (v.spent + 1 + 0) = inferences-append low (Credit (v.spent + 1) [] ∷ []) in
      let two : inferences xs ≡ inferences low + (v.spent + 0) = inferences-append low (Credit v.spent [] ∷ []) in
      omega (arith, one, two)

  pub new_becomes : MayBecome t.job.clauses
      (front ++ ((ones ++ (short ++ (EndOf h
      ∷ (cut t i k running s o f entry n reach below items part all g same_named same_next clear).right)))
      ++ (cut t i k running s o f entry n reach below items part all g same_named same_next clear).under)) new_taken
  new_becomes =
      let clauses = t.job.clauses in
      let inner = is_inner_record (cut t i k running s o f entry n reach below items part all g same_named same_next clear).inside in
      let quiet = quiet-append low (Credit (v.spent + 1) [] ∷ [])
      (quiet_low t i k running s o f entry n reach below items part all g same_named same_next clear) tt in
      let c = short ++ (EndOf h ∷ (cut t i k running s o f entry n reach below items part all g same_named same_next clear).right) in
      let same : records ones ≡ rs = records-append low (Credit (v.spent + 1) [] ∷ [])
      ∙ sym (records-append low (Credit v.spent [] ∷ [])) in
      let run = quiet-private clauses inner ones c quiet in
      let two = subst (λ r. Private m inner (inferences ones) (outer inner r) (ones ++ c) (map (gives m r) c)) same run in
      let moved : map (gives m rs) c ≡ short ++ (EndOf h ∷ given) = given_short in
      let three = subst (λ l. Private m inner (inferences ones) rows (ones ++ c) l) moved two in
      let four = subst (λ j. Private m inner j rows (ones ++ c) (short ++ (EndOf h ∷ given))) number_is three in
      let seg : IsSegment (cut t i k running s o f entry n reach below items part all g same_named same_next clear).inside front
      (ones ++ c) (cut t i k running s o f entry n reach below items part all g same_named same_next clear).under = record {
        grown = (cut t i k running s o f entry n reach below items part all g same_named same_next clear).grown;
        front = (cut t i k running s o f entry n reach below items part all g same_named same_next clear).front;
        own = each-append (IsInner (cut t i k running s o f entry n reach below items part all g same_named same_next clear).inside) ones c
            (each-append (IsInner (cut t i k running s o f entry n reach below items part all g same_named same_next clear).inside) low
            (Credit (v.spent + 1) [] ∷ []) (lower t i k running s o f entry n reach below items part all g same_named same_next
            clear).0 (tt, tt))
            (each-append (IsInner (cut t i k running s o f entry n reach below items part all g same_named same_next clear).inside)
            short (EndOf h ∷ (cut t i k running s o f entry n reach below items part all g same_named same_next clear).right)
            short_inner (
              (scope_inside t i k running s o f entry n reach below items part all g same_named same_next clear),
              (cut t i k running s o f entry n reach below items part all g same_named same_next clear).inner,
            ));
        under = (cut t i k running s o f entry n reach below items part all g same_named same_next clear).beyond;
        some = some_count ones c (omega arith);
      } in
      subst (λ l. MayBecome clauses (front
      ++ ((ones ++ c) ++ (cut t i k running s o f entry n reach below items part all g same_named same_next clear).under))
      (front ++ (Credit number rows ∷ l)))
      (append-assoc short (EndOf h ∷ given) (cut t i k running s o f entry n reach below items part all g same_named same_next clear).under)
      (private_becomes clauses (cut t i k running s o f entry n reach below items part all g same_named same_next clear).inside number
      rows front (ones ++ c) (short ++ (EndOf h ∷ given))
      (cut t i k running s o f entry n reach below items part all g same_named same_next clear).under seg four)
    where
      given_short : map (gives m rs) (short
          ++ (EndOf h ∷ (cut t i k running s o f entry n reach below items part all g same_named same_next clear).right))
          ≡ short ++ (EndOf h ∷ given)
      given_short =
          let one = gives-fixed t.job.clauses rs elem tt in
          let two = gives-fixed t.job.clauses rs (EndOf (0 ∷ t.next ∷ [])) tt in
          let three = ends_fixed t.job.clauses rs
          (cut t i k running s o f entry n reach below items part all g same_named same_next clear).ok (bare_list cut_away)
          (EndOf h ∷ (cut t i k running s o f entry n reach below items part all g same_named same_next clear).right)
          (ends_low (cut t i k running s o f entry n reach below items part all g same_named same_next clear).ok
          (low_ok t i k running s o f entry n reach below items part all g same_named same_next clear)) in
          let four = gives-fixed t.job.clauses rs (EndOf h) tt in
          ap (λ x. x ∷ map (gives m rs) (EndOf (0 ∷ t.next ∷ [])
          ∷ (bare_list cut_away ++ (EndOf h
          ∷ (cut t i k running s o f entry n reach below items part all g same_named same_next clear).right)))) one
          ∙ (ap (λ x. elem ∷ (x ∷ map (gives m rs)
          (bare_list cut_away ++ (EndOf h
          ∷ (cut t i k running s o f entry n reach below items part all g same_named same_next clear).right)))) two
          ∙ (ap (λ l. elem ∷ (EndOf (0 ∷ t.next ∷ []) ∷ l)) three
          ∙ ap (λ x. short ++ (x ∷ given)) four))
