-- A cut, taken at once in the list before it.
use Rattle.std.proofs.Common.{◌≡◌, ℕ, suc, ◌+◌, ◌==◌, true, false, List, [], ◌∷◌, ◌++◌, map, length, Some, None, sym, ap, ◌∙◌, subst}
use Rattle.std.proofs.Common.{arith}
use Rattle.au_model.specs.Terms.Each.{Each}
use Rattle.run_model.specs.Machine.Items.{Item, Continuation, with_items}
use Rattle.run_model.specs.Machine.Entries.{Entry, PlainEntry}
use Rattle.tree_model.specs.Nodes.{ChoiceNode}
use Rattle.tree_model.specs.Levels.{Level, Spot, levels_of}
use Rattle.tree_model.specs.Floors.{renamed_item, node_of, with_nodes}
use Rattle.tree_model.specs.Orders.{levels_below}
use Rattle.tree_model.specs.TreeStates.{TreeState}
use Rattle.tree_model.specs.Effects.{spending}
use Rattle.tree_model.specs.PendingLists.{Way, way_of, scope_on, element_on, list_among, named_continuation, front_of, back_of}
use Rattle.tree_model.specs.Ways.{in_reach, way_from, AreScoped}
use Rattle.tree_model.specs.SoundTrees.{IsSoundTree}
use Rattle.tree_model.specs.CaughtTrees.{IsCaughtTree}
use Rattle.tree_model.specs.Elements.{Name, Record, Element, Credit, Plain, EndOf}
use Rattle.interleaving.specs.Machine.{Machine, Infers, Seek, gives}
use Rattle.interleaving.specs.Scopes.{Shared, Sought, Scope, act, scoped}
use Rattle.interleaving.specs.Segments.{outer}
use Rattle.interleaving.specs.Quiet.{IsQuiet, inferences, records}
use Rattle.interleaving.specs.Roots.{rooted}
use Rattle.interleaving.specs.Views.{IsInner}
use Rattle.interleaving.specs.Laws.{is_inner_record, IsSegment, MayBecome}
use Rattle.interleaving.proofs.RoundtripLemmas.{by_heights}
use Rattle.interleaving.proofs.OpenSpotLemmas.{IsOpenSpot}
use Rattle.interleaving.proofs.AppendLemmas.{append-assoc, each-append, append-nil}
use Rattle.interleaving.proofs.ListChangeLemmas.{becomes as private_becomes}
use Rattle.interleaving.proofs.ClockLemmas.{AreClear, quiet-append}
use Rattle.interleaving.proofs.ListEndLemmas.{ends_in}
use Rattle.interleaving.proofs.PlacedNameLemmas.{bare as bare_list}
use Rattle.interleaving.proofs.FrontCloseLemmas.{bare}
use Rattle.interleaving.proofs.LowerListLemmas.{lower_front, lower_back, front_split, back_split, lower_quiet, lower_inner}
use Rattle.interleaving.proofs.UpperBlindLemmas.{is_free_of, zero_free}
use Rattle.interleaving.proofs.BallSearchLemmas.{scope_pass, scope_here}
use Rattle.interleaving.proofs.GatePrivateLemmas.{gate_private}
use Rattle.interleaving.proofs.BallFollowsLemmas.{some_count}
use Rattle.interleaving.proofs.PrunedListLemmas.{lower_pruned}
use Rattle.interleaving.proofs.CutFollowsLemmas.{inner_no_end, at, cut, low_free, low_ok, own_inside, scope_inside, here_on, on_upper}
use Rattle.interleaving.proofs.CutFollowsLemmas.{upper_apart}

module _ (t : TreeState) (i : IsSoundTree t) (k : IsCaughtTree t) (running : t.halted ≡ None) (s : Spot) (o : IsOpenSpot t.root s)
    (f : Continuation ℕ) (entry : s.entry ≡ PlainEntry f)
    (n : ℕ) (reach : in_reach (way_of (levels_of s)) n ≡ true) (below : (s.level.number == n) ≡ false) (items : List (Item ℕ))
    (part : AreScoped (way_from (way_of (levels_of s)) n) items) (all : AreScoped (way_of (levels_of s)) items)
    (g : Continuation ℕ) (same_named : g.named ≡ f.named) (same_next : g.next ≡ f.next)
    (clear : AreClear (levels_below (Some n) (levels_of s))) where
  abbrev levels : List Level
  levels = levels_of s

  abbrev v : Level
  v = s.level

  abbrev m : Machine Shared Element Sought Record
  m = scoped t.job.clauses

  abbrev own : Name
  own = 0 ∷ length s.level.left ∷ s.level.number ∷ []

  abbrev named : Continuation Name
  named = named_continuation (way_of (levels_of s)) f

  abbrev sc : ℕ → Name
  sc = scope_on (way_of (levels_of s))

  abbrev after_cut : Continuation Name
  after_cut = record {
    items = map (renamed_item (scope_on (way_of (levels_of s))) (scope_on (way_of (levels_of s)))) items;
    named =
        f.named;
    next = f.next;
  }

  abbrev cut_entry : Entry
  cut_entry = PlainEntry (with_items (by_heights (levels_of s) items) g)

  abbrev w : Level
  w = (at t i k running s o f entry n reach below items part all g same_named same_next clear).level

  abbrev up : List Level
  up = (at t i k running s o f entry n reach below items part all g same_named same_next clear).above

  abbrev h : Name
  h = length w.left ∷ n ∷ []

  -- the parts of the list
  abbrev front : List Element
  front = front_of (w ∷ up)

  abbrev low : List Element
  low = lower_front n levels

  abbrev xs : List Element
  xs = low ++ (Credit v.spent [] ∷ [])

  abbrev ones : List Element
  ones = low ++ (Credit (v.spent + 1) [] ∷ [])

  abbrev mid : List Element
  mid = lower_back n levels ++ (EndOf h ∷ (cut t i k running s o f entry n reach below items part all g same_named same_next clear).right)

  pub back_is : back_of (w ∷ up) ≡ EndOf h
      ∷ ((cut t i k running s o f entry n reach below items part all g same_named same_next clear).right
      ++ (cut t i k running s o f entry n reach below items part all g same_named same_next clear).under)
  back_is = ap (λ r. EndOf (length w.left ∷ r ∷ [])
      ∷ (list_among (way_of up) w.number w.kind (suc (length w.left)) w.right ++ back_of up))
      (at t i k running s o f entry n reach below items part all g same_named same_next clear).number
      ∙ ap (λ l. EndOf h ∷ l) (cut t i k running s o f entry n reach below items part all g same_named same_next clear).parted

  pub front_is : front_of levels ≡ front ++ low
  front_is = front_split n levels
      ∙ ap (λ l. front_of l ++ low) (at t i k running s o f entry n reach below items part all g same_named same_next clear).down

  pub old_list : front_of levels ++ (Credit v.spent [] ∷ (Plain own named ∷ back_of levels))
      ≡ front ++ ((xs ++ (Plain own named ∷ mid))
      ++ (cut t i k running s o f entry n reach below items part all g same_named same_next clear).under)
  old_list =
      let tail = Plain own named ∷ back_of levels in
      let behind : back_of levels ≡ mid
      ++ (cut t i k running s o f entry n reach below items part all g same_named same_next clear).under = back_split n levels
      ∙ (ap (λ l. lower_back n levels ++ back_of l)
      (at t i k running s o f entry n reach below items part all g same_named same_next clear).down
      ∙ (ap (λ l. lower_back n levels ++ l) back_is
      ∙ sym (append-assoc (lower_back n levels)
      (EndOf h ∷ (cut t i k running s o f entry n reach below items part all g same_named same_next clear).right)
      (cut t i k running s o f entry n reach below items part all g same_named same_next clear).under))) in
      ap (λ l. l ++ (Credit v.spent [] ∷ tail)) front_is
      ∙ (append-assoc front low (Credit v.spent [] ∷ tail)
      ∙ (ap (λ l. front ++ (low ++ (Credit v.spent [] ∷ (Plain own named ∷ l)))) behind
      ∙ ap (λ l. front ++ l) (sym (append-assoc xs (Plain own named ∷ mid)
      (cut t i k running s o f entry n reach below items part all g same_named same_next clear).under
      ∙ append-assoc low (Credit v.spent [] ∷ [])
      (Plain own named ∷ (mid ++ (cut t i k running s o f entry n reach below items part all g same_named same_next
      clear).under))))))

  pub lower : Each (IsInner (cut t i k running s o f entry n reach below items part all g same_named same_next clear).inside)
      (lower_front n levels) × Each (IsInner
      (cut t i k running s o f entry n reach below items part all g same_named same_next clear).inside) (lower_back n levels)
  lower = lower_inner (cut t i k running s o f entry n reach below items part all g same_named same_next clear).inside
      (cut t i k running s o f entry n reach below items part all g same_named same_next clear).ok
      (cut t i k running s o f entry n reach below items part all g same_named same_next clear).named n levels
      (low_ok t i k running s o f entry n reach below items part all g same_named same_next clear)

  no_end : ends_in h (lower_back n levels) ≡ false
  no_end =
      let apart = (upper_apart t i k running s o f entry n reach below items part all g same_named same_next clear) n 0
      ((on_upper t i k running s o f entry n reach below items part all g same_named same_next clear) n
      ((here_on t i k running s o f entry n reach below items part all g same_named same_next clear)
      (at t i k running s o f entry n reach below items part all g same_named same_next clear).level
      (at t i k running s o f entry n reach below items part all g same_named same_next clear).above
      (at t i k running s o f entry n reach below items part all g same_named same_next clear).number)) in
      inner_no_end (rooted (is_free_of (w ∷ up))) h (lower_back n levels) apart
      (lower_inner (rooted (is_free_of (w ∷ up))) (is_free_of (w ∷ up)) (λ x y. y) n levels
      (λ r l. zero_free (w ∷ up) r ((low_free t i k running s o f entry n reach below items part all g same_named same_next clear) r l))).1

  pub quiet_low : IsQuiet low
  quiet_low = lower_quiet n levels clear

  segment : IsSegment (cut t i k running s o f entry n reach below items part all g same_named same_next clear).inside front
      (xs ++ (Plain own named ∷ mid)) (cut t i k running s o f entry n reach below items part all g same_named same_next clear).under
  segment = record {
    grown = (cut t i k running s o f entry n reach below items part all g same_named same_next clear).grown;
    front = (cut t i k running s o f entry n reach below items part all g same_named same_next clear).front;
    own = each-append (IsInner (cut t i k running s o f entry n reach below items part all g same_named same_next clear).inside) xs
        (Plain own named ∷ mid)
        (each-append (IsInner (cut t i k running s o f entry n reach below items part all g same_named same_next clear).inside) low
        (Credit v.spent [] ∷ []) lower.0 (tt, tt)) (
          (own_inside t i k running s o f entry n reach below items part all g same_named same_next clear),
          each-append
              (IsInner (cut t i k running s o f entry n reach below items part all g same_named same_next clear).inside)
              (lower_back n levels) (EndOf h ∷ (cut t i k running s o f entry n reach below items part all g same_named same_next
              clear).right) lower.1 (
                (scope_inside t i k running s o f entry n reach below items part all g same_named same_next clear),
                (cut t i k running s o f entry n reach below items part all g same_named same_next clear).inner,
              ),
        );
    under = (cut t i k running s o f entry n reach below items part all g same_named same_next clear).beyond;
    some = some_count xs (Plain own named ∷ mid) (omega arith);
  }

  abbrev rs : List Record
  rs = records xs

  abbrev rows : List Record
  rows = outer (is_inner_record (cut t i k running s o f entry n reach below items part all g same_named same_next clear).inside)
      (records xs)

  abbrev given : List Element
  given = map (gives m (records xs)) (cut t i k running s o f entry n reach below items part all g same_named same_next clear).right

  abbrev number : ℕ
  number = inferences xs + 1

  -- the cut, taken at once
  abbrev old_taken : List Element
  old_taken = front ++ (Credit number rows
      ∷ (Plain own after_cut ∷ (EndOf h
      ∷ (given ++ (cut t i k running s o f entry n reach below items part all g same_named same_next clear).under))))

  pub old_becomes : act t.job.clauses (bare t.job.clauses own named) ≡ Infers (Seek (Scope (sc n) (Plain own after_cut)))
      → MayBecome t.job.clauses (front
      ++ ((xs ++ (Plain own named ∷ mid))
      ++ (cut t i k running s o f entry n reach below items part all g same_named same_next clear).under)) old_taken
  old_becomes takes =
      let clauses = t.job.clauses in
      let x = Plain own after_cut in
      let quiet = quiet-append low (Credit v.spent [] ∷ []) quiet_low tt in
      let seeks : act clauses (bare clauses own named) ≡ Infers (Seek (Scope h x)) = takes
      ∙ ap (λ y. Infers (Seek (Scope y x)))
      (at t i k running s o f entry n reach below items part all g same_named same_next clear).scope in
      let found = scope_pass clauses h x rs (lower_back n levels)
      (EndOf h ∷ (cut t i k running s o f entry n reach below items part all g same_named same_next clear).right) no_end
      ∙ scope_here clauses h x rs (cut t i k running s o f entry n reach below items part all g same_named same_next clear).right in
      let run = gate_private clauses (is_inner_record
      (cut t i k running s o f entry n reach below items part all g same_named same_next clear).inside) xs own named
      (Seek (Scope h x)) mid (x ∷ (EndOf h ∷ given)) quiet
      seeks found in
      subst (λ l. MayBecome clauses (front
      ++ ((xs ++ (Plain own named ∷ mid))
      ++ (cut t i k running s o f entry n reach below items part all g same_named same_next clear).under))
      (front ++ (Credit number l ∷ (x
      ∷ (EndOf h ∷ (given ++ (cut t i k running s o f entry n reach below items part all g same_named same_next clear).under))))))
      (append-nil rows)
      (private_becomes clauses (cut t i k running s o f entry n reach below items part all g same_named same_next clear).inside number
      (rows ++ []) front (xs ++ (Plain own named ∷ mid)) (x ∷ (EndOf h ∷ given))
      (cut t i k running s o f entry n reach below items part all g same_named same_next clear).under
      segment run)

  -- the tree's list
  abbrev near : Way
  near = record { node = t.next; index = 0; kind = ChoiceNode } ∷ way_of levels

  abbrev elem : Element
  elem = element_on near (with_nodes (node_of levels) cut_entry)

  abbrev cut_away : List Element
  cut_away = lower_pruned n (spending 1 levels)

  abbrev short : List Element
  short = elem ∷ (EndOf (0 ∷ t.next ∷ []) ∷ bare_list cut_away)

  abbrev placed : List Element
  placed = Credit 0 [] ∷ (elem ∷ (EndOf (0 ∷ t.next ∷ []) ∷ cut_away))

  abbrev last : List Element
  last = EndOf h ∷ ((cut t i k running s o f entry n reach below items part all g same_named same_next clear).right
      ++ (cut t i k running s o f entry n reach below items part all g same_named same_next clear).under)
