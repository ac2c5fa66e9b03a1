-- The entries that a gate leaves at the front, by the names of the run and by those of a new node: the same heights.
use Rattle.std.proofs.Common.{◌≡◌, ℕ, zero, suc, ◌+◌, ◌-◌, ◌≤◌, ◌==◌, Bool, true, false, cond, List, [], ◌∷◌, ◌++◌, map, length, Option}
use Rattle.std.proofs.Common.{Some, None, refl, sym, ap, ◌∙◌, arith}
use Rattle.au_term.specs.Term.{Term}
use Rattle.au_model.specs.Terms.Substitutions.{Substitution}
use Rattle.au_model.specs.Terms.Unifier.{unifier}
use Rattle.run_model.specs.Goals.Outcomes.{Solution}
use Rattle.run_model.specs.Machine.Items.{Item, GoalItem, CatchMark, CollectMark, RemovalItem, Continuation, goals_at, resolve_item}
use Rattle.run_model.specs.Machine.Items.{resolve_named}
use Rattle.run_model.specs.Machine.Items.{before, removal_items, removing, with_next}
use Rattle.run_model.specs.Machine.Entries.{Entry, PlainEntry, unified, solution_entries}
use Rattle.tree_model.specs.Nodes.{ChoiceNode, CatchNode, FindallNode}
use Rattle.tree_model.specs.Levels.{Level}
use Rattle.tree_model.specs.Floors.{renamed_item, height_of, node_of, with_nodes}
use Rattle.tree_model.specs.PendingLists.{Way, way_of, scope_on}
use Rattle.tree_model.specs.Ways.{is_on, way_from, way_above, AreScoped}
use Rattle.tree_model.specs.SoundTrees.{one_if}
use Rattle.tree_model.specs.Elements.{Name, Element, Plain, EndOf}
use Rattle.tree_model.proofs.CountLemmas.{count_around}
use Rattle.interleaving.specs.Scopes.{unified_element, solution_elements}
use Rattle.interleaving.specs.HeightMachine.{HeightEntry}
use Rattle.interleaving.specs.Erased.{from, element_count, height, with_height, erased}
use Rattle.interleaving.proofs.ClosingSoundLemmas.{IsFree, free-above}
use Rattle.interleaving.proofs.WayLemmas.{reach-on, through-on}
use Rattle.interleaving.proofs.RoundtripLemmas.{by_heights, height_positive, node_height, part_from, part_above}
use Rattle.interleaving.proofs.EntryLemmas.{own_height}
use Rattle.interleaving.proofs.NamingLemmas.{from_end, from_own, heights-resolved}
use Rattle.interleaving.proofs.NamedFloorLemmas.{scope-above, scope-here, from-other}
use Rattle.interleaving.proofs.PlacedNameLemmas.{olders, from_olders, other_node}
use Rattle.au_term.proofs.LogicLemmas.{number_same}

-- a new number is named by no height
node_free : (next : ℕ) (levels : List Level) → IsFree next levels → 1 ≤ next → (h : ℕ) → node_of levels h ≡ next → ⊥
node_free next [] f l h e = let no_way : ⊥ = omega (arith, l, e) in no_way
node_free next (v ∷ up) f l h e = go (h == suc (length up)) (node_free next up (free-above next v up f) l h) e
  where
    go : (b : Bool) → (node_of up h ≡ next → ⊥) → cond b v.number (node_of up h) ≡ next → ⊥
    go false k z = k z
    go true k z =
        let none_there : count_around next (v ∷ up) ≡ 0 = f.fresh next (omega arith) in
        let here : one_if (v.number == next) ≡ 1 = ap one_if (ap (λ n. n == next) z ∙ number_same next) in
        omega (arith, none_there, here)

next_some : (next : ℕ) (v : Level) (up : List Level) → IsFree next (v ∷ up) → 1 ≤ next
next_some zero v up f =
    let none_there : count_around v.number (v ∷ up) ≡ 0 = f.fresh v.number (omega arith) in
    let here : one_if (v.number == v.number) ≡ 1 = ap one_if (number_same v.number) in
    let no_way : ⊥ = omega (arith, none_there, here) in absurd no_way
next_some (suc n) v up f = omega arith

pub resolved_names : (f g : ℕ → ℕ) (o : Substitution) (items : List (Item ℕ)) → map (renamed_item f g) (map (resolve_item o) items)
    ≡ map (resolve_item o) (map (renamed_item f g) items)
resolved_names f g o [] = refl
resolved_names f g o (GoalItem t s ∷ items) = ap (λ l. resolve_item o (GoalItem t (f s)) ∷ l) (resolved_names f g o items)
resolved_names f g o (CatchMark s ∷ items) = ap (λ l. CatchMark (g s) ∷ l) (resolved_names f g o items)
resolved_names f g o (CollectMark t s ∷ items) = ap (λ l. resolve_item o (CollectMark t (g s)) ∷ l) (resolved_names f g o items)
resolved_names f g o (RemovalItem n ∷ items) = ap (λ l. RemovalItem n ∷ l) (resolved_names f g o items)

goals_heights : (h : Name → ℕ) (f g : ℕ → ℕ) (p : Name) (n : ℕ) → h p ≡ f n
    → (gs : List Term) (xs : List (Item Name)) (ys : List (Item ℕ)) → map (with_height h) xs ≡ map (renamed_item f g) ys
    → map (with_height h) (goals_at p gs ++ xs) ≡ map (renamed_item f g) (goals_at n gs ++ ys)
goals_heights h f g p n e [] xs ys k = k
goals_heights h f g p n e (t ∷ gs) xs ys k = ap (λ i. GoalItem t i ∷ map (with_height h) (goals_at p gs ++ xs)) e
    ∙ ap (λ l. GoalItem t (f n) ∷ l) (goals_heights h f g p n e gs xs ys k)

removal_same : (h : Name → ℕ) (f g : ℕ → ℕ) (number : Option ℕ) (xs : List (Item Name)) (ys : List (Item ℕ))
    → map (with_height h) xs ≡ map (renamed_item f g) ys
    → map (with_height h) (removal_items number ++ xs) ≡ map (renamed_item f g) (removal_items number ++ ys)
removal_same h f g None xs ys k = k
removal_same h f g (Some n) xs ys k = ap (λ l. RemovalItem n ∷ l) k

-- a scope of a branch is no entry's own name
scope_short : (way : Way) (s a b c : ℕ) → scope_on way s ≡ a ∷ b ∷ c ∷ [] → ⊥
scope_short [] s a b c e = cc
scope_short (x ∷ way) s a b c e = go (x.node == s) (scope_short way s a b c) e
  where
    go : (t : Bool) → (scope_on way s ≡ a ∷ b ∷ c ∷ [] → ⊥) → cond t (x.index ∷ x.node ∷ []) (scope_on way s) ≡ a ∷ b ∷ c ∷ [] → ⊥
    go true f z = cc
    go false f z = f z

module _ (v : Level) (up : List Level) (next : ℕ) (free : IsFree next (v ∷ up)) (tail : List Element) where
  abbrev way : Way
  way = way_of (v ∷ up)

  abbrev node : ℕ → ℕ
  node = node_of (v ∷ up)

  -- what is right of the place
  abbrev rest : List Element
  rest = EndOf (length v.left ∷ v.number ∷ []) ∷ tail

  abbrev own : Name
  own = 0 ∷ length v.left ∷ v.number ∷ []

  -- the height of what a height names
  abbrev tall : ℕ → ℕ
  tall h = height (EndOf (length v.left ∷ v.number ∷ []) ∷ tail) (scope_on (way_of (v ∷ up)) (node_of (v ∷ up) h))

  abbrev height_mark : ℕ → ℕ
  height_mark h = height (EndOf (length v.left ∷ v.number ∷ []) ∷ tail) (scope_on (way_of (v ∷ up)) (node_of (v ∷ up) (suc h))) - 1

  abbrev below : ℕ → Way
  below k = record { node = next; index = k; kind = ChoiceNode } ∷ way_of (v ∷ up)

  tree_items : (h : Name → ℕ) (k : ℕ) → ((n : ℕ) → h (scope_on (below k) (node n)) ≡ tall n) → (items : List (Item ℕ))
      → map (with_height h) (map (renamed_item (scope_on (below k)) (scope_on (below k)))
      (map (renamed_item node (λ n. node (suc n))) items)) ≡ map (renamed_item tall height_mark) items
  tree_items h k f [] = refl
  tree_items h k f (GoalItem t s ∷ items) = ap
      (λ n. GoalItem t n ∷ map (with_height h)
      (map (renamed_item (scope_on (below k)) (scope_on (below k))) (map (renamed_item node (λ n. node (suc n))) items))) (f s)
      ∙ ap (λ l. GoalItem t (tall s) ∷ l) (tree_items h k f items)
  tree_items h k f (CatchMark s ∷ items) = ap
      (λ n. CatchMark (n - 1) ∷ map (with_height h)
      (map (renamed_item (scope_on (below k)) (scope_on (below k))) (map (renamed_item node (λ n. node (suc n))) items))) (f (suc s))
      ∙ ap (λ l. CatchMark (height_mark s) ∷ l) (tree_items h k f items)
  tree_items h k f (CollectMark t s ∷ items) = ap
      (λ n. CollectMark t (n - 1) ∷ map (with_height h)
      (map (renamed_item (scope_on (below k)) (scope_on (below k))) (map (renamed_item node (λ n. node (suc n))) items))) (f (suc s))
      ∙ ap (λ l. CollectMark t (height_mark s) ∷ l) (tree_items h k f items)
  tree_items h k f (RemovalItem n ∷ items) = ap (λ l. RemovalItem n ∷ l) (tree_items h k f items)

  here : (s : ℕ) → is_on way s ≡ true → tall (height_of (v ∷ up) s) ≡ height rest (scope_on way s)
  here s o = ap (λ n. height rest (scope_on way n)) (node_height (v ∷ up) s o)

  mark_here : (s : ℕ) → is_on way s ≡ true → height_mark (height_of (v ∷ up) s - 1) ≡ height rest (scope_on way s) - 1
  mark_here s o = ap (λ n. height rest (scope_on way (node n)) - 1) (height_positive (v ∷ up) s o) ∙ ap (λ n. n - 1) (here s o)

  names_items : (h : Name → ℕ) → ((r : ℕ) → h (scope_on way r) ≡ height rest (scope_on way r)) → (part : Way) (items : List (Item ℕ))
      → ((r : ℕ) → is_on part r ≡ true → is_on way r ≡ true) → AreScoped part items
      → map (with_height h) (map (renamed_item (scope_on way) (scope_on way)) items)
      ≡ map (renamed_item tall height_mark) (by_heights (v ∷ up) items)
  names_items h f part [] o i = refl
  names_items h f part (GoalItem t s ∷ items) o i =
      ap (λ n. GoalItem t n ∷ map (with_height h) (map (renamed_item (scope_on way) (scope_on way)) items))
      (f s ∙ sym (here s (o s (reach-on part s i.0))))
      ∙ ap (λ l. GoalItem t (tall (height_of (v ∷ up) s)) ∷ l)
      (names_items h f (way_from part s) items (λ r k. o r (part_from part s r k)) i.1)
  names_items h f part (CatchMark s ∷ items) o i =
      ap (λ n. CatchMark n ∷ map (with_height h) (map (renamed_item (scope_on way) (scope_on way)) items))
      (ap (λ n. n - 1) (f s) ∙ sym (mark_here s (o s (through-on CatchNode part s i.0))))
      ∙ ap (λ l. CatchMark (height_mark (height_of (v ∷ up) s - 1)) ∷ l)
      (names_items h f (way_above part s) items (λ r k. o r (part_above part s r k)) i.1)
  names_items h f part (CollectMark t s ∷ items) o i =
      ap (λ n. CollectMark t n ∷ map (with_height h) (map (renamed_item (scope_on way) (scope_on way)) items))
      (ap (λ n. n - 1) (f s) ∙ sym (mark_here s (o s (through-on FindallNode part s i.0))))
      ∙ ap (λ l. CollectMark t (height_mark (height_of (v ∷ up) s - 1)) ∷ l)
      (names_items h f (way_above part s) items (λ r k. o r (part_above part s r k)) i.1)
  names_items h f part (RemovalItem n ∷ items) o i = ap (λ l. RemovalItem n ∷ l) (names_items h f part items o i)

  -- heights over what stands to the right of each
  over_olders : (k : ℕ) (es : List Entry) (n : ℕ) → height (EndOf (k ∷ next ∷ []) ∷ (olders way next ChoiceNode (suc k) es ++ rest))
      (scope_on (below k) (node n)) ≡ tall n
  over_olders k es n =
      let apart : node n ≡ next → ⊥ = node_free next (v ∷ up) free (next_some next v up free) n in
      ap (height (EndOf (k ∷ next ∷ []) ∷ (olders way next ChoiceNode (suc k) es ++ rest)))
      (scope-above (record { node = next; index = k; kind = ChoiceNode }) way (node n) (other_node (node n) next apart))
      ∙ ap element_count (from-other way (node n) k next (olders way next ChoiceNode (suc k) es ++ rest) apart
      ∙ from_olders way next ChoiceNode (suc k) es rest (node n) apart)

  pub top_height : tall (suc (length up)) ≡ element_count rest
  top_height = ap (λ n. height rest (scope_on way n)) (own_height v up)
      ∙ (ap (height rest) (scope-here (record { node = v.number; index = length v.left; kind = v.kind }) (way_of up) v.number
      (number_same v.number)) ∙ ap element_count (from_own (length v.left ∷ v.number ∷ []) tail))

  over_own : (n : ℕ) → height (EndOf own ∷ rest) (scope_on way n) ≡ height rest (scope_on way n)
  over_own n = ap element_count (from_end own (scope_on way n) rest (scope_short way n 0 (length v.left) v.number))

  own_count : height (EndOf own ∷ rest) own ≡ element_count rest
  own_count = ap element_count (from_own own rest)

  module _ (f : Continuation ℕ) (items : List (Item ℕ)) (scoped : AreScoped (way_of (v ∷ up)) items) where
    -- by names, and by heights
    abbrev pub named_rest : Continuation Name
    named_rest = record {
      items = map (renamed_item (scope_on (way_of (v ∷ up))) (scope_on (way_of (v ∷ up)))) items;
      named = f.named;
      next = f.next;
    }

    abbrev pub height_rest : Continuation ℕ
    height_rest = record { items = by_heights (v ∷ up) items; named = f.named; next = f.next }

    -- one entry, as it is
    pub one_same : (q : Name) → erased (Plain q named_rest ∷ rest)
        ≡ erased (olders way next ChoiceNode 0 (map (with_nodes node) (PlainEntry height_rest ∷ [])) ++ rest)
    one_same q =
        ap (λ l. HeightEntry (PlainEntry (record { items = l; named = f.named; next = f.next })) ∷ erased rest)
        (names_items (height rest) (λ r. refl) way items (λ r k. k) scoped
        ∙ sym (tree_items (height (EndOf (0 ∷ next ∷ []) ∷ rest)) 0 (λ n. over_olders 0 [] n) (by_heights (v ∷ up) items)))

    solved_items : (h : Name → ℕ) (k : ℕ) (es : List Entry) (o : Substitution) (gs : List Term) (number : Option ℕ)
        → ((r : ℕ) → h (scope_on way r) ≡ height rest (scope_on way r)) → h own ≡ element_count rest
        → map (with_height h) (map (resolve_item o) (goals_at own gs ++ (removal_items number ++ map (renamed_item (scope_on way) (scope_on way)) items)))
        ≡ map (with_height (height (EndOf (k ∷ next ∷ []) ∷ (olders way next ChoiceNode (suc k) es ++ rest))))
        (map (renamed_item (scope_on (below k)) (scope_on (below k)))
        (map (renamed_item node (λ n. node (suc n)))
        (map (resolve_item o) (goals_at (suc (length up)) gs ++ (removal_items number ++ by_heights (v ∷ up) items)))))
    solved_items h k es o gs number f e =
        let goals = goals_heights h tall height_mark own (suc (length up)) (e ∙ sym top_height) gs
        (removal_items number ++ map (renamed_item (scope_on way) (scope_on way)) items) (removal_items number ++ by_heights (v ∷ up) items)
        (removal_same h tall height_mark number (map (renamed_item (scope_on way) (scope_on way)) items) (by_heights (v ∷ up) items)
        (names_items h f way items (λ r z. z) scoped)) in
        heights-resolved h o (goals_at own gs ++ (removal_items number ++ map (renamed_item (scope_on way) (scope_on way)) items))
        ∙ (ap (map (resolve_item o)) goals
        ∙ (sym (resolved_names tall height_mark o (goals_at (suc (length up)) gs ++ (removal_items number ++ by_heights (v ∷ up) items)))
        ∙ sym (tree_items (height (EndOf (k ∷ next ∷ []) ∷ (olders way next ChoiceNode (suc k) es ++ rest))) k (over_olders k es)
        (map (resolve_item o) (goals_at (suc (length up)) gs ++ (removal_items number ++ by_heights (v ∷ up) items))))))

    from_solved : (j : ℕ) (ss : List Solution) (s : Name) → from (solution_elements j own named_rest ss ++ rest) s
        ≡ from (EndOf own ∷ rest) s
    from_solved j [] s = refl
    from_solved j (x ∷ ss) s = go (unifier x.equations) (from_solved (suc j) ss s)
      where
        go : (o : Option Substitution) → from (solution_elements (suc j) own named_rest ss ++ rest) s ≡ from (EndOf own ∷ rest) s
            → from ((unified_element o (j ∷ own) (with_next (f.next + x.variables) (before (goals_at own x.goals) (removing x.removes named_rest)))
            ++ solution_elements (suc j) own named_rest ss) ++ rest) s ≡ from (EndOf own ∷ rest) s
        go None k = k
        go (Some o) k = k

    -- all solutions
    pub solved_same : (j k h : ℕ) → h ≡ suc (length up) → (ss : List Solution) → erased (solution_elements j own named_rest ss ++ rest)
        ≡ erased (olders way next ChoiceNode k (map (with_nodes node) (solution_entries h height_rest ss)) ++ rest)
    solved_same j k h e [] = refl
    solved_same j k h e (x ∷ ss) = go (unifier x.equations) (λ n. solved_same (suc j) n h e ss) (λ n. from_solved (suc j) ss n)
      where
        go : (o : Option Substitution) → ((n : ℕ) → erased (solution_elements (suc j) own named_rest ss ++ rest)
            ≡ erased (olders way next ChoiceNode n (map (with_nodes node) (solution_entries h height_rest ss)) ++ rest))
            → ((n : Name) → from (solution_elements (suc j) own named_rest ss ++ rest) n ≡ from (EndOf own ∷ rest) n)
            → erased ((unified_element o (j ∷ own) (with_next (f.next + x.variables) (before (goals_at own x.goals) (removing x.removes named_rest)))
            ++ solution_elements (suc j) own named_rest ss) ++ rest)
            ≡ erased (olders way next ChoiceNode k
            (map (with_nodes node) (unified o (with_next (f.next + x.variables) (before (goals_at h x.goals) (removing x.removes height_rest)))
            ++ solution_entries h height_rest ss)) ++ rest)
        go None more far = more k
        go (Some o) more far =
            let es = map (with_nodes node) (solution_entries h height_rest ss) in
            let hs = height (solution_elements (suc j) own named_rest ss ++ rest) in
            let same = solved_items hs k es o x.goals x.removes (λ r. ap element_count (far (scope_on way r)) ∙ over_own r)
            (ap element_count (far own) ∙ own_count) in
            ap (λ l. HeightEntry (PlainEntry (record { items = l; named = map (resolve_named o) f.named; next = f.next + x.variables }))
            ∷ erased (solution_elements (suc j) own named_rest ss ++ rest)) same
            ∙ (ap (λ n. HeightEntry (PlainEntry
            (record {
              items = map (with_height (height (EndOf (k ∷ next ∷ []) ∷ (olders way next ChoiceNode (suc k) es ++ rest))))
                  (map (renamed_item (scope_on (below k)) (scope_on (below k)))
                  (map (renamed_item node (λ n. node (suc n))) (map (resolve_item o) (goals_at n x.goals ++ (removal_items x.removes ++ by_heights (v ∷ up) items)))));
              named = map (resolve_named o) f.named;
              next = f.next + x.variables;
            })) ∷ erased
            (solution_elements (suc j) own named_rest ss ++ rest)) (sym e)
            ∙ ap (λ l. HeightEntry (PlainEntry
            (record {
              items = map (with_height (height (EndOf (k ∷ next ∷ []) ∷ (olders way next ChoiceNode (suc k) es ++ rest))))
                  (map (renamed_item (scope_on (below k)) (scope_on (below k)))
                  (map (renamed_item node (λ n. node (suc n))) (map (resolve_item o) (goals_at h x.goals ++ (removal_items x.removes ++ by_heights (v ∷ up) items)))));
              named = map (resolve_named o) f.named;
              next = f.next + x.variables;
            })) ∷ l) (more (suc k)))
