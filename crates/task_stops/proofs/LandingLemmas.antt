-- Where a ball lands on a branch.
use Rattle.std.proofs.Common.{◌≡◌, ◌⊎◌, inl, inr, ℕ, suc, ◌+◌, ◌-◌, ◌≤◌, ◌==◌, ◌&&◌, Bool, true, false, cond, List, [], ◌∷◌, ◌++◌, map, length, slice_get, Option, Some, None, refl, sym, ap, ap₂, ◌∙◌, subst, arith}
use Rattle.std.proofs.lemmas.Bool.{eqb-true}
use Rattle.std.proofs.lemmas.Bool.Decides.{nat_tests}
use Rattle.std.specs.Option.{option_map}
use Rattle.au_term.specs.Term.{Term}
use Rattle.au_term.proofs.LogicLemmas.{both, not_equal, number_same}
use Rattle.au_model.specs.Terms.Copies.{copied, copy_takes}
use Rattle.au_model.specs.Terms.Substitutions.{Substitution, resolve}
use Rattle.au_model.specs.Terms.Unifier.{unifier}
use Rattle.clause_compile.specs.declared.item.Item.{Item as BranchItem}
use Rattle.clause_compile.specs.declared.item.Item.TheVariants.{Goal, CatchEnd, Collect, Remove, End}
use Rattle.run_model.specs.Programs.Bodies.{call_of}
use Rattle.run_model.specs.Programs.Jobs.{Job}
use Rattle.run_model.specs.Machine.Balls.{is_height, recovered, unwound}
use Rattle.run_model.specs.Machine.Entries.{Entry, PlainEntry, CatchEntry, FindallEntry, EndEntry}
use Rattle.run_model.specs.Machine.Items.{Item, GoalItem, CatchMark, CollectMark, RemovalItem, Continuation, before, first_mark, resolve_item, with_next}
use Rattle.tree_model.specs.Floors.{floor_of, height_of, node_of, renamed_item, right_entry, with_heights}
use Rattle.tree_model.specs.Levels.{Level, Place, level_node, plug, place_at}
use Rattle.tree_model.specs.Nodes.{Ready, TakenBy, Waiting, Dormant, Alternatives, none, alternative, Status, Pending, Inner, Closed}
use Rattle.tree_model.specs.PendingLists.{Way, way_of}
use Rattle.tree_model.specs.NumberedTrees.{IsNumberedStatus}
use Rattle.tree_model.specs.SoundTrees.{IsSound}
use Rattle.tree_model.specs.Ways.{is_on, AreScoped, way_from, way_above, IsOnWay}
use Rattle.run_model.specs.Machine.Items.{resolve_continuation}
use Rattle.tree_nodes.specs.Bodies.{Body, BodyKind, ChoiceBody, ConditionBody, CatchBody, FindallBody, QueryBody, Branching}
use Rattle.tree_nodes.specs.Rows.{Rows, StoredNode, AlternativeCell, alternatives_at, cell_at, InnerCell}
use Rattle.tree_nodes.specs.TreeTables.{NodesView, IsTableOf, IsWayTo, AreIn, cell_of, cells_of, stored_body}
use Rattle.tree_nodes.proofs.PlaceLemmas.{left_cells, IsPlaced, IsRound, taken_out}
use Rattle.tree_nodes.proofs.AddLemmas.{way_to}
use Rattle.tree_closing.specs.Sleeping.{right_of, is_asleep_at, IsSleeping}
use Rattle.tree_closing.proofs.ChangeLemmas.{hang_together}
use Rattle.tree_closing.proofs.SleeperLemmas.{IsSleeper, one_beside, one_sleeps, sleeping_of}
use Rattle.branch_shapes.specs.FloorItems.{NamesLevels}
use Rattle.branch_shapes.proofs.FloorItemLemmas.{scoped_items_name_levels}
use Rattle.branch_shapes.proofs.OutLemmas.{names_back}
use Rattle.au_model.specs.Terms.Each.{Each}
use Rattle.branch_reading.specs.NumberedReadings.{IsEndOn, IsSettledReading, NumberedTreesAreSettled}
use Rattle.branch_reading.specs.Readings.{entry_if, entry_meant, entry_on, guard_meant, items_meant, reading}
use Rattle.branch_reading.specs.SettledWays.{branch_items, is_way_settled, items_on}
use Rattle.task_region.proofs.BranchLoadLemmas.{reads_settled}
use Rattle.interleaving.proofs.ContextLemmas.{taken_out as sound_out}
use Rattle.interleaving.proofs.EntryLemmas.{length-floor, own_height}
use Rattle.interleaving.proofs.WayLemmas.{cond-false, through-on}
use Rattle.task_region.specs.PlacesUp.{missing_body, body_at, branching_at, items_at_place}
use Rattle.task_stops.specs.BranchLandings.{height_of_mark, IsMarkOver, by_heights_over, continuation_bound, recovered_by, LeavesAt}
use Rattle.task_stops.specs.Landings.{innermost_catch, at_node, bound_on, here_or, is_beside_sleeper, landing, taken_on, way_beside}

-- a mark that is not below this many entries
abbrev IsHigh : Option ℕ → ℕ → Type 0
IsHigh None n = Unit {0}
IsHigh (Some m) n = n ≤ m

high_below : (mark : Option ℕ) (n : ℕ) → IsHigh mark (suc n) → IsHigh mark n
high_below None n h = tt
high_below (Some m) n h = omega (arith, h)

not_above : (m n : ℕ) → suc n ≤ m → (m == n) ≡ false
not_above m n h = grind (arith, nat_tests, h)

not_this : (mark : Option ℕ) (n : ℕ) → IsHigh mark (suc n) → is_height mark n ≡ false
not_this None n h = refl
not_this (Some m) n h = not_above m n h

-- no entry takes a ball whose mark is not below them
pub none_takes : (ball : Term) (mark : Option ℕ) (es : List Entry) → IsHigh mark (length es) → unwound ball mark es ≡ EndEntry (Some (copied ball 0)) ∷ []
none_takes ball mark [] h = refl
none_takes ball mark (PlainEntry f ∷ es) h = none_takes ball mark es (high_below mark (length es) h)
none_takes ball mark (FindallEntry results l f ∷ es) h = none_takes ball mark es (high_below mark (length es) h)
none_takes ball mark (EndEntry b ∷ es) h = none_takes ball mark es (high_below mark (length es) h)
none_takes ball mark (CatchEntry c r f ∷ es) h =
    ap (λ b. recovered (cond b (unifier ((c, copied ball f.next) ∷ [])) None) ball r f es (unwound ball (cond b (first_mark f.items) mark) es))
    (not_this mark (length es) h)
    ∙ none_takes ball mark es (high_below mark (length es) h)

-- an entry whose mark it is not is passed
pub passes : (ball : Term) (mark : Option ℕ) (e : Entry) (es : List Entry) → is_height mark (length es) ≡ false → unwound ball mark (e ∷ es) ≡ unwound ball mark es
passes ball mark (PlainEntry f) es h = refl
passes ball mark (FindallEntry results l f) es h = refl
passes ball mark (EndEntry b) es h = refl
passes ball mark (CatchEntry c r f) es h =
    ap (λ b. recovered (cond b (unifier ((c, copied ball f.next) ∷ [])) None) ball r f es (unwound ball (cond b (first_mark f.items) mark) es)) h

-- what is no catch takes none, whatever the mark
abbrev IsNoCatch : Entry → Type 0
IsNoCatch (PlainEntry f) = Unit {0}
IsNoCatch (CatchEntry c r f) = ⊥
IsNoCatch (FindallEntry results l f) = Unit {0}
IsNoCatch (EndEntry b) = Unit {0}

-- heights of marks
mark_by_heights : (up : List Level) (items : List (Item ℕ))
    → first_mark (map (renamed_item (height_of up) (λ s. height_of up s - 1)) items) ≡ height_of_mark up (first_mark items)
mark_by_heights up [] = refl
mark_by_heights up (CatchMark s ∷ items) = refl
mark_by_heights up (GoalItem t s ∷ items) = mark_by_heights up items
mark_by_heights up (CollectMark t s ∷ items) = mark_by_heights up items
mark_by_heights up (RemovalItem n ∷ items) = mark_by_heights up items

-- bindings leave the first mark
mark_meant : (s : Substitution) (items : List BranchItem) → first_mark (map (resolve_item s) (items_meant items)) ≡ innermost_catch items
mark_meant s [] = refl
mark_meant s (Goal term cut ∷ items) = mark_meant s items
mark_meant s (CatchEnd scope ∷ items) = refl
mark_meant s (Collect template scope ∷ items) = mark_meant s items
mark_meant s (Remove id ∷ items) = mark_meant s items
mark_meant s (End ball ∷ items) = mark_meant s items

-- the first mark of scoped items names a node of the way
on_from : (way : Way) (s r : ℕ) → is_on (way_from way s) r ≡ true → is_on way r ≡ true
on_from [] s r h = h
on_from (a ∷ way) s r h = go (a.node == s) (on_from way s r) h
  where
    go : (b : Bool) → (is_on (way_from way s) r ≡ true → is_on way r ≡ true) → is_on (cond b (a ∷ way) (way_from way s)) r ≡ true → is_on (a ∷ way) r ≡ true
    go true f k = k
    go false f k = by_node (a.node == r) (f k)
      where
        by_node : (c : Bool) → is_on way r ≡ true → cond c true (is_on way r) ≡ true
        by_node true l = refl
        by_node false l = l

on_above : (way : Way) (s r : ℕ) → is_on (way_above way s) r ≡ true → is_on way r ≡ true
on_above [] s r h = h
on_above (a ∷ way) s r h = go (a.node == s) (on_above way s r) h
  where
    by_node : (c : Bool) → is_on way r ≡ true → cond c true (is_on way r) ≡ true
    by_node true l = refl
    by_node false l = l

    go : (b : Bool) → (is_on (way_above way s) r ≡ true → is_on way r ≡ true) → is_on (cond b way (way_above way s)) r ≡ true → is_on (a ∷ way) r ≡ true
    go true f k = by_node (a.node == r) k
    go false f k = by_node (a.node == r) (f k)

abbrev IsFirstOn : Way → Option ℕ → Type 0
IsFirstOn way None = Unit {0}
IsFirstOn way (Some s) = is_on way s ≡ true

first_from : (way : Way) (s : ℕ) (o : Option ℕ) → IsFirstOn (way_from way s) o → IsFirstOn way o
first_from way s None h = tt
first_from way s (Some r) h = on_from way s r h

first_above : (way : Way) (s : ℕ) (o : Option ℕ) → IsFirstOn (way_above way s) o → IsFirstOn way o
first_above way s None h = tt
first_above way s (Some r) h = on_above way s r h

first_on : (way : Way) (items : List (Item ℕ)) → AreScoped way items → IsFirstOn way (first_mark items)
first_on way [] h = tt
first_on way (CatchMark s ∷ items) h = through-on _ way s h.0
first_on way (GoalItem t s ∷ items) h = first_from way s (first_mark items) (first_on (way_from way s) items h.1)
first_on way (CollectMark t s ∷ items) h = first_above way s (first_mark items) (first_on (way_above way s) items h.1)
first_on way (RemovalItem n ∷ items) h = first_on way items h

mark_of_levels : (levels : List Level) (o : Option ℕ) → IsFirstOn (way_of levels) o → IsMarkOver levels o
mark_of_levels levels None h = tt
mark_of_levels levels (Some s) h = h

-- what a branch reads as that is not a second one takes no ball
plain_read : (job : Job) (b : Body) (i : ℕ) (above : Branching) → (i == 1) ≡ false → IsNoCatch (reading job ((b, i) ∷ above))
plain_read job b i above h = by_items (items_on ((b, i) ∷ above)) (is_way_settled ((b, i) ∷ above)) (entry_on job ((b, i) ∷ above)) plain
  where
    plain : IsNoCatch (entry_on job ((b, i) ∷ above))
    plain = subst IsNoCatch (sym (ap (λ t. cond t (guard_meant b.kind (bound_on ((b, i) ∷ above)) (continuation_bound job ((b, i) ∷ above))) (PlainEntry (continuation_bound job ((b, i) ∷ above)))) h)) tt

    by_settled : (t : Bool) (e : Entry) → IsNoCatch e → IsNoCatch (entry_if t e)
    by_settled true e k = k
    by_settled false e k = tt

    by_items : (items : List BranchItem) (t : Bool) (e : Entry) → IsNoCatch e → IsNoCatch (entry_meant items (entry_if t e))
    by_items [] t e k = by_settled t e k
    by_items (End ball ∷ []) t e k = tt
    by_items (End ball ∷ x ∷ items) t e k = by_settled t e k
    by_items (Goal term cut ∷ items) t e k = by_settled t e k
    by_items (CatchEnd scope ∷ items) t e k = by_settled t e k
    by_items (Collect template scope ∷ items) t e k = by_settled t e k
    by_items (Remove id ∷ items) t e k = by_settled t e k

-- what is no catch is passed
no_catch_passes : (ball : Term) (mark : Option ℕ) (up : List Level) (e : Entry) (es : List Entry) → IsNoCatch e
    → unwound ball mark (with_heights up e ∷ es) ≡ unwound ball mark es
no_catch_passes ball mark up (PlainEntry f) es h = refl
no_catch_passes ball mark up (CatchEntry c r f) es h = absurd h
no_catch_passes ball mark up (FindallEntry results l f) es h = refl
no_catch_passes ball mark up (EndEntry b) es h = refl

-- a catch whose mark it is
at_catch : (ball c r : Term) (f : Continuation ℕ) (up : List Level) (m : ℕ) → m ≡ length up → unwound ball (Some m) (with_heights up (CatchEntry c r f) ∷ floor_of up)
    ≡ recovered (unifier ((c, copied ball f.next) ∷ [])) ball r (by_heights_over up f) (floor_of up) (unwound ball (first_mark (by_heights_over up f).items) (floor_of up))
at_catch ball c r f up m e =
    let g = by_heights_over up f in
    let own : (m == length (floor_of up)) ≡ true = ap₂ (λ i j. i == j) e (length-floor up) ∙ number_same (length up) in
    ap (λ t. recovered (cond t (unifier ((c, copied ball g.next) ∷ [])) None) ball r g (floor_of up) (unwound ball (cond t (first_mark g.items) (Some m)) (floor_of up))) own

-- the branches at places
branching_is : (rows : Rows) (levels : List Level) (way : Branching) → IsWayTo rows levels way → branching_at rows (map place_at levels) ≡ way
branching_is rows [] way on = sym on
branching_is rows (v ∷ up) way on =
    ap₂ (λ (x : Body) (xs : Branching). (x, length v.left) ∷ xs) (ap (stored_body missing_body) on.1.1.0) (branching_is rows up on.1.0 on.1.1.2)
    ∙ sym on.1.1.1

-- what the levels above take stands as deep over one more
pub lifted : (job : Job) (rows : Rows) (ball : Term) (v : Level) (up : List Level) (places : List Place) (stack : List Entry)
    → LeavesAt job rows ball up places stack → LeavesAt job rows ball (v ∷ up) places stack
lifted job rows ball v up [] stack h = h
lifted job rows ball v up (p ∷ above) stack h =
    let low = h.below in
    let not_own : (suc (length h.up) == suc (length up)) ≡ false = not_equal (suc (length h.up)) (suc (length up)) (omega (arith, low)) in
    record {
      level = h.level;
      up = h.up;
      at = h.at;
      above_are = h.above_are;
      below = omega (arith, low);
      scope = cond-false (suc (length h.up) == suc (length up)) v.number (node_of up (suc (length h.up))) not_own ∙ h.scope;
      row = h.row;
      row_is = h.row_is;
      parent = h.parent;
      on = h.on;
      hang = h.hang;
      names = h.names;
      nodes_up = λ n k.
          cond-false (n == suc (length up)) v.number (node_of up n) (not_equal n (suc (length up)) (omega (arith, low, k))) ∙ h.nodes_up n k;
      catcher = h.catcher;
      recovery = h.recovery;
      kind = h.kind;
      settled = h.settled;
      unifier = h.unifier;
      takes = h.takes;
      leaves = h.leaves;
    }

-- what sleeps beside a level's first alternative is the alternative to its right
module _ (settled : NumberedTreesAreSettled) (job : Job) (nodes : NodesView) (ball : Term) (v : Level) (up : List Level) (status : Status)
    (table : IsTableOf nodes (reading job) (plug (v ∷ up) status)) (sound : IsSound [] (plug (v ∷ up) status)) (numbered : IsNumberedStatus (plug (v ∷ up) status)) where
  abbrev p : Place
  p = place_at v

  placed : IsPlaced nodes.rows (reading job) (v ∷ up) status
  placed = taken_out nodes.rows (reading job) (v ∷ up) status table.placed

  abbrev body : Body
  body = placed.around.0

  abbrev above : Branching
  above = placed.around.1.0

  round : IsRound nodes.rows (reading job) up above body v (cell_of status)
  round = placed.around.1.1.1

  up_on : IsWayTo nodes.rows up above
  up_on = way_to nodes.rows (reading job) up above (InnerCell v.number) placed.around.1.1.2

  body_is : body_at nodes.rows p ≡ body
  body_is = ap (stored_body missing_body) round.row

  way_is : way_beside nodes.rows p (map place_at up) ≡ (body, 1) ∷ above
  way_is = ap₂ (λ (x : Body) (xs : Branching). (x, 1) ∷ xs) body_is (branching_is nodes.rows up above up_on)

  -- where nothing sleeps there, it is no catch
  right_plain : (left : List (ℕ × Status)) → v.left ≡ left → (right : Alternatives) → v.right ≡ right → is_beside_sleeper nodes.rows p ≡ false → IsNoCatch (right_entry right)
  right_plain left l none r h = tt
  right_plain left l (alternative spent (Inner node) others) r h = tt
  right_plain left l (alternative spent (Closed credit) others) r h = tt
  right_plain left l (alternative spent (Pending Ready e) others) r h = tt
  right_plain left l (alternative spent (Pending (TakenBy w) e) others) r h = tt
  right_plain left l (alternative spent (Pending (Waiting g) e) others) r h = tt
  right_plain [] l (alternative spent (Pending Dormant e) others) r h = absurd (told_apart asleep h)
    where
      told_apart : is_beside_sleeper nodes.rows p ≡ true → is_beside_sleeper nodes.rows p ≡ false → ⊥
      told_apart a c = let wrong : true ≡ false = sym a ∙ c in cc

      cell : cell_at nodes.rows (right_of p) ≡ slice_get (cells_of v.right) 0
      cell =
          ap (λ (o : Option StoredNode). slice_get (alternatives_at o) 1) round.row
          ∙ ap (λ (xs : List (ℕ × Status)). slice_get (left_cells xs ++ (v.spent, cell_of status) ∷ cells_of v.right) 1) l

      asleep : is_beside_sleeper nodes.rows p ≡ true
      asleep =
          ap₂ (λ (n : ℕ) (o : Option (ℕ × AlternativeCell)). (n == 0) && is_asleep_at o) (ap length l)
          (cell ∙ ap (λ (x : Alternatives). slice_get (cells_of x) 0) r)
  right_plain (x ∷ left) l (alternative spent (Pending Dormant e) others) r h =
      subst IsNoCatch (sym read) (plain_read job body (suc (length v.left)) above (ap (λ n. suc n == 1) (ap length l) ∙ not_above (suc (suc (length left))) 1 (omega arith)))
    where
      there : AreIn nodes.rows (reading job) above body v.number (suc (length v.left)) (alternative spent (Pending Dormant e) others)
      there = subst (AreIn nodes.rows (reading job) above body v.number (suc (length v.left))) r round.right

      read : e ≡ reading job ((body, suc (length v.left)) ∷ above)
      read = there.0

  module _ (asleep : is_beside_sleeper nodes.rows p ≡ true) where
    parts : ((p.index == 0) ≡ true) × (is_asleep_at (cell_at nodes.rows (right_of p)) ≡ true)
    parts = both (p.index == 0) (is_asleep_at (cell_at nodes.rows (right_of p))) asleep

    first : p.index ≡ 0
    first = eqb-true p.index 0 parts.0

    sleeper : IsSleeper v
    sleeper = one_beside nodes p (reading job) v up status refl table first parts.1 sound

    abbrev e : Entry
    e = sleeper.entry

    right_is : v.right ≡ alternative sleeper.asleep.spent (Pending Dormant e) none
    right_is = sleeper.asleep.right

    floor_is : floor_of (v ∷ up) ≡ with_heights up e ∷ floor_of up
    floor_is = ap (λ (x : Alternatives). with_heights up (right_entry x) ∷ floor_of up) right_is

    by_kind : IsSleeping (sleeping_of body.kind) (Some e)
    by_kind =
        subst (IsSleeping (sleeping_of body.kind)) sleeper.is
        (one_sleeps nodes p body first parts.1 (ap (option_map (λ (r : StoredNode). r.body)) round.row) (reading job) v up status refl table sound)

    -- it is the second alternative
    abbrev second : Level
    second = record { number = v.number; kind = v.kind; left = (v.spent, status) ∷ v.left; spent = sleeper.asleep.spent; right = none }

    plugged : plug (second ∷ up) (Pending Dormant e) ≡ plug (v ∷ up) status
    plugged = ap (λ (x : Alternatives). plug up (Inner (level_node (record v { right = x }) status))) (sym right_is)

    second_on : IsWayTo nodes.rows (second ∷ up) ((body, 1) ∷ above)
    second_on = (_, (above, (round.row, ap (λ n. (body, suc n) ∷ above) (sym first), up_on)))

    known : IsSettledReading job ((body, 1) ∷ above) e
    known = settled job nodes (plug (v ∷ up) status) table numbered second up Dormant e plugged ((body, 1) ∷ above) second_on

    named : IsOnWay (way_of (second ∷ up)) e
    named = (sound_out (second ∷ up) (Pending Dormant e) (subst (IsSound []) (sym plugged) sound)).1.0

    -- a catch that takes the ball, or does not
    module _ (catcher recovery : Term) (kind : body.kind ≡ CatchBody catcher recovery) where
      abbrev here : Branching
      here = (body, 1) ∷ above

      abbrev s : Substitution
      s = bound_on here

      abbrev f : Continuation ℕ
      f = continuation_bound job here

      reads_catch : (x y : Term) (g : Continuation ℕ) → e ≡ CatchEntry x y g → is_way_settled here ≡ true
      reads_catch x y g is = by_case known.settled
        where
          by_case : (is_way_settled here ≡ true) ⊎ IsEndOn here → is_way_settled here ≡ true
          by_case (inl h) = h
          by_case (inr end) =
              let wrong : CatchEntry x y g ≡ EndEntry end.0 = sym is ∙ known.reads ∙ ap (λ items. entry_meant items (entry_if (is_way_settled here) (entry_on job here))) end.1 in
              absurd (cc wrong)

      is_catch : (x : Term) × ((y : Term) × ((g : Continuation ℕ) × (Some e ≡ Some (CatchEntry x y g))))
      is_catch = subst (λ k. IsSleeping (sleeping_of k) (Some e)) kind by_kind

      way_settled : is_way_settled here ≡ true
      way_settled = reads_catch is_catch.0 is_catch.1.0 is_catch.1.1.0 (cc is_catch.1.1.1)

      here_readable : is_way_settled (way_beside nodes.rows p (map place_at up)) ≡ true
      here_readable = ap is_way_settled way_is ∙ way_settled

      e_is : e ≡ CatchEntry (resolve s catcher) (resolve s recovery) f
      e_is = known.reads ∙ (reads_settled job here way_settled ∙ ap (λ k. guard_meant k s f) kind)

      stack_is : (m : ℕ) → m ≡ length up → unwound ball (Some m) (floor_of (v ∷ up))
          ≡ recovered (taken_on here catcher ball) ball (resolve s recovery) (by_heights_over up f) (floor_of up) (unwound ball (first_mark (by_heights_over up f).items) (floor_of up))
      stack_is m own = ap (unwound ball (Some m)) (floor_is ∙ ap (λ x. with_heights up x ∷ floor_of up) e_is) ∙ at_catch ball (resolve s catcher) (resolve s recovery) f up m own

      mark_is : first_mark f.items ≡ innermost_catch (items_on here)
      mark_is = mark_meant s (items_on here)

      next_mark_is : first_mark (by_heights_over up f).items ≡ height_of_mark up (innermost_catch (items_on here))
      next_mark_is = mark_by_heights up f.items ∙ ap (height_of_mark up) mark_is

      scoped : AreScoped (way_of up) f.items
      scoped = (subst (IsOnWay (way_of (second ∷ up))) e_is named).scoped

      mark_on : IsMarkOver up (innermost_catch (items_on here))
      mark_on = mark_of_levels up (innermost_catch (items_on here)) (subst (IsFirstOn (way_of up)) mark_is (first_on (way_of up) f.items scoped))

      named_items : Each (NamesLevels up) (items_meant (items_on here))
      named_items = names_back up s (items_meant (items_on here)) (scoped_items_name_levels up f.items scoped)

      further_is : landing nodes.rows ball (innermost_catch (items_on here)) (map place_at up)
          ≡ landing nodes.rows ball (innermost_catch (items_at_place nodes.rows (right_of p))) (map place_at up)
      further_is = ap (λ (x : Body). landing nodes.rows ball (innermost_catch (branch_items (slice_get x.branches 1))) (map place_at up)) (sym body_is)

      lands_here : (o : Option Substitution) → taken_on here catcher ball ≡ o
          → LeavesAt job nodes.rows ball up (landing nodes.rows ball (innermost_catch (items_on here)) (map place_at up)) (unwound ball (height_of_mark up (innermost_catch (items_on here))) (floor_of up))
          → LeavesAt job nodes.rows ball (v ∷ up) (here_or o (p ∷ map place_at up) (landing nodes.rows ball (innermost_catch (items_on here)) (map place_at up)))
          (recovered o ball (resolve s recovery) (by_heights_over up f) (floor_of up) (unwound ball (first_mark (by_heights_over up f).items) (floor_of up)))
      lands_here None takes rest =
          lifted job nodes.rows ball v up _ _
          (subst (λ k. LeavesAt job nodes.rows ball up (landing nodes.rows ball (innermost_catch (items_on here)) (map place_at up)) (unwound ball k (floor_of up))) (sym next_mark_is) rest)
      lands_here (Some o) takes rest = record {
        level = v;
        up = up;
        at = refl;
        above_are = refl;
        below = omega arith;
        scope = own_height v up;
        nodes_up = λ n k. cond-false (n == suc (length up)) v.number (node_of up n) (not_equal n (suc (length up)) k);
        row = _;
        row_is = round.row;
        parent = refl;
        on = subst (IsWayTo nodes.rows up) (sym (branching_is nodes.rows up above up_on)) up_on;
        hang = hang_together nodes.rows (reading job) up above (InnerCell v.number) placed.around.1.1.2;
        names = subst (λ w. Each (NamesLevels up) (items_meant (items_on w))) (sym way_is) named_items;
        catcher = catcher;
        recovery = recovery;
        kind = ap (λ (x : Body). x.kind) body_is ∙ kind;
        settled = here_readable;
        unifier = o;
        takes = ap (λ w. taken_on w catcher ball) way_is ∙ takes;
        leaves =
            ap (λ n. PlainEntry (resolve_continuation o (with_next (f.next + copy_takes ball) (before (GoalItem (call_of (resolve s recovery)) n ∷ []) (by_heights_over up f)))) ∷ floor_of up)
            (length-floor up)
            ∙ ap (λ w. PlainEntry (recovered_by o ball (resolve (bound_on w) recovery) up (continuation_bound job w)) ∷ floor_of up) (sym way_is);
      }

      catch_lands : (m : ℕ) → m ≡ length up
          → LeavesAt job nodes.rows ball up (landing nodes.rows ball (innermost_catch (items_on here)) (map place_at up)) (unwound ball (height_of_mark up (innermost_catch (items_on here))) (floor_of up))
          → LeavesAt job nodes.rows ball (v ∷ up)
          (here_or (taken_on (way_beside nodes.rows p (map place_at up)) catcher ball) (p ∷ map place_at up)
          (landing nodes.rows ball (innermost_catch (items_at_place nodes.rows (right_of p))) (map place_at up)))
          (unwound ball (Some m) (floor_of (v ∷ up)))
      catch_lands m own rest =
          subst (LeavesAt job nodes.rows ball (v ∷ up) _) (sym (stack_is m own))
          (subst (λ places. LeavesAt job nodes.rows ball (v ∷ up) places
          (recovered (taken_on here catcher ball) ball (resolve s recovery) (by_heights_over up f) (floor_of up) (unwound ball (first_mark (by_heights_over up f).items) (floor_of up))))
          (ap₂ (λ (o : Option Substitution) (xs : List Place). here_or o (p ∷ map place_at up) xs) (ap (λ w. taken_on w catcher ball) (sym way_is)) further_is)
          (lands_here (taken_on here catcher ball) refl rest))

    pub readable_here : (catcher recovery : Term) → (body_at nodes.rows p).kind ≡ CatchBody catcher recovery → is_way_settled (way_beside nodes.rows p (map place_at up)) ≡ true
    readable_here catcher recovery kind = here_readable catcher recovery (ap (λ (x : Body). x.kind) (sym body_is) ∙ kind)

    -- what sleeps there is no catch
    others_pass : (m : ℕ) → length up ≤ m → IsNoCatch e → unwound ball (Some m) (floor_of (v ∷ up)) ≡ EndEntry (Some (copied ball 0)) ∷ []
    others_pass m high plain =
        ap (unwound ball (Some m)) floor_is
        ∙ (no_catch_passes ball (Some m) up e (floor_of up) plain ∙ none_takes ball (Some m) (floor_of up) (let n = length-floor up in omega (arith, high, n)))

    by_node_kind : (k : BodyKind) → body.kind ≡ k → (m : ℕ) → m ≡ length up
        → ((mark : Option ℕ) → IsMarkOver up mark → LeavesAt job nodes.rows ball up (landing nodes.rows ball mark (map place_at up)) (unwound ball (height_of_mark up mark) (floor_of up)))
        → LeavesAt job nodes.rows ball (v ∷ up)
        (at_node k (way_beside nodes.rows p (map place_at up)) ball (p ∷ map place_at up)
        (landing nodes.rows ball (innermost_catch (items_at_place nodes.rows (right_of p))) (map place_at up)))
        (unwound ball (Some m) (floor_of (v ∷ up)))
    by_node_kind (CatchBody catcher recovery) kind m own rest =
        catch_lands catcher recovery kind m own (rest (innermost_catch (items_on ((body, 1) ∷ above))) (mark_on catcher recovery kind))
    by_node_kind ChoiceBody kind m own rest = absurd (cc (subst (λ k. IsSleeping (sleeping_of k) (Some e)) kind by_kind))
    by_node_kind ConditionBody kind m own rest = absurd (cc (subst (λ k. IsSleeping (sleeping_of k) (Some e)) kind by_kind))
    by_node_kind (FindallBody results list) kind m own rest =
        let k = subst (λ k. IsSleeping (sleeping_of k) (Some e)) kind by_kind in
        let is : e ≡ FindallEntry k.0 k.1.0 k.1.1.0 = cc k.1.1.1 in
        others_pass m (omega (arith, own)) (subst IsNoCatch (sym is) tt)
    by_node_kind QueryBody kind m own rest =
        let k = subst (λ k. IsSleeping (sleeping_of k) (Some e)) kind by_kind in
        let is : e ≡ EndEntry k.0 = cc k.1 in
        others_pass m (omega (arith, own)) (subst IsNoCatch (sym is) tt)

    pub sleeper_lands : (m : ℕ) → m ≡ length up
        → ((mark : Option ℕ) → IsMarkOver up mark → LeavesAt job nodes.rows ball up (landing nodes.rows ball mark (map place_at up)) (unwound ball (height_of_mark up mark) (floor_of up)))
        → LeavesAt job nodes.rows ball (v ∷ up)
        (at_node (body_at nodes.rows p).kind (way_beside nodes.rows p (map place_at up)) ball (p ∷ map place_at up)
        (landing nodes.rows ball (innermost_catch (items_at_place nodes.rows (right_of p))) (map place_at up)))
        (unwound ball (Some m) (floor_of (v ∷ up)))
    sleeper_lands m own rest = by_node_kind (body_at nodes.rows p).kind (ap (λ (x : Body). x.kind) (sym body_is)) m own rest

  -- nothing sleeps there
  pub nothing_lands : (m : ℕ) → length up ≤ m → is_beside_sleeper nodes.rows p ≡ false → unwound ball (Some m) (floor_of (v ∷ up)) ≡ EndEntry (Some (copied ball 0)) ∷ []
  nothing_lands m high awake =
      no_catch_passes ball (Some m) up (right_entry v.right) (floor_of up) (right_plain v.left refl v.right refl awake)
      ∙ none_takes ball (Some m) (floor_of up) (let n = length-floor up in omega (arith, high, n))
