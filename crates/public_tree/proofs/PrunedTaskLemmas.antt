-- The walk that gathers the tasks that a cut or a ball takes away.
use Rattle.std.proofs.Common.{◌≡◌, ◌≢◌, ℕ, zero, suc, ◌+◌, ◌-◌, ◌<◌, ◌≤◌, ◌==◌, Bool, true, false, cond, List, [], ◌∷◌, ◌++◌, length, Option, Some, None}
use Rattle.std.proofs.Common.{refl, sym, ap, ◌∙◌, arith, subst, append_assoc, length-append}
use Rattle.std.proofs.lemmas.List.{append-nil}
use Rattle.std.specs.Option.{option_map}
use Rattle.std.specs.Prelude.{IsSome, is_some}
use Rattle.tree_model.specs.Nodes.{Numbered, Alternatives, none, alternative, Status, Pending, Inner, Closed, nodes_among, nodes_below}
use Rattle.tree_model.specs.Levels.{Level, put_left, plug, Place, place_at}
use Rattle.tree_model.specs.Pruning.{Task, tasks_among, tasks_below, tasks_pruned}
use Rattle.tree_nodes.specs.Bodies.{Body, Reading}
use Rattle.tree_nodes.specs.Rows.{AlternativeCell, StoredNode, Rows, row_of_node, node_parent, alternatives_at, cell_at}
use Rattle.tree_nodes.specs.RowViews.{inner_of}
use Rattle.tree_nodes.specs.Puts.{inner_at}
use Rattle.tree_nodes.specs.Folds.{IsAbove}
use Rattle.tree_nodes.specs.Fronts.{place_on}
use Rattle.tree_nodes.specs.TreeTables.{node_number, cell_of, cells_of, IsIn, NodesView, IsTableOf, Stand, above_of}
use Rattle.tree_nodes.proofs.LocateLemmas.{IsAt, located}
use Rattle.tree_nodes.proofs.PlaceLemmas.{left_cells, length-left_cells, cells_of-put, nodes_around, nodes_plug, taken_out}
use Rattle.tree_nodes.proofs.PutLemmas.{is_some_cell}
use Rattle.tree_nodes.proofs.WalkLemmas.{cell_here, one_level_up, no_level_up}
use Rattle.branch_order.specs.Sought.{nodes_right}
use Rattle.prune_ops.specs.Prunes.{if_within}
use Rattle.public_tree.specs.PrunedTasks.{FindsTasks, cell_tasks, tasks_here, tasks_from, IsGathering, HasPassed, GathersTo, GathersOn, TurnsTo, going_up}

-- the node at which a walk is
module _ (nodes : NodesView) (n i depth scope most : ℕ) (found all : List Task) (read : Reading) (root : Status) (s : IsTableOf nodes read root)
    (h : IsGathering root n i depth scope most found all) where
  row_at : (body : Body) × (row_of_node nodes.rows n ≡ Some (record { parent = above_of h.up; body = body; cells = cells_of (put_left h.left h.right) }))
  row_at =
      let k = taken_out nodes.rows read h.up (Inner (Numbered n h.kind (put_left h.left h.right))) (subst (IsIn nodes.rows read [] None) h.same s.placed) in
      (k.inside.0, k.inside.1.0)

  many_at : length (alternatives_at (row_of_node nodes.rows n)) ≡ i + length (cells_of h.right)
  many_at =
      let cells : alternatives_at (row_of_node nodes.rows n) ≡ left_cells h.left ++ cells_of h.right = ap alternatives_at row_at.1 ∙ cells_of-put h.left h.right in
      let whole : length (alternatives_at (row_of_node nodes.rows n)) ≡ length (left_cells h.left ++ cells_of h.right) = ap length cells in
      let sizes : length (left_cells h.left ++ cells_of h.right) ≡ length (left_cells h.left) + length (cells_of h.right)
      = length-append (left_cells h.left) (cells_of h.right) in
      let left : length (left_cells h.left) ≡ length h.left = length-left_cells h.left in
      let index : length h.left ≡ i = h.index in
      omega (arith, whole, sizes, left, index)

-- the alternative at which it is
record IsGatheringAt (root : Status) (n i depth scope most : ℕ) (found all : List Task) : Type 0 where
  level : Level
  up : List Level
  status : Status
  same : root ≡ plug (level ∷ up) status
  at : place_at level ≡ place_on n i
  tasks : all ≡ found ++ ((tasks_below n i status ++ tasks_among n (suc i) level.right) ++ tasks_from depth scope up)
  nodes : (nodes_below status + nodes_among level.right) + nodes_right up ≤ most

gathering_at : (nodes : NodesView) (n i depth scope most : ℕ) (found all : List Task) (read : Reading) (root : Status) → IsTableOf nodes read root
    → IsGathering root n i depth scope most found all → i < length (alternatives_at (row_of_node nodes.rows n))
    → IsGatheringAt root n i depth scope most found all
gathering_at nodes n i depth scope most found all read root s h l = by_right h.right refl
  where
    by_right : (r : Alternatives) → h.right ≡ r → IsGatheringAt root n i depth scope most found all
    by_right none e =
        let many = many_at nodes n i depth scope most found all read root s h in
        let empty : length (cells_of h.right) ≡ 0 = ap (λ (x : Alternatives). length (cells_of x)) e in
        absurd (omega (arith, l, many, empty))
    by_right (alternative spent status others) e = record {
      level = record { number = n; kind = h.kind; left = h.left; spent = spent; right = others };
      up = h.up;
      status = status;
      same = h.same ∙ ap (λ (x : Alternatives). plug h.up (Inner (Numbered n h.kind (put_left h.left x)))) e;
      at = ap (place_on n) h.index;
      tasks = h.tasks ∙ ap (λ (x : Alternatives). found ++ (tasks_among n i x ++ tasks_from depth scope h.up)) e;
      nodes = subst (λ (x : Alternatives). nodes_among x + nodes_right h.up ≤ most) e h.nodes;
    }

-- an alternative without a node below it is passed
pub goes_right : (nodes : NodesView) (n i : ℕ) (old new : List Task) → i < length (alternatives_at (row_of_node nodes.rows n))
    → inner_at (cell_at nodes.rows (place_on n i)) ≡ None → new ≡ old ++ tasks_here (place_on n i) (cell_at nodes.rows (place_on n i))
    → GathersOn nodes n i (i + 1) old new
goes_right nodes n i old new l below e read root depth scope most all s h =
    let k = gathering_at nodes n i depth scope most old all read root s h l in
    let cell : cell_at nodes.rows (place_on n i) ≡ Some (k.level.spent, cell_of k.status)
    = ap (cell_at nodes.rows) (sym k.at) ∙ cell_here nodes read k.level k.up k.status (subst (IsTableOf nodes read) k.same s) in
    by_status k k.status refl (sym (ap inner_at cell) ∙ below) (e ∙ ap (λ (o : Option (ℕ × AlternativeCell)). old ++ tasks_here (place_on n i) o) cell)
  where
    pass : (k : IsGatheringAt root n i depth scope most old all) (t : Status) → k.status ≡ t → nodes_below t ≡ 0 → new ≡ old ++ tasks_below n i t
        → IsGathering root n (i + 1) depth scope most new all
    pass k t same zero_nodes more =
        let one : suc i ≡ i + 1 = omega arith in
        let number : k.level.number ≡ n = ap (λ (a : Place). a.node) k.at in
        let index : length k.level.left ≡ i = ap (λ (a : Place). a.index) k.at in
        let less : (nodes_below t + nodes_among k.level.right) + nodes_right k.up ≤ most
        = subst (λ (x : Status). (nodes_below x + nodes_among k.level.right) + nodes_right k.up ≤ most) same k.nodes in
        let rest = tasks_from depth scope k.up in
        subst (λ (j : ℕ). IsGathering root n j depth scope most new all) one (record {
          up = k.up;
          kind = k.level.kind;
          left = (k.level.spent, t) ∷ k.level.left;
          right = k.level.right;
          same = k.same
              ∙ (ap (plug (k.level ∷ k.up)) same
              ∙ ap (λ (m : ℕ). plug k.up (Inner (Numbered m k.level.kind (put_left ((k.level.spent, t) ∷ k.level.left) k.level.right)))) number);
          index = ap suc index;
          tasks = k.tasks
              ∙ (ap (λ (x : Status). old ++ ((tasks_below n i x ++ tasks_among n (suc i) k.level.right) ++ rest)) same
              ∙ (ap (λ (x : List Task). old ++ x) (append_assoc (tasks_below n i t) (tasks_among n (suc i) k.level.right) rest)
              ∙ (sym (append_assoc old (tasks_below n i t) (tasks_among n (suc i) k.level.right ++ rest))
              ∙ ap (λ (x : List Task). x ++ (tasks_among n (suc i) k.level.right ++ rest)) (sym more))));
          nodes = omega (arith, less, zero_nodes);
        })

    by_status : (k : IsGatheringAt root n i depth scope most old all) (t : Status) → k.status ≡ t → inner_of (cell_of k.status) ≡ None
        → new ≡ old ++ cell_tasks (place_on n i) (cell_of k.status) → IsGathering root n (i + 1) depth scope most new all
    by_status k (Pending hold entry) same none_below more =
        pass k (Pending hold entry) same refl (more ∙ ap (λ (x : Status). old ++ cell_tasks (place_on n i) (cell_of x)) same)
    by_status k (Closed credit) same none_below more =
        pass k (Closed credit) same refl (more ∙ ap (λ (x : Status). old ++ cell_tasks (place_on n i) (cell_of x)) same)
    by_status k (Inner node) same none_below more =
        absurd (let z : Some (node_number node) ≡ None = ap (λ (x : Status). inner_of (cell_of x)) (sym same) ∙ none_below in cc z)

pub on_and_on : (nodes : NodesView) (n i j k : ℕ) (a b c : List Task) → GathersOn nodes n i j a b → GathersOn nodes n j k b c → GathersOn nodes n i k a c
on_and_on nodes n i j k a b c h g read root depth scope most all s x = g read root depth scope most all s (h read root depth scope most all s x)

-- a node below is entered
pub goes_down : (nodes : NodesView) (n i j m : ℕ) (old new : List Task) → GathersOn nodes n i j old new → j < length (alternatives_at (row_of_node nodes.rows n))
    → inner_at (cell_at nodes.rows (place_on n j)) ≡ Some m → TurnsTo nodes n i old new (Some m)
goes_down nodes n i j m old new on l below read root depth scope most all s x =
    let k = gathering_at nodes n j depth scope most new all read root s (on read root depth scope most all s x) l in
    let cell : cell_at nodes.rows (place_on n j) ≡ Some (k.level.spent, cell_of k.status)
    = ap (cell_at nodes.rows) (sym k.at) ∙ cell_here nodes read k.level k.up k.status (subst (IsTableOf nodes read) k.same s) in
    by_status k k.status refl (sym (ap inner_at cell) ∙ below)
  where
    by_status : (k : IsGatheringAt root n j depth scope most new all) (t : Status) → k.status ≡ t → inner_of (cell_of k.status) ≡ Some m
        → (0 < most) × IsGathering root m 0 (suc depth) scope (most - 1) new all
    by_status k (Pending hold entry) same z =
        absurd (let y : None ≡ Some m = ap (λ (x : Status). inner_of (cell_of x)) (sym same) ∙ z in cc y)
    by_status k (Closed credit) same z = absurd (let y : None ≡ Some m = ap (λ (x : Status). inner_of (cell_of x)) (sym same) ∙ z in cc y)
    by_status k (Inner (Numbered c kind others)) same z =
        let here : c ≡ m = (let y : Some c ≡ Some m = ap (λ (x : Status). inner_of (cell_of x)) (sym same) ∙ z in cc y) in
        let number : k.level.number ≡ n = ap (λ (a : Place). a.node) k.at in
        let index : length k.level.left ≡ j = ap (λ (a : Place). a.index) k.at in
        let less : ((1 + nodes_among others) + nodes_among k.level.right) + nodes_right k.up ≤ most
        = subst (λ (x : Status). (nodes_below x + nodes_among k.level.right) + nodes_right k.up ≤ most) same k.nodes in
        let rest = tasks_from depth scope k.up in (
          omega (arith, less),
          subst (λ (x : ℕ). IsGathering root x 0 (suc depth) scope (most - 1) new all) here (record {
            up = k.level ∷ k.up;
            kind = kind;
            left = [];
            right = others;
            same = k.same ∙ ap (plug (k.level ∷ k.up)) same;
            index = refl;
            tasks = k.tasks
                ∙ (ap (λ (x : Status). new ++ ((tasks_below n j x ++ tasks_among n (suc j) k.level.right) ++ rest)) same
                ∙ (ap (λ (x : List Task). new ++ x) (append_assoc (tasks_among c 0 others) (tasks_among n (suc j) k.level.right) rest)
                ∙ (ap (λ (x : ℕ). new ++ (tasks_among c 0 others ++ (tasks_among x (suc j) k.level.right ++ rest))) (sym number)
                ∙ ap (λ (x : ℕ). new ++ (tasks_among c 0 others ++ (tasks_among k.level.number (suc x) k.level.right ++ rest))) (sym index))));
            nodes = omega (arith, less);
          }),
        )

-- all alternatives of a node are passed
pub passes : (nodes : NodesView) (n i j : ℕ) (old new : List Task) → GathersOn nodes n i j old new → length (alternatives_at (row_of_node nodes.rows n)) ≤ j
    → TurnsTo nodes n i old new None
passes nodes n i j old new on l read root depth scope most all s x =
    let h = on read root depth scope most all s x in
    by_right h (many_at nodes n j depth scope most new all read root s h) h.right refl
  where
    by_right : (h : IsGathering root n j depth scope most new all) → length (alternatives_at (row_of_node nodes.rows n)) ≡ j + length (cells_of h.right)
        → (r : Alternatives) → h.right ≡ r → HasPassed root n depth scope most new all
    by_right h many none e =
        let less : nodes_among h.right + nodes_right h.up ≤ most = h.nodes in
        record {
          up = h.up;
          kind = h.kind;
          left = h.left;
          same = h.same ∙ ap (λ (x : Alternatives). plug h.up (Inner (Numbered n h.kind (put_left h.left x)))) e;
          tasks = h.tasks ∙ ap (λ (x : Alternatives). new ++ (tasks_among n j x ++ tasks_from depth scope h.up)) e;
          nodes = omega (arith, less);
        }
    by_right h many (alternative spent status others) e =
        let more : length (cells_of h.right) ≡ suc (length (cells_of others)) = ap (λ (x : Alternatives). length (cells_of x)) e in
        absurd (omega (arith, many, more, l))

-- up from a node
at_scope : (scope : ℕ) (v : Level) (up : List Level) → (v.number == scope) ≡ true → tasks_pruned scope (v ∷ up) ≡ []
at_scope scope v up e = ap (λ (b : Bool). cond b [] (tasks_among v.number (suc (length v.left)) v.right ++ tasks_pruned scope up)) e

off_scope : (scope : ℕ) (v : Level) (up : List Level) → (v.number == scope) ≡ false
    → tasks_pruned scope (v ∷ up) ≡ tasks_among v.number (suc (length v.left)) v.right ++ tasks_pruned scope up
off_scope scope v up e = ap (λ (b : Bool). cond b [] (tasks_among v.number (suc (length v.left)) v.right ++ tasks_pruned scope up)) e

module _ (nodes : NodesView) (n depth scope most : ℕ) (found all : List Task) (read : Reading) (root : Status) (s : IsTableOf nodes read root)
    (h : HasPassed root n depth scope most found all) where
  above_is : (parent : Option Place) → node_parent nodes.rows n ≡ Some parent → above_of h.up ≡ parent
  above_is parent e =
      let k = taken_out nodes.rows read h.up (Inner (Numbered n h.kind (put_left h.left none))) (subst (IsIn nodes.rows read [] None) h.same s.placed) in
      let z : Some (above_of h.up) ≡ Some parent = sym (ap (λ (o : Option StoredNode). option_map (λ r. r.parent) o) k.inside.1.0) ∙ e in
      cc z

  left_of : Status
  left_of = Inner (Numbered n h.kind (put_left h.left none))

  abbrev fake : Level
  fake = record { number = n; kind = h.kind; left = []; spent = 0; right = none }

  -- what is left on the level above, and further up
  goes_on : (b : Place) → node_parent nodes.rows n ≡ Some (Some b) → (d : ℕ)
      → ((u : Level) (up : List Level) → place_at u ≡ b → tasks_from depth scope (u ∷ up) ≡ tasks_among u.number (suc (length u.left)) u.right ++ tasks_from d scope up)
      → IsGathering root b.node (suc b.index) d scope most found all
  unfolding left_of
  goes_on b e d from =
      let u = one_level_up fake h.up b (above_is (Some b) e) in
      let number : u.level.number ≡ b.node = ap (λ (a : Place). a.node) u.at in
      let index : length u.level.left ≡ b.index = ap (λ (a : Place). a.index) u.at in
      let less : nodes_right h.up ≤ most = h.nodes in
      let more : nodes_right h.up ≡ nodes_among u.level.right + nodes_right u.above = ap nodes_right u.is in
      subst (λ (m : ℕ). IsGathering root m (suc b.index) d scope most found all) number (record {
        up = u.above;
        kind = u.level.kind;
        left = (u.level.spent, left_of) ∷ u.level.left;
        right = u.level.right;
        same = h.same ∙ ap (λ (ls : List Level). plug ls left_of) u.is;
        index = ap suc index;
        tasks = h.tasks
            ∙ (ap (λ (ls : List Level). found ++ tasks_from depth scope ls) u.is
            ∙ (ap (λ (x : List Task). found ++ x) (from u.level u.above u.at)
            ∙ ap (λ (x : ℕ). found ++ (tasks_among u.level.number (suc x) u.level.right ++ tasks_from d scope u.above)) index));
        nodes = omega (arith, less, more);
      })

  -- nothing is left
  ends : (parent : Option Place) → node_parent nodes.rows n ≡ Some parent → (tasks_from depth scope h.up ≡ []) → all ≡ found
  ends parent e nothing = h.tasks ∙ (ap (λ (x : List Task). found ++ x) nothing ∙ append-nil found)

tasks_above_none : (depth scope : ℕ) → tasks_from depth scope [] ≡ []
tasks_above_none zero scope = refl
tasks_above_none (suc depth) scope = refl

module _ (nodes : NodesView) (n depth scope most : ℕ) (found all : List Task) (read : Reading) (root : Status) (s : IsTableOf nodes read root)
    (h : HasPassed root n depth scope most found all) (parent : Option Place) (e : node_parent nodes.rows n ≡ Some parent) where
  pub goes_up_in : (b : Place) → going_up depth scope parent ≡ Some b → IsGathering root b.node (suc b.index) (depth - 1) scope most found all
  goes_up_in b g = by_depth depth refl parent e g
    where
      by_depth : (d : ℕ) → depth ≡ d → (o : Option Place) → node_parent nodes.rows n ≡ Some o → going_up d scope o ≡ Some b
          → IsGathering root b.node (suc b.index) (depth - 1) scope most found all
      by_depth zero z None p q = absurd (cc q)
      by_depth (suc d) z None p q = absurd (cc q)
      by_depth (suc d) z (Some c) p q =
          let there : c ≡ b = cc q in
          let one : d ≡ depth - 1 = omega (arith, z) in
          subst (λ (k : ℕ). IsGathering root b.node (suc b.index) k scope most found all) one
          (goes_on nodes n depth scope most found all read root s h b (p ∙ ap (λ (x : Place). Some (Some x)) there) d
          (λ u up at. ap (λ (k : ℕ). tasks_from k scope (u ∷ up)) z))
      by_depth zero z (Some c) p q = by_test (c.node == scope) refl q
        where
          by_test : (t : Bool) → (c.node == scope) ≡ t → if_within t c ≡ Some b → IsGathering root b.node (suc b.index) (depth - 1) scope most found all
          by_test true w q = absurd (cc q)
          by_test false w q =
              let there : c ≡ b = cc q in
              let one : 0 ≡ depth - 1 = omega (arith, z) in
              subst (λ (k : ℕ). IsGathering root b.node (suc b.index) k scope most found all) one
              (goes_on nodes n depth scope most found all read root s h b (p ∙ ap (λ (x : Place). Some (Some x)) there) 0
              (λ u up at. ap (λ (k : ℕ). tasks_from k scope (u ∷ up)) z
              ∙ off_scope scope u up (ap (λ (x : Place). x.node == scope) (at ∙ sym there) ∙ w)))

  pub ends_in : going_up depth scope parent ≡ None → all ≡ found
  ends_in g = by_depth depth refl parent e g
    where
      nothing_above : node_parent nodes.rows n ≡ Some None → all ≡ found
      nothing_above p =
          ends nodes n depth scope most found all read root s h None p
          (ap (tasks_from depth scope) (no_level_up h.up (above_is nodes n depth scope most found all read root s h None p)) ∙ tasks_above_none depth scope)

      by_depth : (d : ℕ) → depth ≡ d → (o : Option Place) → node_parent nodes.rows n ≡ Some o → going_up d scope o ≡ None → all ≡ found
      by_depth zero z None p q = nothing_above p
      by_depth (suc d) z None p q = nothing_above p
      by_depth (suc d) z (Some c) p q = absurd (cc q)
      by_depth zero z (Some c) p q = by_test (c.node == scope) refl q
        where
          by_test : (t : Bool) → (c.node == scope) ≡ t → if_within t c ≡ None → all ≡ found
          by_test false w q = absurd (cc q)
          by_test true w q =
              let u = one_level_up (fake nodes n depth scope most found all read root s h) h.up c (above_is nodes n depth scope most found all read root s h (Some c) p) in
              ends nodes n depth scope most found all read root s h (Some c) p
              (ap (tasks_from depth scope) u.is
              ∙ (ap (λ (k : ℕ). tasks_from k scope (u.level ∷ u.above)) z ∙ at_scope scope u.level u.above (ap (λ (x : Place). x.node == scope) u.at ∙ w)))

-- where to go on is in the table, and above
pub place_up : (rows : Rows) (depth scope : ℕ) (parent : Option Place) (b : Place) (n : ℕ) → IsAbove rows parent n → going_up depth scope parent ≡ Some b
    → IsAbove rows (Some b) n
place_up rows depth scope None b n h g = by_depth depth g
  where
    by_depth : (d : ℕ) → going_up d scope None ≡ Some b → IsAbove rows (Some b) n
    by_depth zero q = absurd (cc q)
    by_depth (suc d) q = absurd (cc q)
place_up rows depth scope (Some c) b n h g = by_depth depth g
  where
    by_test : (t : Bool) → if_within t c ≡ Some b → IsAbove rows (Some b) n
    by_test true q = absurd (cc q)
    by_test false q = let there : c ≡ b = cc q in subst (λ (x : Place). IsAbove rows (Some x) n) there h

    by_depth : (d : ℕ) → going_up d scope (Some c) ≡ Some b → IsAbove rows (Some b) n
    by_depth zero q = by_test (c.node == scope) q
    by_depth (suc d) q = by_test false q

-- a walk begins to the right of a place, where its node is not the scope
less_around : (levels : List Level) → nodes_right levels ≤ nodes_around levels
less_around [] = omega arith
less_around (v ∷ up) = let h = less_around up in omega (arith, h)

pub begins : (nodes : NodesView) (a : Place) (scope : ℕ) (before : List Task) → a.node ≢ scope
    → GathersTo nodes a scope before a.node (a.index + 1) 0 nodes.live before
begins nodes a scope before other read v up was at s =
    let off : (a.node == scope) ≡ false = grind (arith, other) in
    let number : v.number ≡ a.node = ap (λ (x : Place). x.node) at in
    let index : length v.left ≡ a.index = ap (λ (x : Place). x.index) at in
    let live : nodes.live ≡ nodes_around (v ∷ up) + nodes_below was = s.live ∙ nodes_plug (v ∷ up) was in
    let less = less_around (v ∷ up) in
    let one : suc a.index ≡ a.index + 1 = omega arith in
    subst (λ (n : ℕ). IsGathering (plug (v ∷ up) was) n (a.index + 1) 0 scope nodes.live before (before ++ tasks_pruned scope (v ∷ up))) number (record {
      up = up;
      kind = v.kind;
      left = (v.spent, was) ∷ v.left;
      right = v.right;
      same = refl;
      index = ap suc index ∙ one;
      tasks = ap (λ (x : List Task). before ++ x) (off_scope scope v up (ap (λ (x : Place). x.node == scope) at ∙ off))
          ∙ ap (λ (x : ℕ). before ++ (tasks_among v.number x v.right ++ tasks_pruned scope up)) (ap suc index ∙ one);
      nodes = omega (arith, live, less);
    })

-- the node of a walk is there
module _ (nodes : NodesView) (a : Place) (scope : ℕ) (before : List Task) (n i depth most : ℕ) (found : List Task) (st : Stand nodes)
    (there : IsSome (cell_at nodes.rows a)) (g : GathersTo nodes a scope before n i depth most found) where
  abbrev here : IsAt st.root a
  here = let c = is_some_cell (cell_at nodes.rows a) there in located nodes st.read st.root a c.0 st.stands c.1

  stands : IsTableOf nodes st.read (plug (here.level ∷ here.above) here.status)
  stands = subst (IsTableOf nodes st.read) here.is st.stands

  pub row_there : IsSome (row_of_node nodes.rows n)
  row_there =
      ap is_some (row_at nodes n i depth scope most found (before ++ tasks_pruned scope (here.level ∷ here.above)) st.read (plug (here.level ∷ here.above) here.status)
      stands (g st.read here.level here.above here.status here.at stands)).1

  pub some_nodes : (old new : List Task) (m : ℕ) → found ≡ old → TurnsTo nodes n i old new (Some m) → 0 < most
  some_nodes old new m e t =
      (t st.read (plug (here.level ∷ here.above) here.status) depth scope most (before ++ tasks_pruned scope (here.level ∷ here.above)) stands
      (subst (λ (x : List Task). IsGathering (plug (here.level ∷ here.above) here.status) n i depth scope most x (before ++ tasks_pruned scope (here.level ∷ here.above))) e
      (g st.read here.level here.above here.status here.at stands))).0

-- a walk goes on
module _ (nodes : NodesView) (a : Place) (scope : ℕ) (before : List Task) (n i depth most : ℕ) (old new : List Task)
    (g : GathersTo nodes a scope before n i depth most old) where
  pub down_from : (m : ℕ) → TurnsTo nodes n i old new (Some m) → GathersTo nodes a scope before m 0 (suc depth) (most - 1) new
  down_from m t read v up was at s = (t read (plug (v ∷ up) was) depth scope most (before ++ tasks_pruned scope (v ∷ up)) s (g read v up was at s)).1

  pub up_from : (parent : Option Place) (b : Place) → TurnsTo nodes n i old new None → node_parent nodes.rows n ≡ Some parent
      → going_up depth scope parent ≡ Some b → GathersTo nodes a scope before b.node (suc b.index) (depth - 1) most new
  up_from parent b t p e read v up was at s =
      goes_up_in nodes n depth scope most new (before ++ tasks_pruned scope (v ∷ up)) read (plug (v ∷ up) was) s
      (t read (plug (v ∷ up) was) depth scope most (before ++ tasks_pruned scope (v ∷ up)) s (g read v up was at s)) parent p b e

  pub ends_at : (parent : Option Place) → TurnsTo nodes n i old new None → node_parent nodes.rows n ≡ Some parent → going_up depth scope parent ≡ None
      → FindsTasks nodes a scope before new
  ends_at parent t p e read v up was at s =
      sym (ends_in nodes n depth scope most new (before ++ tasks_pruned scope (v ∷ up)) read (plug (v ∷ up) was) s
      (t read (plug (v ∷ up) was) depth scope most (before ++ tasks_pruned scope (v ∷ up)) s (g read v up was at s)) parent p e)
