-- A closing that rests, as the nodes are changed.
use Rattle.std.proofs.Common.{◌≡◌, ℕ, ◌==◌, true, cond, List, [], ◌∷◌, ◌++◌, length, Option, Some, None, refl, sym, ap, ◌∙◌, subst}
use Rattle.std.specs.Option.{option_map}
use Rattle.std.specs.Prelude.{IsSome, nat_le, slice_get}
use Rattle.run_model.specs.Machine.Entries.{Entry}
use Rattle.tree_model.specs.Credits.{Credit, no_credit}
use Rattle.tree_model.specs.Nodes.{Dormant, Node, Numbered, none, alternative, Status, Pending, Inner, Closed, single}
use Rattle.tree_model.specs.Levels.{Level, level_node, plug, Place, place_at}
use Rattle.tree_model.specs.Closing.{Grown, with_right, wakes, closes}
use Rattle.tree_model.specs.SoundTrees.{IsSound}
use Rattle.tree_nodes.specs.Bodies.{Body, BodyKind, Branching, Reading, IsWhole, guards_kind, node_kind, first_hold, new_node, new_alternatives}
use Rattle.clause_compile.specs.declared.event.Branch.{Branch}
use Rattle.tree_nodes.specs.Changes.{SetsCell, Adds, is_pending}
use Rattle.tree_nodes.specs.Rows.{AlternativeCell, PendingCell, InnerCell, ClosedCell, StoredNode, Rows, row_of_node, alternatives_at, cell_at}
use Rattle.tree_nodes.specs.TreeTables.{cell_of, cells_of, NodesView, IsTableOf, Stand}
use Rattle.tree_nodes.proofs.AddLemmas.{way_to}
use Rattle.tree_nodes.proofs.LocateLemmas.{IsAt, located}
use Rattle.tree_nodes.proofs.PlaceLemmas.{left_cells, AreRound, IsPlaced, taken_out}
use Rattle.tree_nodes.proofs.PutLemmas.{is_some_cell}
use Rattle.tree_nodes.proofs.WalkLemmas.{cells_beside, cell_here}
use Rattle.tree_closing.specs.Sleeping.{right_of, is_asleep_at, IsBesideSleeper}
use Rattle.tree_closing.specs.Closings.{IsRest, ClosesHere, HasSleeper, HangTogether, Rests, RestsWoken, IsSingle, ReadsWoken, RestsAs, Wakes, is_waking, credit_after, woken_entry}
use Rattle.tree_closing.specs.declared.way_up.Beside.{Beside}
use Rattle.tree_closing.specs.declared.way_up.Beside.TheVariants.{Same, Closes, Gathers, Ends}
use Rattle.tree_closing.proofs.SleeperLemmas.{Guards, one_beside}

-- a place closes, with what was spent on it
pub closes_here : (old new : NodesView) (b : Place) (total : Credit) (spent : ℕ) → option_map (λ c. c.0) (cell_at old.rows b) ≡ Some spent → SetsCell old new b spent (ClosedCell total) → ClosesHere old new b total
closes_here old new b total spent there set read v up was p s =
    let here : cell_at old.rows b ≡ Some (v.spent, cell_of was) = ap (cell_at old.rows) (sym p) ∙ cell_here old read v up was s in
    let same : Some spent ≡ Some v.spent = sym there ∙ ap (λ (o : Option (ℕ × AlternativeCell)). option_map (λ c. c.0) o) here in
    let spends : spent ≡ v.spent = cc same in
    subst (λ (n : ℕ). IsTableOf new read (plug (record v { spent = n } ∷ up) (Closed total))) spends (set read v up was p s)

pub rests_same : (old new : NodesView) (b : Place) (total : Credit) → ClosesHere old new b total → Rests old new b total Same
rests_same old new b total closed a c h read v up was next p s snd =
    let r = h read v up was next p s snd in
    let k = r.reached in
    subst (λ (g : Grown). IsTableOf new read g.root) (sym r.rests) (closed read k.level k.above k.status k.at (subst (IsTableOf old read) k.same s))

-- the level of what sleeps
abbrev sleeper_level : Level → Status → ℕ → Level
sleeper_level v was spent = record { number = v.number; kind = v.kind; left = (v.spent, was) ∷ []; spent = spent; right = none }

module _ (v : Level) (up : List Level) (was : Status) (e : Entry) (g : Guards v e) where
  -- what sleeps is the tree's second place of the node
  pub as_sleeper : plug (v ∷ up) was ≡ plug (sleeper_level v was g.spent ∷ up) (Pending Dormant e)
  as_sleeper =
      ap (λ (left : List (ℕ × Status)). plug up (Inner (level_node (record v { left = left }) was))) g.left
      ∙ ap (λ (right : _). plug up (Inner (level_node (record v { left = []; right = right }) was))) g.right

  pub back_again : (status : Status) → plug (sleeper_level v was 0 ∷ up) status ≡ plug (with_right status v ∷ up) was
  back_again status = ap (λ (left : List (ℕ × Status)). plug up (Inner (level_node (record (with_right status v) { left = left }) was))) (sym g.left)

-- a recovery closes, and then the place beside it
pub rests_closes : (old mid new : NodesView) (b : Place) (total : Credit) → IsBesideSleeper old.rows b → SetsCell old mid (right_of b) 0 (ClosedCell no_credit) → ClosesHere mid new b total → Rests old new b total Closes
rests_closes old mid new b total beside set closed a c h read v up was next p s snd =
    let r = h read v up was next p s snd in
    let k = r.reached in
    let table = subst (IsTableOf old read) k.same s in
    let g = one_beside old b read k.level k.above k.status k.at table beside.first beside.asleep (subst (IsSound []) k.same snd) in
    let asleep = subst (IsTableOf old read) (as_sleeper k.level k.above k.status g.entry g.asleep) table in
    let shut = set read (sleeper_level k.level k.status g.asleep.spent) k.above (Pending Dormant g.entry) (ap right_of k.at) asleep in
    let gone = subst (IsTableOf mid read) (back_again k.level k.above k.status g.entry g.asleep (Closed no_credit)) shut in
    subst (λ (x : Grown). IsTableOf new read x.root) (sym r.rests) (closed read (with_right (Closed no_credit) k.level) k.above k.status k.at gone)

-- the levels of a tree hang together
pub hang_together : (rows : Rows) (read : Reading) (levels : List Level) (way : Branching) (cell : AlternativeCell) → AreRound rows read levels way cell → HangTogether rows levels
hang_together rows read [] way cell h = tt
hang_together rows read (v ∷ up) way cell h =
    (ap (option_map (λ (r : StoredNode). r.parent)) h.1.1.1.row, hang_together rows read up h.1.0 (InnerCell v.number) h.1.1.2)

-- a node of one branch
one_branch : (bs : List Branch) → length bs ≡ 1 → (b : Branch) × (bs ≡ b ∷ [])
one_branch [] e = absurd cc
one_branch (b ∷ []) e = (b, refl)
one_branch (b ∷ c ∷ bs) e = absurd cc

new_single : (read : Reading) (way : Branching) (n : ℕ) (body : Body) → IsSingle body → new_node read way n body ≡ single n (read ((body, 0) ∷ way))
new_single read way n body i =
    let o = one_branch body.branches i.one in
    ap (λ (bs : List Branch). Numbered n (node_kind body.kind) (new_alternatives read way body 0 bs)) o.1
    ∙ ap (λ (k : BodyKind). Numbered n (node_kind k) (alternative 0 (Pending (first_hold k 0) (read ((body, 0) ∷ way))) none)) i.kind

-- what sleeps gets a node below it, and the place beside it closes
module _ (old mid more new : NodesView) (b : Place) (total : Credit) (beside : Beside) (body : Body) (n : ℕ) (sleeper : IsBesideSleeper old.rows b) (one : IsSingle body)
    (adds : Adds old mid (Some (right_of b)) n body) (set : SetsCell mid more (right_of b) 0 (InnerCell n)) (closed : ClosesHere more new b (credit_after beside total)) where
  module _ (read : Reading) (v : Level) (up : List Level) (was : Status) (p : place_at v ≡ b) (s : IsTableOf old read (plug (v ∷ up) was)) (e : Entry) (g : Guards v e) (reads : ReadsWoken read old.rows b total.records body) where
    abbrev w : Level
    w = sleeper_level v was g.spent

    asleep : IsTableOf old read (plug (w ∷ up) (Pending Dormant e))
    asleep = subst (IsTableOf old read) (as_sleeper v up was e g) s

    entry_is : (t : IsPlaced old.rows read (w ∷ up) (Pending Dormant e)) → read ((body, 0) ∷ t.way) ≡ woken_entry v.number total.records e
    entry_is t =
        let row = ap (row_of_node old.rows) (ap (λ (q : Place). q.node) (sym p)) ∙ t.around.1.1.1.row in
        let hang = hang_together old.rows read up t.around.1.0 _ t.around.1.1.2 in
        let here = reads _ up t.around.1.0 row refl (way_to old.rows read up t.around.1.0 _ t.around.1.1.2) hang in
        ap (λ (x : Branching). read ((body, 0) ∷ x)) t.around.1.1.0
        ∙ (here
        ∙ (ap (λ (x : Branching). woken_entry b.node total.records (read x)) (sym t.around.1.1.0)
        ∙ (ap (woken_entry b.node total.records) (sym t.inside)
        ∙ ap (λ (q : Place). woken_entry q.node total.records e) (sym p))))

    pub woken : IsTableOf new read (wakes n v up (credit_after beside total) (woken_entry v.number total.records e)).root
    woken =
        let t = taken_out old.rows read (w ∷ up) (Pending Dormant e) asleep.placed in
        let below = adds read w up (Pending Dormant e) t.way (ap right_of p) asleep (way_to old.rows read (w ∷ up) t.way _ t.around) in
        let node : new_node read t.way n body ≡ single n (woken_entry v.number total.records e) = new_single read t.way n body one ∙ ap (single n) (entry_is t) in
        let named = subst (λ (x : Node). IsTableOf mid read (plug (w ∷ up) (Inner x))) node below in
        let linked = set read w up (Inner (single n (woken_entry v.number total.records e))) (ap right_of p) named in
        let back = subst (IsTableOf more read) (back_again v up was e g (Inner (single n (woken_entry v.number total.records e)))) linked in
        closed read (with_right (Inner (single n (woken_entry v.number total.records e))) v) up was p back

  wakes_there : (a : Place) (c : Credit) (read : Reading) (v : Level) (up : List Level) (was : Status) → (r : IsRest n v up was c b total beside) → IsTableOf old read (plug (v ∷ up) was)
      → IsSound [] (plug (v ∷ up) was) → ReadsWoken read old.rows b total.records body → Wakes beside n r.reached.level r.reached.above total (closes n (v ∷ up) c) → IsTableOf new read (closes n (v ∷ up) c).root
  wakes_there a c read v up was r s snd reads k =
      let q = r.reached in
      let table = subst (IsTableOf old read) q.same s in
      let g = one_beside old b read q.level q.above q.status q.at table sleeper.first sleeper.asleep (subst (IsSound []) q.same snd) in
      let same : Some g.entry ≡ Some k.0 = sym g.is ∙ k.1.0 in
      let entry : g.entry ≡ k.0 = cc same in
      subst (λ (x : Grown). IsTableOf new read x.root) (sym k.1.1) (woken read q.level q.above q.status q.at table k.0 (subst (Guards q.level) entry g.asleep) reads)

  pub rests_woken : is_waking beside ≡ true → RestsWoken old new b total beside body n
  rests_woken waking a c h read v up was p s snd reads =
      let r = h read v up was n p s snd in
      wakes_there a c read v up was r s snd reads (by_sort beside waking n r.reached.level r.reached.above total (closes n (v ∷ up) c) r.rests)
    where
      by_sort : (sort : Beside) → is_waking sort ≡ true → (next : ℕ) (x : Level) (above : List Level) (k : Credit) (g : Grown) → RestsAs sort next x above k g → Wakes sort next x above k g
      by_sort Same w next x above k g r = absurd cc
      by_sort Closes w next x above k g r = absurd cc
      by_sort Gathers w next x above k g r = r
      by_sort Ends w next x above k g r = r

-- what sleeps can get a node below it
pub asleep_pending : (o : Option (ℕ × AlternativeCell)) → is_asleep_at o ≡ true → is_pending o ≡ true
asleep_pending None h = absurd cc
asleep_pending (Some (spent, PendingCell hold)) h = refl
asleep_pending (Some (spent, InnerCell n)) h = absurd cc
asleep_pending (Some (spent, ClosedCell credit)) h = absurd cc

pub asleep_there : (o : Option (ℕ × AlternativeCell)) → is_asleep_at o ≡ true → IsSome o
asleep_there None h = absurd cc
asleep_there (Some c) h = refl

pub single_whole : (body : Body) → IsSingle body → IsWhole body
single_whole body i =
    let o = one_branch body.branches i.one in
    ap (λ (k : BodyKind). cond (guards_kind k) (length body.branches == 2) (nat_le 1 (length body.branches))) i.kind ∙ ap (λ (bs : List Branch). nat_le 1 (length bs)) o.1

-- the first alternative of a node whose second is there
pub first_there : (nodes : NodesView) (read : Reading) (v : Level) (up : List Level) (was : Status) (b : Place) → IsTableOf nodes read (plug (v ∷ up) was) → place_at v ≡ right_of b → b.index ≡ 0
    → IsSome (cell_at nodes.rows b)
first_there nodes read v up was b s p first =
    subst (λ (i : ℕ). IsSome (slice_get (alternatives_at (row_of_node nodes.rows b.node)) i)) (sym first)
    (subst (λ (n : ℕ). IsSome (slice_get (alternatives_at (row_of_node nodes.rows n)) 0)) (ap (λ (q : Place). q.node) p)
    (subst (λ (cells : List (ℕ × AlternativeCell)). IsSome (slice_get cells 0)) (sym (cells_beside nodes read v up was s)) (by_left v.left (ap (λ (q : Place). q.index) p))))
  where
    by_left : (left : List (ℕ × Status)) → length left ≡ 1 → IsSome (slice_get (left_cells left ++ (v.spent, cell_of was) ∷ cells_of v.right) 0)
    by_left [] e = absurd cc
    by_left (x ∷ []) e = refl
    by_left (x ∷ y ∷ left) e = absurd cc

-- where a cell was set in the second place, the first is still there
module _ (old new : NodesView) (b : Place) (st : Stand old) (beside : IsBesideSleeper old.rows b) where
  abbrev right : IsAt st.root (right_of b)
  right =
      let c = is_some_cell (cell_at old.rows (right_of b)) (asleep_there (cell_at old.rows (right_of b)) beside.asleep) in
      located old st.read st.root (right_of b) c.0 st.stands c.1

  stands : IsTableOf old st.read (plug (right.level ∷ right.above) right.status)
  stands = subst (IsTableOf old st.read) right.is st.stands

  pub first_stays : (spent : ℕ) (credit : Credit) → SetsCell old new (right_of b) spent (ClosedCell credit) → IsSome (cell_at new.rows b)
  first_stays spent credit set =
      first_there new st.read (record right.level { spent = spent }) right.above (Closed credit) b (set st.read right.level right.above right.status right.at stands) right.at beside.first

  module _ (n : ℕ) (body : Body) (adds : Adds old new (Some (right_of b)) n body) where
    below : (t : IsPlaced old.rows st.read (right.level ∷ right.above) right.status) → IsTableOf new st.read (plug (right.level ∷ right.above) (Inner (new_node st.read t.way n body)))
    below t = adds st.read right.level right.above right.status t.way right.at stands (way_to old.rows st.read (right.level ∷ right.above) t.way _ t.around)

    placed : IsPlaced old.rows st.read (right.level ∷ right.above) right.status
    placed = taken_out old.rows st.read (right.level ∷ right.above) right.status stands.placed

    pub linked : cell_at new.rows (right_of b) ≡ Some (right.level.spent, InnerCell n)
    linked = ap (cell_at new.rows) (sym right.at) ∙ cell_here new st.read right.level right.above (Inner (new_node st.read placed.way n body)) (below placed)

    pub first_linked : (more : NodesView) → SetsCell new more (right_of b) 0 (InnerCell n) → IsSome (cell_at more.rows b)
    first_linked more set =
        first_there more st.read (record right.level { spent = 0 }) right.above (Inner (new_node st.read placed.way n body)) b
        (set st.read right.level right.above (Inner (new_node st.read placed.way n body)) right.at (below placed)) right.at beside.first

-- what wakes sleeps
pub waking_sleeper : (nodes : NodesView) (b : Place) (beside : Beside) → is_waking beside ≡ true → HasSleeper beside nodes.rows b → IsBesideSleeper nodes.rows b
waking_sleeper nodes b Same w h = absurd cc
waking_sleeper nodes b Closes w h = absurd cc
waking_sleeper nodes b Gathers w h = h
waking_sleeper nodes b Ends w h = h
