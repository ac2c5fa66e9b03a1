-- What closes with a run and its answer, in a table in which numbers were skipped.
use Rattle.std.proofs.Common.{◌≡◌, ◌≢◌, ◌⊎◌, inl, inr, ℕ, suc, ◌+◌, ◌<◌, ◌≤◌, ◌==◌, Bool, true, false, List, [], ◌∷◌, ◌++◌, length, Option, Some, None, refl, sym, ap, ◌∙◌, subst, arith}
use Rattle.std.proofs.lemmas.Bool.{cases_lt}
use Rattle.std.specs.Option.{option_map}
use Rattle.std.specs.Prelude.{slice_get}
use Rattle.au_term.specs.Term.{Term}
use Rattle.tree_model.specs.Closing.{Grown, closes}
use Rattle.tree_model.specs.Credits.{Credit}
use Rattle.tree_model.specs.Effects.{spending}
use Rattle.tree_model.specs.EventViews.{place_view}
use Rattle.tree_model.specs.Levels.{Level, plug, Place, place_at}
use Rattle.tree_model.specs.Nodes.{Status, Closed}
use Rattle.tree_model.specs.SoundTrees.{one_if, count_below, IsSound}
use Rattle.tree_model.proofs.CountLemmas.{count_around, count_plug, one_if-same, one_if-other}
use Rattle.tree_nodes.specs.Bodies.{Body, Branching, Reading}
use Rattle.tree_nodes.specs.Changes.{KeepsNumbers, GivesBack}
use Rattle.tree_nodes.specs.Gathering.{is_shut_at}
use Rattle.tree_nodes.specs.Rows.{AlternativeCell, ClosedCell, StoredNode, Rows, row_of_node, alternatives_at, cell_at, credit_view}
use Rattle.tree_nodes.specs.Skipping.{no_rows, skipping}
use Rattle.tree_nodes.specs.TreeTables.{NodesView, IsTableOf, IsWayTo, above_of, cell_of}
use Rattle.tree_nodes.proofs.AddLemmas.{numbers_within}
use Rattle.tree_nodes.proofs.SkipLemmas.{row_at-skipped, cell_at-skipped, length-skipped, table_skipped, table_before}
use Rattle.tree_nodes.proofs.WalkLemmas.{cell_here}
use Rattle.tree_closing.specs.Closings.{ComesToRest, HasSleeper, HangTogether, ReadsWoken, is_waking}
use Rattle.tree_closing.specs.Sleeping.{right_of, IsBesideSleeper, is_asleep_at}
use Rattle.tree_closing.specs.declared.way_up.Beside.{Beside}
use Rattle.tree_closing.specs.declared.way_up.Beside.TheVariants.{Same, Closes, Gathers, Ends}
use Rattle.tree_closing.specs.declared.way_up.Closing.{Closing}
use Rattle.public_tree.specs.AnsweringAtOnce.{run_credit, SpendsOnClosed, RunRestsIn}
use Rattle.public_tree.specs.PublicTrees.{IsRooted}
use Rattle.public_tree.specs.PublicClosing.{ReadsAs, IsGrownTo, RestsIn}
use Rattle.public_tree.proofs.HandOutLemmas.{rooted_round}
use Rattle.public_tree.proofs.StayLemmas.{Stays, Folds, stays_or_folds, closes_within}

-- what is said of a place is said of it where numbers were skipped, and back
beside_skipped : (rows : Rows) (n : ℕ) (b : Place) → IsBesideSleeper rows b → IsBesideSleeper (rows ++ no_rows n) b
beside_skipped rows n b h = record { first = h.first; asleep = ap is_asleep_at (cell_at-skipped rows n (right_of b)) ∙ h.asleep }

pub sleeper_skipped : (rows : Rows) (n : ℕ) (b : Place) (beside : Beside) → HasSleeper beside rows b → HasSleeper beside (rows ++ no_rows n) b
sleeper_skipped rows n b Same h = h
sleeper_skipped rows n b Closes h = beside_skipped rows n b h
sleeper_skipped rows n b Gathers h = beside_skipped rows n b h
sleeper_skipped rows n b Ends h = beside_skipped rows n b h

way_before : (rows : Rows) (n : ℕ) (levels : List Level) (way : Branching) → IsWayTo (rows ++ no_rows n) levels way → IsWayTo rows levels way
way_before rows n [] way h = h
way_before rows n (v ∷ up) way h =
    (h.0, (h.1.0, (sym (row_at-skipped rows n v.number) ∙ h.1.1.0, h.1.1.1, way_before rows n up h.1.0 h.1.1.2)))

hang_before : (rows : Rows) (n : ℕ) (levels : List Level) → HangTogether (rows ++ no_rows n) levels → HangTogether rows levels
hang_before rows n [] h = h
hang_before rows n (v ∷ up) h =
    (ap (λ (o : Option StoredNode). option_map (λ r. r.parent) o) (sym (row_at-skipped rows n v.number)) ∙ h.0, hang_before rows n up h.1)

reads_skipped : (read : Reading) (rows : Rows) (n : ℕ) (b : Place) (records : List Term) (waking : Bool) (body : Option Body)
    → ReadsAs read rows b records waking body → ReadsAs read (rows ++ no_rows n) b records waking body
reads_skipped read rows n b records false body h = h
reads_skipped read rows n b records true None h = h
reads_skipped read rows n b records true (Some body) h =
    λ r up above row parent way hang. h r up above (sym (row_at-skipped rows n b.node) ∙ row) parent (way_before rows n up above way) (hang_before rows n up hang)

-- where its node has folded, an alternative is no longer there
no_row : (nodes : NodesView) (read : Reading) (root : Status) (a : Place) → IsTableOf nodes read root → count_below a.node root ≡ 0
    → is_shut_at (cell_at nodes.rows a) ≡ false
no_row nodes read root a s none_there =
    ap (λ (o : Option StoredNode). is_shut_at (slice_get (alternatives_at o) a.index)) (s.others a.node none_there)

module _ (old mid new : NodesView) (a : Place) (k skipped before spent : ℕ) (closing : Closing) (body : Option Body)
    (there : option_map (λ c. c.0) (cell_at old.rows a) ≡ Some before) (sum : spent ≡ before + k)
    (closed : RestsIn (skipping skipped old) mid (place_view closing.end) (credit_view closing.credit) closing.beside body)
    (spends : SpendsOnClosed mid new a spent (run_credit k)) (numbers : KeepsNumbers mid new) where
  abbrev b : Place
  b = place_view closing.end

  abbrev total : Credit
  total = credit_view closing.credit

  abbrev c : Credit
  c = run_credit k

  abbrev next : ℕ
  next = length old.rows + skipped

  rests_skipped : ComesToRest old a c b total closing.beside → ComesToRest (skipping skipped old) a c b total closing.beside
  rests_skipped r = λ read v up was n at s sound. r read v up was n at (table_before old skipped read (plug (v ∷ up) was) s) sound

  module _ (read : Reading) (v : Level) (up : List Level) (was : Status) (rests : ComesToRest old a c b total closing.beside) (at : place_at v ≡ a)
      (table : IsTableOf old read (plug (v ∷ up) was)) (sound : IsSound [] (plug (v ∷ up) was))
      (reads : ReadsAs read old.rows b total.records (is_waking closing.beside) body) where
    grown : IsGrownTo mid read (closes next (v ∷ up) c)
    grown = subst (λ (n : ℕ). IsGrownTo mid read (closes n (v ∷ up) c)) (length-skipped old.rows skipped)
        (closed a c read v up was (rests_skipped rests) at (table_skipped old skipped read (plug (v ∷ up) was) table) sound
        (reads_skipped read old.rows skipped b total.records (is_waking closing.beside) body reads))

    spent_is : spent ≡ v.spent + k
    spent_is =
        let here : cell_at old.rows a ≡ Some (v.spent, cell_of was) = ap (cell_at old.rows) (sym at) ∙ cell_here old read v up was table in
        let same : Some before ≡ Some v.spent = sym there ∙ ap (λ (o : Option (ℕ × AlternativeCell)). option_map (λ c. c.0) o) here in
        let was_spent : before ≡ v.spent = cc same in
        omega (arith, sum, was_spent)

    stays : Stays v up c k (closes next (v ∷ up) c) (closes next (spending k (v ∷ up)) c) → IsGrownTo new read (closes next (spending k (v ∷ up)) c)
    stays h =
        let now : IsTableOf mid read (plug (h.level ∷ up) (Closed c)) = subst (λ (g : Grown). IsTableOf mid read g.root) h.was grown.placed in
        let cell : cell_at mid.rows a ≡ Some (h.level.spent, ClosedCell c)
        = ap (cell_at mid.rows) (sym (h.at ∙ at)) ∙ cell_here mid read h.level up (Closed c) now in
        let set = spends.closed (ap is_shut_at cell) read h.level up (Closed c) (h.at ∙ at) now in
        let kept : IsTableOf new read (plug (record h.level { spent = v.spent + k } ∷ up) (Closed c))
        = subst (λ (n : ℕ). IsTableOf new read (plug (record h.level { spent = n } ∷ up) (Closed c))) spent_is set in
        record {
          placed = subst (λ (g : Grown). IsTableOf new read g.root) (sym h.now) kept;
          next = numbers.length ∙ (grown.next ∙ (ap (λ (g : Grown). g.next) h.was ∙ ap (λ (g : Grown). g.next) (sym h.now)));
          rooted = subst (λ (g : Grown). IsRooted g.root) (sym h.now) (rooted_round (record h.level { spent = v.spent + k }) up (Closed c));
        }

    gone : (h : Folds next up (closes next (v ∷ up) c) (closes next (spending k (v ∷ up)) c)) → count_below a.node (closes next up h.total).root ≡ 0
    gone h =
        let m = v.number in
        let few = table.distinct m in
        let parts = count_plug m (v ∷ up) was in
        let own = one_if-same m in
        let most = closes_within next m up h.total in
        let drawn : m < length old.rows = elim (cases_lt m (length old.rows)) [
          | inl l ↦ l
          | inr l ↦ absurd (let z = numbers_within old read (plug (v ∷ up) was) m table l in omega (arith, z, parts, own))
        ] in
        let fresh = one_if-other next m (λ e. omega (arith, e, drawn)) in
        let none_there : count_below m (closes next up h.total).root ≡ 0 = omega (arith, few, parts, own, most, fresh) in
        subst (λ (p : Place). count_below p.node (closes next up h.total).root ≡ 0) at none_there

    folds : Folds next up (closes next (v ∷ up) c) (closes next (spending k (v ∷ up)) c) → IsGrownTo new read (closes next (spending k (v ∷ up)) c)
    folds h =
        let now : IsGrownTo mid read (closes next up h.total) = subst (IsGrownTo mid read) h.was grown in
        let same = spends.other (no_row mid read (closes next up h.total).root a now.placed (gone h)) in
        subst (λ (x : NodesView). IsGrownTo x read (closes next (spending k (v ∷ up)) c)) (sym same) (subst (IsGrownTo mid read) (sym h.now) now)

    rests_at : IsGrownTo new read (closes next (spending k (v ∷ up)) c)
    rests_at = elim (stays_or_folds next v c k refl up) [
      | inl h ↦ stays h
      | inr h ↦ folds h
    ]

  pub run_rests : RunRestsIn old new a k skipped closing body
  run_rests = λ read v up was rests at table sound reads. rests_at read v up was rests at table sound reads

-- the numbers are drawn anew
pub all_given_back : (old mid back : NodesView) (n drawn : ℕ) → drawn ≡ length old.rows → mid ≡ skipping n old → GivesBack mid back drawn
    → GivesBack old back (length old.rows)
all_given_back old mid back n drawn all is given =
    let g : GivesBack (skipping n old) back drawn = subst (λ (x : NodesView). GivesBack x back drawn) is given in
    let many = g.length in
    let longer = length-skipped old.rows n in
    record {
      length = omega (arith, all, many, longer);
      spare = g.spare;
      same = λ read root s. g.same read root (table_skipped old n read root s);
    }
