-- Solutions that go on at the front as branches of one node, or leave nothing.
use Rattle.std.proofs.Common.{◌≡◌, inl, inr, ℕ, suc, ◌+◌, ◌==◌, Bool, true, false, List, [], ◌∷◌, ◌++◌, length, map, slice_get, get_or, Some, None, refl, sym, ap, ap₂, ◌∙◌, subst, arith}
use Rattle.std.proofs.lemmas.Bool.Decides.{nat_tests}
use Rattle.std.proofs.lemmas.Bool.{eqb-true}
use Rattle.std.specs.Prelude.{nat_le}
use Rattle.au_model.specs.Terms.Unifier.{unifier}
use Rattle.clause_compile.specs.declared.event.Branch.{Branch}
use Rattle.clause_compile.specs.declared.item.Item.{Item as BranchItem}
use Rattle.run_model.specs.Machine.Entries.{Entry, PlainEntry, solution_entries, unified}
use Rattle.run_model.specs.Machine.Items.{Continuation, before, goals_at, removing, resolve_continuation, with_items, with_next}
use Rattle.run_model.specs.Programs.Jobs.{Job}
use Rattle.tree_model.specs.Floors.{floor_of, node_of, with_nodes}
use Rattle.tree_model.specs.FrontGates.{Continues}
use Rattle.tree_model.specs.LegalTrees.{IsLegalTree}
use Rattle.tree_model.specs.Legality.{taken_at}
use Rattle.tree_model.specs.Levels.{Level, Place, Spot, levels_of, place_at}
use Rattle.tree_model.specs.Nodes.{ChoiceNode, Ready, Numbered, entry_alternatives}
use Rattle.tree_model.specs.TreeStates.{TreeState}
use Rattle.tree_nodes.specs.Bodies.{Body, Branching, IsWhole, is_whole, new_node}
use Rattle.tree_nodes.specs.TreeTables.{NodesView, IsTableOf, IsWayTo}
use Rattle.branch_reading.specs.BranchSegments.{next_number, segments_on}
use Rattle.branch_reading.specs.NumberedReadings.{NumberedTreesAreSettled}
use Rattle.branch_reading.specs.Readings.{reading}
use Rattle.branch_reading.specs.SettledWays.{items_on}
use Rattle.task_region.specs.TaskLoads.{IsBoundOnBranch}
use Rattle.branch_shapes.specs.FloorItems.{ScopedItemsNameLevels}
use Rattle.branch_shapes.specs.CutReadings.{IsPlainOn}
use Rattle.branch_shapes.specs.RestBodies.{IsRestBody, items_behind, quiet_segment}
use Rattle.interleaving.proofs.EntryLemmas.{length-floor, own_height}
use Rattle.public_tree.specs.Answering.{AtFront, GoesOnAs, ReadsAsLeft, taken_as}
use Rattle.region_split.specs.Regions.{RegionView}
use Rattle.region_split.specs.Solutions.{SolutionView}
use Rattle.region_split.specs.SolutionTrials.{AreSolutionsHere}
use Rattle.region_split.specs.StackOperations.{solution_here}
use Rattle.task_stops.proofs.QuietLemmas.{BranchLaws}
use Rattle.task_world.specs.FrontSteps.{LeavesBehind}
use Rattle.task_world.proofs.BranchLemmas.{got_or, rest_on}
use Rattle.task_world.proofs.SpotLemmas.{at}
use Rattle.front_goals.specs.RepliesNext.{IsBoundThere, SolutionsAreNext, SolutionsLeave, follows_next}
use Rattle.front_goals.specs.SolutionBranches.{AreSolutionBranches, HasBranches}
use Rattle.front_goals.proofs.NextLemmas.{front, front_is, more_is, plain_on}
use Rattle.front_goals.proofs.SolutionReadingLemmas.{after_goal, made, node_reads}

-- the entries of solutions: none where there is no branch, and some where there is one
module _ (r : RegionView) (node : ℕ) (follows : List BranchItem) (h : ℕ) (f : Continuation ℕ) where
  abbrev entries : List SolutionView → List Entry
  entries ss = solution_entries h f (map (solution_here r) ss)

  abbrev follows_on : SolutionView → Continuation ℕ
  follows_on s = with_next (f.next + s.variables) (before (goals_at h (solution_here r s).goals) (removing s.removes f))

  passed : (s : SolutionView) (ss : List SolutionView) → unifier (solution_here r s).equations ≡ None → entries (s ∷ ss) ≡ entries ss
  passed s ss none = ap (λ o. unified o (follows_on s) ++ entries ss) none

  pub none_left : (ss : List SolutionView) (bs : List Branch) → bs ≡ [] → AreSolutionBranches r node follows ss bs → entries ss ≡ []
  none_left [] bs empty are = refl
  none_left (s ∷ ss) bs empty (inl k) = passed s ss k.0 ∙ none_left ss bs empty k.1
  none_left (s ∷ ss) bs empty (inr k) = let wrong : ◌≡◌ {A = List Branch} [] (k.branch ∷ k.others) = sym empty ∙ k.are in absurd cc

  pub some_left : (ss : List SolutionView) (b : Branch) (bs : List Branch) → AreSolutionBranches r node follows ss (b ∷ bs) → (e : Entry) × ((es : List Entry) × (entries ss ≡ e ∷ es))
  some_left [] b bs are = absurd (cc are)
  some_left (s ∷ ss) b bs (inl k) = let l = some_left ss b bs k.1 in (l.0, (l.1.0, passed s ss k.0 ∙ l.1.1))
  some_left (s ∷ ss) b bs (inr k) =
      (PlainEntry (resolve_continuation k.own.solves.further (follows_on s)), (entries ss, ap (λ o. unified o (follows_on s) ++ entries ss) k.own.solves.unified))

first_of : (bs : List Branch) → (bs ≡ [] → ⊥) → (b : Branch) × ((more : List Branch) × (bs ≡ b ∷ more))
first_of [] some = absurd (some refl)
first_of (b ∷ more) some = (b, (more, refl))

-- a body with some branch is whole
at_least_one : (n : ℕ) → nat_le 1 (suc n) ≡ true
at_least_one n = grind (arith, nat_tests)

pub body_whole : (n : ℕ) (bs : List Branch) (body : Body) → HasBranches n bs body → (bs ≡ [] → ⊥) → IsWhole body
body_whole n bs body has some =
    let f = first_of bs some in
    ap₂ (λ kind (xs : List Branch). is_whole (record body { kind = kind; branches = xs })) has.kind (has.branches_are ∙ f.1.1) ∙ at_least_one (length f.1.0)

-- whether there is a branch
pub none_there : (bs : List Branch) (n : ℕ) (b : Bool) → n ≡ length bs → b ≡ (n == 0) → b ≡ true → bs ≡ []
none_there [] n b long test is = refl
none_there (x ∷ bs) n b long test is = let zero : n ≡ 0 = eqb-true n 0 (sym test ∙ is) in absurd (omega (arith, long, zero))

pub some_there : (bs : List Branch) (n : ℕ) (b : Bool) → n ≡ length bs → b ≡ (n == 0) → b ≡ false → bs ≡ [] → ⊥
some_there bs n b long test is empty =
    let zero : n ≡ 0 = long ∙ ap (λ (xs : List Branch). length xs) empty in
    let wrong : true ≡ false = sym (ap (λ k. k == 0) zero) ∙ (sym test ∙ is) in
    cc

-- the first of one branch
pub first_got : (rest : Body) (first b : Branch) → rest.branches ≡ b ∷ [] → first ≡ get_or rest.branches 0 first → slice_get rest.branches 0 ≡ Some first
first_got rest first b one is = got_or rest.branches 0 first first (let n = ap (λ (xs : List Branch). length xs) one in omega (arith, n)) is

-- the laws on which it rests
pub record SolutionLaws : Type 0 where
  pub numbered : NumberedTreesAreSettled
  pub scoped : ScopedItemsNameLevels
  pub branches : BranchLaws

module _ (laws : SolutionLaws) (job : Job) (nodes : NodesView) (t : TreeState) (w : ℕ) (a : Place) (placed : IsTableOf nodes (reading job) t.root) (legal : IsLegalTree t)
    (r : RegionView) (solutions : List SolutionView) (here : AreSolutionsHere r solutions) (next : SolutionsAreNext r solutions w a t)
    (bound : IsBoundThere nodes r.store.floor w a t) (rest : Body) (left : LeavesBehind nodes.rows a rest) (first : Branch) (first_is : slice_get rest.branches 0 ≡ Some first)
    (bs : List Branch) (are : AreSolutionBranches r a.node first.goals solutions bs) where
  -- where there is no branch, nothing is left
  pub nothing_left : bs ≡ [] → AtFront w a (λ s front. front ≡ Continues []) t
  nothing_left empty s taken =
      let k = next s taken in (
        k.gate,
        k.taken ∙ ap Continues (none_left r a.node first.goals (length (floor_of (levels_of s))) (follows_next k.item r.store.now s k.next) solutions bs empty are),
      )

  module _ (s : Spot) (taken : taken_at w a t ≡ Some s) (way : Branching) (path : IsWayTo nodes.rows (levels_of s) way) where
    abbrev levels : List Level
    levels = levels_of s

    abbrev k : SolutionsLeave r solutions t s
    k = next s taken

    plain : IsPlainOn job s way
    plain = plain_on job nodes t w a placed legal laws.numbered laws.scoped s taken k.item k.next.behind k.next.has way path

    same_front : k.next.has.front ≡ front job nodes t w a placed legal laws.numbered laws.scoped s taken k.item k.next.behind k.next.has way path
    same_front = front_is job nodes t w a placed legal laws.numbered laws.scoped s taken k.item k.next.behind k.next.has way path

    number : r.store.now.next ≡ next_number (segments_on way)
    number = sym k.next.number ∙ ap (λ (f : Continuation ℕ). f.next) same_front

    start : IsBoundOnBranch way r.store.floor
    start = bound s way taken path

    abbrev after : Continuation ℕ
    after = after_goal laws.branches job way levels plain.settled plain.scoped r start number

    after_is : follows_next k.item r.store.now s k.next ≡ after
    after_is =
        ap₂ (λ is (f : Continuation ℕ). with_items is f)
        (more_is job nodes t w a placed legal laws.numbered laws.scoped s taken k.item k.next.behind k.next.has way path) same_front

    fixed : resolve_continuation r.store.now.bound after ≡ after
    fixed = subst (λ (f : Continuation ℕ). resolve_continuation r.store.now.bound f ≡ f) after_is k.next.bound

    at_place : place_at s.level ≡ a
    at_place = at job nodes t w a placed s taken

    rest_is : IsRestBody (items_behind (items_on way)) (next_number (segments_on way)) rest
    rest_is = rest_on nodes.rows s.level s.above way a rest at_place path left

    goals_are : first.goals ≡ items_behind (items_on way)
    goals_are =
        let both : Some first ≡ Some (record { goals = items_behind (items_on way); segment = quiet_segment (next_number (segments_on way)) })
        = sym first_is ∙ ap (λ (xs : List Branch). slice_get xs 0) rest_is.branches in
        let same : first ≡ record { goals = items_behind (items_on way); segment = quiet_segment (next_number (segments_on way)) } = cc in
        ap (λ (x : Branch). x.goals) same

    own_node : a.node ≡ node_of levels (length levels)
    own_node = sym (ap (λ (p : Place). p.node) at_place) ∙ sym (own_height s.level s.above)

    there : AreSolutionBranches r (node_of levels (length levels)) (items_behind (items_on way)) solutions bs
    there =
        subst (λ n. AreSolutionBranches r n (items_behind (items_on way)) solutions bs) own_node
        (subst (λ (is : List BranchItem). AreSolutionBranches r a.node is solutions bs) goals_are are)

    abbrev all : List Entry
    all = solution_entries (length levels) after (map (solution_here r) solutions)

    taken_is : taken_as t s ≡ Continues all
    taken_is =
        k.taken
        ∙ ap₂ (λ n (f : Continuation ℕ). Continues (solution_entries n f (map (solution_here r) solutions))) (length-floor levels) after_is

    module _ (body : Body) (has : HasBranches r.store.now.next bs body) where
      abbrev whole : Body
      whole = made laws.branches job way levels plain.settled plain.scoped r start number fixed bs

      body_is : body ≡ whole
      body_is =
          ap₂ (λ sg xs. (let b : Body = record { segment = sg; branches = xs; kind = body.kind } in b)) has.segment has.branches_are
          ∙ ap (λ kind. (let b : Body = record { segment = quiet_segment r.store.now.next; branches = bs; kind = kind } in b)) has.kind

      reads_left : (bs ≡ [] → ⊥) → ReadsAsLeft (reading job) way body levels (taken_as t s)
      reads_left some =
          let f = first_of bs some in
          let l = some_left r (node_of levels (length levels)) (items_behind (items_on way)) (length levels) after solutions f.0 f.1.0
          (subst (AreSolutionBranches r (node_of levels (length levels)) (items_behind (items_on way)) solutions) f.1.1 there) in
          record {
            entry = l.0;
            under = l.1.0;
            goes_on = taken_is ∙ ap Continues l.1.1;
            node = λ n.
                ap (new_node (reading job) way n) body_is
                ∙ node_reads laws.branches job way levels plain.settled plain.scoped r start number fixed bs solutions here there n
                ∙ ap (λ es. Numbered n ChoiceNode (entry_alternatives Ready (map (with_nodes (node_of levels)) es))) l.1.1;
          }

  pub goes_on_as : (body : Body) → HasBranches r.store.now.next bs body → (bs ≡ [] → ⊥) → GoesOnAs nodes.rows body w a (reading job) t
  goes_on_as body has some s taken = ((next s taken).gate, λ way path. reads_left s taken way path body has some)
