-- Where the table has no entry of a sort, none of the tree passes.
use Rattle.std.proofs.Common.{◌≡◌, ℕ, Bool, false, List, [], ◌∷◌, ◌++◌, Option, Some, None, refl, sym, ap, ◌∙◌, subst}
use Rattle.std.proofs.lemmas.List.Folds.{find-append}
use Rattle.std.specs.Option.{option_map, option_or}
use Rattle.std.specs.Prelude.{find, cond}
use Rattle.tree_model.specs.Legality.{is_ready, may_resume}
use Rattle.tree_model.specs.Levels.{Level, put_left, plug, Spot, levels_of, place_of_spot, pending_in, pending_among, pending_below, pending_of}
use Rattle.tree_model.specs.Nodes.{Kind, Node, Numbered, Alternatives, none, alternative, Status, Pending, Inner, Closed}
use Rattle.tree_model.specs.Nodes.{Hold, Ready, TakenBy, Waiting, Dormant}
use Rattle.tree_nodes.specs.Bodies.{Reading}
use Rattle.tree_nodes.specs.Held.{is_waiting, HasNone}
use Rattle.tree_nodes.specs.TreeTables.{NodesView, IsTableOf}
use Rattle.tree_nodes.proofs.WalkLemmas.{cell_here}
use Rattle.branch_order.specs.Sought.{IsFirstEntry}

module _ (test : Spot → Bool) where
  -- no entry of this tree passes
  abbrev Fails : Status → Type 0
  Fails root = (s : Spot) → plug (levels_of s) (Pending s.hold s.entry) ≡ root → test s ≡ false

  none_of_both : (xs ys : List Spot) → find test xs ≡ None → find test ys ≡ None → find test (xs ++ ys) ≡ None
  none_of_both xs ys e f = find-append test xs ys ∙ (ap (λ (o : Option Spot). option_or o (find test ys)) e ∙ f)

  mutual
    in_node : (up : List Level) (node : Node) → Fails (plug up (Inner node)) → find test (pending_in up node) ≡ None
    in_node up (Numbered n kind alternatives) h = in_alternatives up n kind [] alternatives h

    in_alternatives : (up : List Level) (n : ℕ) (kind : Kind) (left : List (ℕ × Status)) (others : Alternatives)
        → Fails (plug up (Inner (Numbered n kind (put_left left others)))) → find test (pending_among up n kind left others) ≡ None
    in_alternatives up n kind left none h = refl
    in_alternatives up n kind left (alternative spent status others) h =
        none_of_both (pending_below (record { number = n; kind = kind; left = left; spent = spent; right = others }) up status)
        (pending_among up n kind ((spent, status) ∷ left) others)
        (in_status (record { number = n; kind = kind; left = left; spent = spent; right = others }) up status h)
        (in_alternatives up n kind ((spent, status) ∷ left) others h)

    in_status : (v : Level) (up : List Level) (status : Status) → Fails (plug (v ∷ up) status) → find test (pending_below v up status) ≡ None
    in_status v up (Pending hold entry) h =
        let spot : Spot = record { level = v; above = up; hold = hold; entry = entry } in
        ap (λ (b : Bool). cond b (Some spot) None) (h spot refl)
    in_status v up (Inner node) h = in_node (v ∷ up) node h
    in_status v up (Closed credit) h = refl

  none_of : (root : Status) → Fails root → find test (pending_of root) ≡ None
  none_of (Pending hold entry) h = refl
  none_of (Inner node) h = in_node [] node h
  none_of (Closed credit) h = refl

module _ (nodes : NodesView) (sort : Hold → Bool) (h : HasNone sort nodes.rows) where
  held_otherwise : (read : Reading) (root : Status) → IsTableOf nodes read root → (s : Spot) → plug (levels_of s) (Pending s.hold s.entry) ≡ root → sort s.hold ≡ false
  held_otherwise read root t s e =
      h (place_of_spot s) s.level.spent s.hold
      (cell_here nodes read s.level s.above (Pending s.hold s.entry) (subst (IsTableOf nodes read) (sym e) t))

pub no_ready : (nodes : NodesView) → HasNone is_ready nodes.rows → IsFirstEntry (λ s. is_ready s.hold) nodes None
no_ready nodes h read root t = ap (option_map place_of_spot) (none_of (λ s. is_ready s.hold) root (held_otherwise nodes is_ready h read root t))

pub no_waiting : (nodes : NodesView) → HasNone is_waiting nodes.rows → IsFirstEntry (λ s. may_resume s s.hold) nodes None
no_waiting nodes h read root t =
    ap (option_map place_of_spot) (none_of (λ s. may_resume s s.hold) root (λ s e. by_hold s s.hold (held_otherwise nodes is_waiting h read root t s e)))
  where
    by_hold : (s : Spot) (hold : Hold) → is_waiting hold ≡ false → may_resume s hold ≡ false
    by_hold s Ready e = refl
    by_hold s (TakenBy w) e = refl
    by_hold s (Waiting g) e = absurd (cc e)
    by_hold s Dormant e = refl
