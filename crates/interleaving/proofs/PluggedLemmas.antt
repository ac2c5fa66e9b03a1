-- A pending alternative and the levels above it make up the tree.
use Rattle.std.proofs.Common.{◌≡◌, ℕ, List, [], ◌∷◌, refl}
use Rattle.au_model.specs.Terms.Each.{Each}
use Rattle.tree_model.specs.Nodes.{Kind, Node, Numbered, Alternatives, none, alternative, Status, Pending, Inner, Closed}
use Rattle.tree_model.specs.Levels.{Level, put_left, plug, Spot, levels_of, pending_in, pending_among, pending_below, pending_of}
use Rattle.interleaving.proofs.AppendLemmas.{each-append}

-- a spot of this tree
abbrev pub IsIn : Status → Spot → Type 0
IsIn root s = plug (levels_of s) (Pending s.hold s.entry) ≡ root

mutual
  in_node : (up : List Level) (node : Node) → Each (IsIn (plug up (Inner node))) (pending_in up node)
  in_node up (Numbered n kind alternatives) = in_alternatives up n kind [] alternatives

  in_alternatives : (up : List Level) (n : ℕ) (kind : Kind) (left : List (ℕ × Status)) (others : Alternatives)
      → Each (IsIn (plug up (Inner (Numbered n kind (put_left left others))))) (pending_among up n kind left others)
  in_alternatives up n kind left none = tt
  in_alternatives up n kind left (alternative spent status others) =
      each-append _ (pending_below (record { number = n; kind = kind; left = left; spent = spent; right = others }) up status)
      (pending_among up n kind ((spent, status) ∷ left) others)
      (in_status (record { number = n; kind = kind; left = left; spent = spent; right = others }) up status)
      (in_alternatives up n kind ((spent, status) ∷ left) others)

  in_status : (v : Level) (up : List Level) (status : Status) → Each (IsIn (plug (v ∷ up) status)) (pending_below v up status)
  in_status v up (Pending hold entry) = (refl, tt)
  in_status v up (Inner node) = in_node (v ∷ up) node
  in_status v up (Closed credit) = tt

pub all_in : (root : Status) → Each (IsIn root) (pending_of root)
all_in (Pending hold entry) = tt
all_in (Inner node) = in_node [] node
all_in (Closed credit) = tt
