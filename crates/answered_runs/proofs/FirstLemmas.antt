-- The leftmost pending alternative of a sound tree.
use Rattle.std.proofs.Common.{◌≡◌, ℕ, List, [], ◌∷◌, Option, Some, None, refl, sym, ap, ◌∙◌, subst}
use Rattle.au_model.specs.Terms.Each.{Each}
use Rattle.run_model.specs.Machine.Entries.{Entry}
use Rattle.tree_model.specs.Nodes.{Alternatives, alternative, Status, Pending, Inner}
use Rattle.tree_model.specs.Levels.{Level, put_left, level_node, plug, Spot, levels_of}
use Rattle.tree_model.specs.Orders.{first_open}
use Rattle.tree_model.specs.TreeStates.{TreeState, pending_spots, first_spot, leftmost}
use Rattle.tree_model.specs.SoundTrees.{IsSoundTree}
use Rattle.tree_model.specs.CaughtTrees.{IsUnspent, AreUnspent, IsCaughtTree}
use Rattle.interleaving.proofs.FrontLemmas.{leftmost_front}
use Rattle.interleaving.proofs.PluggedLemmas.{IsIn, all_in}

-- it is there, and all to its left is closed
pub record IsFirst (t : TreeState) (s : Spot) : Type 0 where
  pub inside : IsIn t.root s
  pub clear : first_open (levels_of s) ≡ None

pub leftmost_first : (t : TreeState) → IsSoundTree t → (s : Spot) → leftmost t ≡ Some s → IsFirst t s
leftmost_first t sound s e = go (pending_spots t) refl e
  where
    heads : (a b : Spot) (as_far bs : List Spot) → a ∷ as_far ≡ b ∷ bs → a ≡ b
    heads a b as_far bs q = cc

    go : (spots : List Spot) → pending_spots t ≡ spots → first_spot spots ≡ Some s → IsFirst t s
    go [] p q = let no_way : ⊥ = cc in absurd no_way
    go (x ∷ spots) p q =
        let f = leftmost_front t.root sound.sound x spots p in
        let same : x ≡ s = cc in
        let first_is : f.first ≡ s = heads f.first x f.others spots (sym f.joined ∙ p) ∙ same in
        record {
          inside = subst (IsIn t.root) same (subst (Each (IsIn t.root)) p (all_in t.root)).0;
          clear = ap (λ r. first_open (levels_of r)) (sym first_is) ∙ f.clear;
        }

-- nothing was spent on an entry
unspent_put : (left : List (ℕ × Status)) (others : Alternatives) → AreUnspent (put_left left others) → AreUnspent others
unspent_put [] others h = h
unspent_put (a ∷ left) others h = (unspent_put left (alternative a.0 a.1 others) h).1

unspent_at : (up : List Level) (v : Level) (status : Status) → IsUnspent 0 (plug (v ∷ up) status) → IsUnspent v.spent status
unspent_at [] v status h = (unspent_put v.left (alternative v.spent status v.right) h).0
unspent_at (u ∷ up) v status h = (unspent_put v.left (alternative v.spent status v.right) (unspent_at up u (Inner (level_node v status)) h)).0

pub nothing_spent : (t : TreeState) → IsCaughtTree t → (s : Spot) → IsIn t.root s → t.halted ≡ None → s.level.spent ≡ 0
nothing_spent t c s i h = unspent_at s.above s.level (Pending s.hold s.entry) (subst (IsUnspent 0) (sym i) (c.unspent h))
