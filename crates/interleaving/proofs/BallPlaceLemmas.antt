-- The node at which a ball lands, by its height on the branch, and the node of the innermost query.
use Rattle.std.proofs.Common.{◌≡◌, ◌⊎◌, inl, inr, ℕ, suc, ◌≤◌, ◌==◌, Bool, true, false, cond, List, [], ◌∷◌, length, refl, sym, ap, ◌∙◌}
use Rattle.std.proofs.Common.{subst, arith}
use Rattle.run_model.specs.Machine.Items.{Item}
use Rattle.tree_model.specs.Nodes.{Kind, ChoiceNode, CatchNode, FindallNode, QueryNode}
use Rattle.tree_model.specs.Levels.{Level}
use Rattle.tree_model.specs.Floors.{height_of, node_of, query_kind, query_node}
use Rattle.tree_model.specs.PendingLists.{way_of}
use Rattle.tree_model.specs.Ways.{is_on, is_query, under_query, IsAsked}
use Rattle.tree_model.specs.SoundTrees.{IsOpen}
use Rattle.interleaving.proofs.ContextLemmas.{IsAround}
use Rattle.interleaving.proofs.WayLemmas.{cond-true, cond-false, other_number}
use Rattle.interleaving.proofs.RoundtripLemmas.{by_nodes, by_heights, back_again, node_height}
use Rattle.interleaving.proofs.BallLemmas.{NamesFloor, names-above, names_same}
use Rattle.interleaving.proofs.EndLemmas.{HasQueryEnd, query_here}
use Rattle.interleaving.proofs.ListEndLemmas.{levels_down}
use Rattle.au_term.proofs.LogicLemmas.{false_true, not_equal, number_same}

same_tail : {A : Type 0} → (a b : A) (xs ys : List A) → a ∷ xs ≡ b ∷ ys → xs ≡ ys
same_tail a b xs ys e = cc

-- the part of a branch from a node up
pub height_down : (levels : List Level) (s : ℕ) (w : Level) (up : List Level) → levels_down levels s ≡ w ∷ up → height_of levels s
    ≡ suc (length up)
height_down [] s w up e = let no_way : ⊥ = cc in absurd no_way
height_down (v ∷ rest) s w up e = go (v.number == s) e (height_down rest s w up)
  where
    go : (b : Bool) → cond b (v ∷ rest) (levels_down rest s) ≡ w ∷ up
        → (levels_down rest s ≡ w ∷ up → height_of rest s ≡ suc (length up)) → cond b (suc (length rest)) (height_of rest s)
        ≡ suc (length up)
    go true q f = ap (λ l. suc (length l)) (same_tail v w rest up q)
    go false q f = f q

length_down : (levels : List Level) (s : ℕ) → length (levels_down levels s) ≤ length levels
length_down [] s = omega arith
length_down (v ∷ up) s = go (v.number == s) (length_down up s)
  where
    go : (b : Bool) → length (levels_down up s) ≤ length up → length (cond b (v ∷ up) (levels_down up s)) ≤ suc (length up)
    go true h = omega arith
    go false h = omega (arith, h)

pub names_down : (levels : List Level) (s : ℕ) → NamesFloor (node_of levels) (levels_down levels s)
names_down [] s = λ h l. refl
names_down (v ∷ up) s = go (v.number == s) (names_down up s) (length_down up s)
  where
    go : (b : Bool) → NamesFloor (node_of up) (levels_down up s) → length (levels_down up s) ≤ length up
        → NamesFloor (node_of (v ∷ up)) (cond b (v ∷ up) (levels_down up s))
    go true f k h l = refl
    go false f k h l = cond-false (h == suc (length up)) v.number (node_of up h) (not_equal h (suc (length up)) (omega (arith, l, k)))
        ∙ f h l

-- names of what is above a node, found again from below it
pub names_above : (levels : List Level) (s : ℕ) (w : Level) (up : List Level) (items : List (Item ℕ)) → levels_down levels s ≡ w ∷ up
    → IsAsked (way_of up) items → by_nodes (node_of levels) (by_heights up items) ≡ items
names_above levels s w [] items e i = false_true i.asked
names_above levels s w (u ∷ up) items e i =
    let names : NamesFloor (node_of levels) (w ∷ u ∷ up) = subst (NamesFloor (node_of levels)) e (names_down levels s) in
    names_same (node_of levels) u up items (names-above (node_of levels) w (u ∷ up) names) ∙ back_again (u ∷ up) (way_of (u ∷ up)) items
    (λ r k. k) i.scoped

pub scope_down : (levels : List Level) (s : ℕ) (w : Level) (up : List Level) → levels_down levels s ≡ w ∷ up → is_on (way_of levels) s
    ≡ true → node_of levels (suc (length up)) ≡ s
scope_down levels s w up e o = ap (node_of levels) (sym (height_down levels s w up e)) ∙ node_height levels s o

-- the innermost query's node, whose end sleeps
pub record QueryAt (levels : List Level) : Type 0 where
  pub level : Level
  pub above : List Level
  pub down : levels_down levels (query_node levels) ≡ level ∷ above
  pub query : is_query level.kind ≡ true
  pub end : HasQueryEnd level
  pub on : is_on (way_of levels) (query_node levels) ≡ true
  pub number : level.number ≡ query_node levels

pub query_at : (levels : List Level) → IsAround levels IsOpen → under_query (way_of levels) ≡ true → QueryAt levels
query_at [] a u = false_true u
query_at (v ∷ up) a u = pick (query_here v up a.0 u) (λ k. query_at up a.1 k)
  where
    mine : (k : Kind) (n m : ℕ) → is_query k ≡ true → query_kind k n m ≡ n
    mine QueryNode n m e = refl
    mine ChoiceNode n m e = false_true e
    mine CatchNode n m e = false_true e
    mine FindallNode n m e = false_true e

    other : (k : Kind) (n m : ℕ) → is_query k ≡ false → query_kind k n m ≡ m
    other QueryNode n m e = false_true (sym e)
    other ChoiceNode n m e = refl
    other CatchNode n m e = refl
    other FindallNode n m e = refl

    pick : (is_query v.kind ≡ true × HasQueryEnd v) ⊎ ((is_query v.kind ≡ false) × (under_query (way_of up) ≡ true))
        → (under_query (way_of up) ≡ true → QueryAt up) → QueryAt (v ∷ up)
    pick (inl h) f =
        let same : query_node (v ∷ up) ≡ v.number = mine v.kind v.number (query_node up) h.0 in
        let here : (v.number == query_node (v ∷ up)) ≡ true = ap (λ n. v.number == n) same ∙ number_same v.number in
        record {
          level = v;
          above = up;
          down = cond-true (v.number == query_node (v ∷ up)) (v ∷ up) (levels_down up (query_node (v ∷ up))) here;
          query = h.0;
          end = h.1;
          on = cond-true (v.number == query_node (v ∷ up)) true (is_on (way_of up) (query_node (v ∷ up))) here;
          number = sym same;
        }
    pick (inr h) f =
        let k = f h.1 in
        let same : query_node (v ∷ up) ≡ query_node up = other v.kind v.number (query_node up) h.0 in
        let off : (v.number == query_node up) ≡ false = other_number (way_of up) v.number (query_node up) a.0.new k.on
        (v.number == query_node up) refl in
        let all : (v.number == query_node (v ∷ up)) ≡ false = ap (λ n. v.number == n) same ∙ off in
        record {
          level = k.level;
          above = k.above;
          down = cond-false (v.number == query_node (v ∷ up)) (v ∷ up) (levels_down up (query_node (v ∷ up))) all
              ∙ (ap (levels_down up) same ∙ k.down);
          query = k.query;
          end = k.end;
          on = cond-false (v.number == query_node (v ∷ up)) true (is_on (way_of up) (query_node (v ∷ up))) all
              ∙ (ap (is_on (way_of up)) same ∙ k.on);
          number = k.number ∙ sym same;
        }
