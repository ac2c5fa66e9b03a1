-- The catches that a ball may meet are below the innermost query.
use Rattle.std.proofs.Common.{◌≡◌, ◌⊎◌, inr, ℕ, suc, ◌-◌, ◌≤◌, ◌==◌, Bool, true, false, cond, List, [], ◌∷◌, length, Option, Some, None}
use Rattle.std.proofs.Common.{refl, sym, ap, ◌∙◌, subst, arith}
use Rattle.std.specs.Prelude.{◌&&◌}
use Rattle.run_model.specs.Machine.Items.{Item, GoalItem, CatchMark, CollectMark, RemovalItem, first_mark}
use Rattle.tree_model.specs.Nodes.{Kind, ChoiceNode, CatchNode, FindallNode, QueryNode}
use Rattle.tree_model.specs.Levels.{Level}
use Rattle.tree_model.specs.Floors.{height_of, node_of}
use Rattle.tree_model.specs.PendingLists.{Way, way_of}
use Rattle.tree_model.specs.Ways.{is_on, same_kind, stops_cuts, is_barrier, in_reach, through, way_from, way_above, AreScoped, is_query}
use Rattle.tree_model.specs.Ways.{under_query}
use Rattle.interleaving.proofs.WayLemmas.{cond-false, cond-same, through-on}
use Rattle.interleaving.proofs.RoundtripLemmas.{by_heights, node_height, height_positive, height_low, IsPart, part_from, part_above}
use Rattle.au_term.proofs.LogicLemmas.{and-right}

-- whether a node is on a way with no query's node at or below it
abbrev pub no_query_to : Way → ℕ → Bool
no_query_to [] s = false
no_query_to (a ∷ way) s = cond (is_query a.kind) false (cond (a.node == s) true (no_query_to way s))

-- a step of a branch under a query that is no barrier is no query's
no_barrier_no_query : (i : ℕ) (k : Kind) (rest : Bool) → cond (is_query k) (i == 0) rest ≡ true → ((i == 0) && stops_cuts k) ≡ false
    → is_query k ≡ false
no_barrier_no_query i ChoiceNode rest h b = refl
no_barrier_no_query i CatchNode rest h b = refl
no_barrier_no_query i FindallNode rest h b = refl
no_barrier_no_query i QueryNode rest h b = go (i == 0) h b
  where
    go : (c : Bool) → c ≡ true → (c && true) ≡ false → true ≡ false
    go true h b = b
    go false h b = let no_way : ⊥ = cc in absurd no_way

pub under_rest : (k : Kind) (c rest : Bool) → is_query k ≡ false → cond (is_query k) c rest ≡ true → rest ≡ true
under_rest k c rest q h = sym (cond-false (is_query k) c rest q) ∙ h

pub kind_no_query : (k kind : Kind) → is_query kind ≡ false → same_kind k kind ≡ true → is_query k ≡ false
kind_no_query ChoiceNode kind q h = refl
kind_no_query CatchNode kind q h = refl
kind_no_query FindallNode kind q h = refl
kind_no_query QueryNode QueryNode q h = q
kind_no_query QueryNode ChoiceNode q h = let no_way : ⊥ = cc in absurd no_way
kind_no_query QueryNode CatchNode q h = let no_way : ⊥ = cc in absurd no_way
kind_no_query QueryNode FindallNode q h = let no_way : ⊥ = cc in absurd no_way

through_no_query : (kind : Kind) (way : Way) (s : ℕ) → is_query kind ≡ false → under_query way ≡ true → through kind way s ≡ true
    → no_query_to way s ≡ true
through_no_query kind [] s q u h = h
through_no_query kind (a ∷ way) s q u h = go (a.node == s) (is_barrier a) refl (through_no_query kind way s q) h
  where
    go : (b c : Bool) → is_barrier a ≡ c → (under_query way ≡ true → through kind way s ≡ true → no_query_to way s ≡ true)
        → cond b ((a.index == 0) && same_kind a.kind kind) (cond c false (through kind way s)) ≡ true
        → cond (is_query a.kind) false (cond b true (no_query_to way s)) ≡ true
    go true c e f k = cond-false (is_query a.kind) false true
        (kind_no_query a.kind kind q (and-right (a.index == 0) (same_kind a.kind kind) k))
    go false false e f k = let n = no_barrier_no_query a.index a.kind (under_query way) u e in cond-false (is_query a.kind) false
        (no_query_to way s) n ∙ f (under_rest a.kind (a.index == 0) (under_query way) n u) k
    go false true e f k = let no_way : ⊥ = cc in absurd no_way

-- upper parts of a way
record IsUpper (part way : Way) : Type 0 where
  asked : under_query part ≡ true
  sub : (r : ℕ) → no_query_to part r ≡ true → no_query_to way r ≡ true

upper_from : (way : Way) (s : ℕ) → under_query way ≡ true → in_reach way s ≡ true → IsUpper (way_from way s) way
upper_from [] s u h = let no_way : ⊥ = cc in absurd no_way
upper_from (a ∷ way) s u h = go (a.node == s) (is_barrier a) refl (upper_from way s) h
  where
    go : (b c : Bool) → is_barrier a ≡ c → (under_query way ≡ true → in_reach way s ≡ true → IsUpper (way_from way s) way)
        → cond b true (cond c false (in_reach way s)) ≡ true → IsUpper (cond b (a ∷ way) (way_from way s)) (a ∷ way)
    go true c e f k = record { asked = u; sub = λ r j. j }
    go false false e f k =
        let n = no_barrier_no_query a.index a.kind (under_query way) u e in
        let g = f (under_rest a.kind (a.index == 0) (under_query way) n u) k in
        record {
          asked = g.asked;
          sub = λ r j. cond-false (is_query a.kind) false _ n ∙ cond-same (a.node == r) true (no_query_to way r)
              (g.sub r j);
        }
    go false true e f k = let no_way : ⊥ = cc in absurd no_way

upper_above : (kind : Kind) (way : Way) (s : ℕ) → is_query kind ≡ false → under_query way ≡ true → through kind way s ≡ true
    → IsUpper (way_above way s) way
upper_above kind [] s q u h = let no_way : ⊥ = cc in absurd no_way
upper_above kind (a ∷ way) s q u h = go (a.node == s) (is_barrier a) refl (upper_above kind way s q) h
  where
    go : (b c : Bool) → is_barrier a ≡ c → (under_query way ≡ true → through kind way s ≡ true → IsUpper (way_above way s) way)
        → cond b ((a.index == 0) && same_kind a.kind kind) (cond c false (through kind way s)) ≡ true
        → IsUpper (cond b way (way_above way s)) (a ∷ way)
    go true c e f k =
        let n = kind_no_query a.kind kind q (and-right (a.index == 0) (same_kind a.kind kind) k) in
        record {
          asked = under_rest a.kind (a.index == 0) (under_query way) n u;
          sub = λ r j. cond-false (is_query a.kind) false _ n
              ∙ cond-same (a.node == r) true (no_query_to way r) j;
        }
    go false false e f k =
        let n = no_barrier_no_query a.index a.kind (under_query way) u e in
        let g = f (under_rest a.kind (a.index == 0) (under_query way) n u) k in
        record {
          asked = g.asked;
          sub = λ r j. cond-false (is_query a.kind) false _ n ∙ cond-same (a.node == r) true (no_query_to way r)
              (g.sub r j);
        }
    go false true e f k = let no_way : ⊥ = cc in absurd no_way

-- a mark that a ball looks for: none, one below which the floor ends, or that of a node with no query's below it
abbrev pub IsMarkOn : (ℕ → ℕ) → List Level → Option ℕ → Type 0
IsMarkOn node levels None = Unit {0}
IsMarkOn node levels (Some m) = (length levels ≤ m) ⊎ ((suc m ≤ length levels) × (no_query_to (way_of levels) (node (suc m)) ≡ true))

-- the first mark of items that look up a way
pub first_mark_on : (levels : List Level) (way : Way) (items : List (Item ℕ)) → IsPart way (way_of levels) → under_query way ≡ true
    → ((r : ℕ) → no_query_to way r ≡ true → no_query_to (way_of levels) r ≡ true) → AreScoped way items →
    IsMarkOn (node_of levels) levels (first_mark (by_heights levels items))
first_mark_on levels way [] p u f h = tt
first_mark_on levels way (GoalItem t s ∷ items) p u f h =
    let g = upper_from way s u h.0 in
    first_mark_on levels (way_from way s) items (λ r k. p r (part_from way s r k)) g.asked (λ r k. f r (g.sub r k)) h.1
first_mark_on levels way (CatchMark s ∷ items) p u f h =
    let on : is_on (way_of levels) s ≡ true = p s (through-on CatchNode way s h.0) in
    let up : suc (height_of levels s - 1) ≡ height_of levels s = height_positive levels s on in
    let back : node_of levels (suc (height_of levels s - 1)) ≡ s = ap (node_of levels) up ∙ node_height levels s on in
    inr (
      omega (arith, up, height_low levels s),
      subst (λ n. no_query_to (way_of levels) n ≡ true) (sym back)
          (f s (through_no_query CatchNode way s refl u h.0)),
    )
first_mark_on levels way (CollectMark t s ∷ items) p u f h =
    let g = upper_above FindallNode way s refl u h.0 in
    first_mark_on levels (way_above way s) items (λ r k. p r (part_above way s r k)) g.asked (λ r k. f r (g.sub r k)) h.1
first_mark_on levels way (RemovalItem number ∷ items) p u f h = first_mark_on levels way items p u f h
