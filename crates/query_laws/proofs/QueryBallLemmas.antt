-- Where a ball lands: at the node of the innermost query, or at a node with something to the right.
use Rattle.std.proofs.Common.{◌≡◌, ◌⊎◌, inl, inr, ℕ, suc, ◌<◌, ◌-◌, ◌==◌, Bool, true, false, cond, List, [], ◌∷◌, length, Option, Some, None, refl}
use Rattle.std.proofs.Common.{sym, ap, ◌∙◌, subst, arith}
use Rattle.au_term.specs.Term.{Term}
use Rattle.au_model.specs.Terms.Substitutions.{Substitution}
use Rattle.run_model.specs.Machine.Items.{Continuation}
use Rattle.run_model.specs.Machine.Entries.{Entry, PlainEntry, CatchEntry, FindallEntry, EndEntry}
use Rattle.run_model.specs.Machine.Balls.{taken_by, next_mark, recovered, unwound}
use Rattle.tree_model.specs.Nodes.{Kind, ChoiceNode, CatchNode, FindallNode, QueryNode, Ready, TakenBy, Waiting, Dormant}
use Rattle.tree_model.specs.Nodes.{Alternatives, none, alternative, Status, Pending, Inner, Closed}
use Rattle.tree_model.specs.Levels.{Level, level_node, plug}
use Rattle.tree_model.specs.Floors.{renamed_continuation, height_of, with_heights, right_entry, floor_of, node_of, query_kind, query_node}
use Rattle.tree_model.specs.Gates.{ball_scope}
use Rattle.tree_model.specs.Ways.{is_query}
use Rattle.tree_model.specs.CaughtTrees.{IsLastQuery}
use Rattle.interleaving.proofs.EntryLemmas.{length-floor}
use Rattle.au_term.proofs.LogicLemmas.{true_false, number_same, not_equal}
use Rattle.query_laws.proofs.QueryCountLemmas.{NoRight, no_right}
use Rattle.query_laws.proofs.QueryClosingLemmas.{FallsWithin}

-- the innermost query
query_within : (levels : List Level) → FallsWithin (query_node levels) levels
query_within [] = tt
query_within (v ∷ up) = go v.kind (query_within up)
  where
    go : (kind : Kind) → FallsWithin (query_node up) up
        → ((v.number == query_kind kind v.number (query_node up)) ≡ true)
        ⊎ ((is_query kind ≡ false) × FallsWithin (query_kind kind v.number (query_node up)) up)
    go QueryNode f = inl (number_same v.number)
    go ChoiceNode f = inr (refl, f)
    go CatchNode f = inr (refl, f)
    go FindallNode f = inr (refl, f)

-- a node on the way down with something to the right
abbrev LandsOn : ℕ → List Level → Type 0
LandsOn scope [] = ⊥
LandsOn scope (v ∷ up) = ((v.number ≡ scope) × (v.right ≡ none → ⊥)) ⊎ LandsOn scope up

lands_right : (scope : ℕ) (levels : List Level) → LandsOn scope levels → NoRight levels → ⊥
lands_right scope [] l n = l
lands_right scope (v ∷ up) (inl l) n = l.1 n.0
lands_right scope (v ∷ up) (inr l) n = lands_right scope up l n.1

-- where nothing of a query is to the left of anything
lands_within : (scope : ℕ) (levels : List Level) (status : Status) → IsLastQuery (plug levels status) → LandsOn scope levels
    → FallsWithin scope levels
lands_within scope [] status h l = tt
lands_within scope (v ∷ up) status h (inl l) = inl (ap (λ n. n == scope) l.0 ∙ number_same scope)
lands_within scope (v ∷ up) status h (inr l) = go (is_query v.kind) refl (lands_within scope up (Inner (level_node v status)) h l)
  where
    go : (q : Bool) → is_query v.kind ≡ q → FallsWithin scope up
        → ((v.number == scope) ≡ true) ⊎ ((is_query v.kind ≡ false) × FallsWithin scope up)
    go false e f = inr (e, f)
    go true e f = absurd
        (lands_right scope up l (no_right up (Inner (level_node v status)) (λ z. true_false (sym e ∙ z.0)) h))

-- what a ball leaves of the floor: the end of the query, or what follows a catch, on what is under it
record IsCaught (levels : List Level) (es : List Entry) : Type 0 where
  follows : Continuation ℕ
  under : List Entry
  leaves : es ≡ PlainEntry follows ∷ under
  low : length under < length levels
  lands : LandsOn (node_of levels (suc (length under))) levels

abbrev Lands : List Level → List Entry → Type 0
Lands levels es = ((b : Option Term) × (es ≡ EndEntry b ∷ [])) ⊎ IsCaught levels es

-- further up
lifted : (v : Level) (up : List Level) (es : List Entry) → Lands up es → Lands (v ∷ up) es
lifted v up es (inl e) = inl e
lifted v up es (inr c) = inr (record {
  follows = c.follows;
  under = c.under;
  leaves = c.leaves;
  low = (let l = c.low in omega (arith, l));
  lands = inr
      (subst (λ b. LandsOn (cond b v.number (node_of up (suc (length c.under)))) up)
      (sym (not_equal (suc (length c.under)) (suc (length up)) (let l = c.low in omega (arith, l)))) c.lands);
})

-- at a recovery that sleeps
caught_at : (v : Level) (up : List Level) (f : Continuation ℕ) → (v.right ≡ none → ⊥) → Lands (v ∷ up) (PlainEntry f ∷ floor_of up)
caught_at v up f n = inr (record {
  follows = f;
  under = floor_of up;
  leaves = refl;
  low = (let l = length-floor up in omega (arith, l));
  lands = inl (
    sym (ap (λ n. cond (suc n == suc (length up)) v.number (node_of up (suc n))) (length-floor up)
        ∙ ap (λ b. cond b v.number (node_of up (suc (length up)))) (number_same (suc (length up)))),
    n,
  );
})

lands : (ball : Term) (levels : List Level) (mark : Option ℕ) → Lands levels (unwound ball mark (floor_of levels))
lands ball [] mark = inl (_, refl)
lands ball (v ∷ up) mark = go v.right refl (λ m. lifted v up (unwound ball m (floor_of up)) (lands ball up m))
  where
    some_right : (sp : ℕ) (status : Status) (others : Alternatives) → v.right ≡ alternative sp status others → v.right ≡ none → ⊥
    some_right sp status others e z = let both : alternative sp status others ≡ none = sym e ∙ z in cc

    go : (right : Alternatives) → v.right ≡ right → ((m : Option ℕ) → Lands (v ∷ up) (unwound ball m (floor_of up)))
        → Lands (v ∷ up) (unwound ball mark (with_heights up (right_entry right) ∷ floor_of up))
    go none e further = further mark
    go (alternative sp (Inner node) others) e further = further mark
    go (alternative sp (Closed c) others) e further = further mark
    go (alternative sp (Pending Ready x) others) e further = further mark
    go (alternative sp (Pending (TakenBy w) x) others) e further = further mark
    go (alternative sp (Pending (Waiting g) x) others) e further = further mark
    go (alternative sp (Pending Dormant (PlainEntry f)) others) e further = further mark
    go (alternative sp (Pending Dormant (FindallEntry results l f)) others) e further = further mark
    go (alternative sp (Pending Dormant (EndEntry b)) others) e further = further mark
    go (alternative sp (Pending Dormant (CatchEntry c r f)) others) e further =
        let g : Continuation ℕ = renamed_continuation (height_of up) (λ s. height_of up s - 1) f in
        let m = next_mark mark (length (floor_of up)) g in
        taken (some_right sp (Pending Dormant (CatchEntry c r f)) others e) (taken_by mark (length (floor_of up)) ball c g) g
        (unwound ball m (floor_of up)) (further m)
      where
        taken : (v.right ≡ none → ⊥) → (o : Option Substitution) (g : Continuation ℕ) (es : List Entry) → Lands (v ∷ up) es
            → Lands (v ∷ up) (recovered o ball r g (floor_of up) es)
        taken n (Some o) g es k = caught_at v up _ n
        taken n None g es k = k

-- what a ball leaves is above all nodes below which it falls
pub ball_within : (ball : Term) (levels : List Level) (status : Status) (mark : Option ℕ) → IsLastQuery (plug levels status)
    → FallsWithin (ball_scope levels (unwound ball mark (floor_of levels))) levels
ball_within ball levels status mark h = go (lands ball levels mark)
  where
    go : Lands levels (unwound ball mark (floor_of levels)) → FallsWithin (ball_scope levels (unwound ball mark (floor_of levels))) levels
    go (inl e) = subst (λ es. FallsWithin (ball_scope levels es) levels) (sym e.1) (query_within levels)
    go (inr c) = subst (λ es. FallsWithin (ball_scope levels es) levels) (sym c.leaves)
        (lands_within (node_of levels (suc (length c.under))) levels status h c.lands)
