-- The private run of an alternative, over the way of its floor by heights.
use Rattle.std.proofs.Common.{◌≡◌, ℕ, zero, suc, ◌-◌, ◌≤◌, ◌==◌, Bool, true, false, cond, List, [], ◌∷◌, ◌++◌, map, length, Option, Some}
use Rattle.std.proofs.Common.{None, refl, sym, ap, ◌∙◌, subst, arith}
use Rattle.std.specs.Prelude.{nat_lt}
use Rattle.run_model.specs.Programs.Clauses.{Clause}
use Rattle.run_model.specs.Machine.Items.{Item, GoalItem, CatchMark, CollectMark, RemovalItem, Continuation, without_marks}
use Rattle.run_model.specs.Machine.Entries.{Entry, PlainEntry, CatchEntry, FindallEntry, EndEntry, collected}
use Rattle.tree_model.specs.Nodes.{CatchNode, FindallNode}
use Rattle.tree_model.specs.Levels.{Level}
use Rattle.tree_model.specs.Floors.{renamed_item, height_of, with_heights, floor_of}
use Rattle.tree_model.specs.PrivateRuns.{own_free_step, own_free_steps, own_at_rest, own_part, own_after, if_no_gate, if_any, one_more}
use Rattle.tree_model.specs.PrivateRuns.{taken_alone, private_run}
use Rattle.tree_model.specs.Gates.{gate_on}
use Rattle.tree_model.specs.PendingLists.{Step, Way, way_of, step_of}
use Rattle.tree_model.specs.Ways.{is_on, way_from, way_above, AreScoped, is_query, under_query, IsOnWay, IsAwake}
use Rattle.interleaving.proofs.WayLemmas.{cond-true, cond-false, through-on, other_number}
use Rattle.interleaving.proofs.RoundtripLemmas.{by_heights, height_positive, IsPart, part_from, part_above, IsPath}
use Rattle.interleaving.proofs.EntryLemmas.{length-floor, own_height}
use Rattle.interleaving.proofs.BallLemmas.{NamesFloor, names-above}
use Rattle.interleaving.proofs.CollapseLemmas.{Collapses, nothing, kept, path-from, path-above, reach_preserved, through_preserved}
use Rattle.interleaving.proofs.CollapseLemmas.{as_scopes}
use Rattle.interleaving.proofs.StackLemmas.{IsCounted, counted_path, IsOver, AreOver}
use Rattle.interleaving.proofs.PrivateSoundLemmas.{IsFloor}
use Rattle.interleaving.proofs.PrivateStepSoundLemmas.{free_steps_over, one_more_over}
use Rattle.run_model.proofs.FreeStepLemmas.{length-collected}
use Rattle.au_term.proofs.LogicLemmas.{number_same}

-- a floor's way, by heights
abbrev pub height_step : Level → ℕ → Step
height_step v n = record { node = suc n; index = length v.left; kind = v.kind }

abbrev pub height_way : List Level → Way
height_way [] = []
height_way (v ∷ up) = height_step v (length up) ∷ height_way up

pub length-heights : (levels : List Level) → length (height_way levels) ≡ length levels
length-heights [] = refl
length-heights (v ∷ up) = ap suc (length-heights up)

counted_heights : (levels : List Level) → IsCounted (height_way levels)
counted_heights [] = tt
counted_heights (v ∷ up) = (ap suc (sym (length-heights up)), counted_heights up)

pub floor_way : (levels : List Level) → IsFloor (height_way levels) (floor_of levels)
floor_way levels = record { counted = counted_heights levels; length_same = length-floor levels ∙ sym (length-heights levels) }

-- from heights to nodes, and back
pub heights_to_nodes : (name : ℕ → ℕ) (seen : ℕ → Bool) (levels : List Level) → NamesFloor name levels
    → Collapses name seen (height_way levels) (way_of levels)
heights_to_nodes name seen [] a = nothing
heights_to_nodes name seen (v ∷ up) a =
    kept (height_step v (length up)) (step_of v) (height_way up) (way_of up) (a (suc (length up)) (omega arith) ∙ own_height v up) refl
    refl (heights_to_nodes name seen up (names-above name v up a))

nodes_to_heights : (name : ℕ → ℕ) (seen : ℕ → Bool) (levels : List Level) → IsPath (way_of levels)
    → ((s : ℕ) → is_on (way_of levels) s ≡ true → name s ≡ height_of levels s) → Collapses name seen (way_of levels) (height_way levels)
nodes_to_heights name seen [] p a = nothing
nodes_to_heights name seen (v ∷ up) p a =
    let self = number_same v.number in
    let here : name v.number ≡ suc (length up) = a v.number (cond-true (v.number == v.number) true _ self)
    ∙ cond-true (v.number == v.number) (suc (length up)) (height_of up v.number) self in
    kept (step_of v) (height_step v (length up)) (way_of up) (height_way up) here refl refl (nodes_to_heights name seen up p.1 (λ s o.
    let off : (v.number == s) ≡ false = other_number (way_of up) v.number s p.0 o (v.number == s) refl in
    a s (cond-false (v.number == s) true (is_on (way_of up) s) off ∙ o) ∙ cond-false (v.number == s) (suc (length up)) (height_of up s)
    off))

-- items under other names
named_preserved : (name : ℕ → ℕ) (u w : Way) (items : List (Item ℕ)) → Collapses name (λ n. true) u w → IsPath w → AreScoped u items
    → AreScoped w (map (renamed_item name name) items)
named_preserved name u w [] c p h = tt
named_preserved name u w (GoalItem t s ∷ items) c p h =
    let r = reach_preserved name (λ n. true) u w s c p refl h.0 in
    (r.reach, named_preserved name (way_from u s) (way_from w (name s)) items r.rest (path-from w (name s) p) h.1)
named_preserved name u w (CatchMark s ∷ items) c p h =
    let r = through_preserved CatchNode refl name (λ n. true) u w s c p h.0 in
    (r.reach, named_preserved name (way_above u s) (way_above w (name s)) items r.rest (path-above w (name s) p) h.1)
named_preserved name u w (CollectMark t s ∷ items) c p h =
    let r = through_preserved FindallNode refl name (λ n. true) u w s c p h.0 in
    (r.reach, named_preserved name (way_above u s) (way_above w (name s)) items r.rest (path-above w (name s) p) h.1)
named_preserved name u w (RemovalItem number ∷ items) c p h = named_preserved name u w items c p h

heights_named : (levels : List Level) (way : Way) (items : List (Item ℕ)) → IsPart way (way_of levels) → AreScoped way items
    → map (renamed_item (height_of levels) (height_of levels)) items ≡ as_scopes (by_heights levels items)
heights_named levels way [] p h = refl
heights_named levels way (GoalItem t s ∷ items) p h = ap (λ is. GoalItem t (height_of levels s) ∷ is)
    (heights_named levels (way_from way s) items (λ r k. p r (part_from way s r k)) h.1)
heights_named levels way (CatchMark s ∷ items) p h =
    let rest = heights_named levels (way_above way s) items (λ r k. p r (part_above way s r k)) h.1 in
    let here : height_of levels s ≡ suc (height_of levels s - 1) = sym (height_positive levels s (p s (through-on CatchNode way s h.0))) in
    ap (λ is. CatchMark (height_of levels s) ∷ is) rest ∙ ap (λ n. CatchMark n ∷ as_scopes (by_heights levels items)) here
heights_named levels way (CollectMark t s ∷ items) p h =
    let rest = heights_named levels (way_above way s) items (λ r k. p r (part_above way s r k)) h.1 in
    let here : height_of levels s ≡ suc (height_of levels s - 1) = sym
    (height_positive levels s (p s (through-on FindallNode way s h.0))) in
    ap (λ is. CollectMark t (height_of levels s) ∷ is) rest ∙ ap (λ n. CollectMark t n ∷ as_scopes (by_heights levels items)) here
heights_named levels way (RemovalItem number ∷ items) p h = ap (λ is. RemovalItem number ∷ is) (heights_named levels way items p h)

heights_asked : (levels : List Level) → under_query (way_of levels) ≡ under_query (height_way levels)
heights_asked [] = refl
heights_asked (v ∷ up) = ap (λ b. cond (is_query v.kind) (length v.left == 0) b) (heights_asked up)

-- an entry with goals
abbrev pub IsPlain : Entry → Type 0
IsPlain (PlainEntry f) = Unit {0}
IsPlain (CatchEntry c r f) = ⊥
IsPlain (FindallEntry results l f) = ⊥
IsPlain (EndEntry b) = ⊥

over_floor : (levels : List Level) (e : Entry) → IsPath (way_of levels) → IsPlain e → IsOnWay (way_of levels) e
    → IsOver (height_way levels) (with_heights levels e)
over_floor levels (PlainEntry f) p a h =
    let w = height_way levels in
    let c = nodes_to_heights (height_of levels) (λ n. true) levels p (λ s o. refl) in
    record {
      asked = sym (heights_asked levels) ∙ h.asked;
      scoped = subst (AreScoped w) (heights_named levels (way_of levels) f.items (λ r k. k) h.scoped)
          (named_preserved (height_of levels) (way_of levels) w f.items c (counted_path w (counted_heights levels)) h.scoped);
    }
over_floor levels (EndEntry b) p a h = absurd a
over_floor levels (CatchEntry c r f) p a h = absurd a
over_floor levels (FindallEntry results l f) p a h = absurd a

-- the top of own entries without free steps
abbrev pub IsAwakeTop : List Entry → Type 0
IsAwakeTop [] = Unit {0}
IsAwakeTop (e ∷ es) = IsAwake e

plain_step_awake : (floor es : List Entry) (items : List (Item ℕ)) (f : Continuation ℕ) (go : List Entry → List Entry)
    → ((ds : List Entry) → length ds ≡ length es → IsAwakeTop (go ds)) → IsAwakeTop (own_free_step items f es floor go)
plain_step_awake floor es [] f go g = tt
plain_step_awake floor es (GoalItem t h ∷ items) f go g = tt
plain_step_awake floor es (CatchMark h ∷ items) f go g = tt
plain_step_awake floor es (RemovalItem number ∷ items) f go g = tt
plain_step_awake floor es (CollectMark t h ∷ items) f go g = pick (nat_lt h (length floor))
  where
    pick : (b : Bool) → IsAwakeTop (cond b
        (PlainEntry (record { items = CollectMark t h ∷ items; named = f.named; next = f.next }) ∷ es)
        (go (collected (h - length floor) t es)))
    pick true = tt
    pick false = g (collected (h - length floor) t es) (length-collected (h - length floor) t es)

free_steps_awake : (floor : List Entry) (k : ℕ) (es : List Entry) → length es ≤ k → IsAwakeTop (own_free_steps floor k es)
free_steps_awake floor zero [] l = tt
free_steps_awake floor zero (e ∷ es) l = let no_way : ⊥ = omega arith in absurd no_way
free_steps_awake floor (suc k) [] l = tt
free_steps_awake floor (suc k) (CatchEntry x r f ∷ es) l = free_steps_awake floor k es (omega arith)
free_steps_awake floor (suc k) (FindallEntry results x f ∷ es) l = tt
free_steps_awake floor (suc k) (PlainEntry f ∷ es) l = plain_step_awake floor es (without_marks f.items) f (own_free_steps floor k)
    (λ ds e. free_steps_awake floor k ds (omega (arith, e)))
free_steps_awake floor (suc k) (EndEntry b ∷ es) l = tt

pub record IsRun (levels : List Level) (es : List Entry) : Type 0 where
  pub over : AreOver (height_way levels) es
  pub awake : IsAwakeTop es

after_awake : (floor : List Entry) (o : Option (List Entry)) (ds : List Entry) → own_after floor o ≡ Some ds → IsAwakeTop ds
after_awake floor None ds e = let no_way : ⊥ = cc in absurd no_way
after_awake floor (Some es) ds e = subst IsAwakeTop (some_same e)
    (free_steps_awake floor (length (own_part floor es)) (own_part floor es) (omega arith))
  where
    some_same : {a b : List Entry} → Some a ≡ Some b → a ≡ b
    some_same h = cc

more_awake : (clauses : List Clause) (levels : List Level) (es ds : List Entry) → one_more clauses levels es ≡ Some ds → IsAwakeTop ds
more_awake clauses levels [] ds e = let no_way : ⊥ = cc in absurd no_way
more_awake clauses levels (x ∷ es) ds e = after_awake (floor_of levels)
    (if_no_gate (gate_on clauses levels ((x ∷ es) ++ floor_of levels)) (taken_alone clauses ((x ∷ es) ++ floor_of levels))) ds e

pub run_sound : (clauses : List Clause) (levels : List Level) (e : Entry) (k : ℕ) (es : List Entry) → IsPath (way_of levels) → IsPlain e
    → IsOnWay (way_of levels) e → private_run clauses levels (with_heights levels e) k ≡ Some es → IsRun levels es
unfolding private_run
run_sound clauses levels e zero es p a o h =
    let first : AreOver (height_way levels) (with_heights levels e ∷ []) = (over_floor levels e p a o, tt) in
    let same : own_at_rest (floor_of levels) (with_heights levels e ∷ []) ≡ es = some_same h in
    record {
      over = subst (AreOver (height_way levels)) same
          (free_steps_over (height_way levels) (floor_of levels) (floor_way levels) 1 (with_heights levels e ∷ []) first);
      awake = subst IsAwakeTop same (free_steps_awake (floor_of levels) 1 (with_heights levels e ∷ []) (omega arith));
    }
  where
    some_same : {a b : List Entry} → Some a ≡ Some b → a ≡ b
    some_same h = cc
run_sound clauses levels e (suc k) es p a o h = go (private_run clauses levels (with_heights levels e) k) refl
    (λ ds j. run_sound clauses levels e k ds p a o j) h
  where
    go : (r : Option (List Entry)) → private_run clauses levels (with_heights levels e) k ≡ r
        → ((ds : List Entry) → private_run clauses levels (with_heights levels e) k ≡ Some ds → IsRun levels ds)
        → if_any r (one_more clauses levels) ≡ Some es → IsRun levels es
    go None j f z = let no_way : ⊥ = cc in absurd no_way
    go (Some ds) j f z =
        let before = f ds j in
        record {
          over = one_more_over clauses levels (height_way levels) ds es (floor_way levels) before.over z;
          awake = more_awake
              clauses levels ds es z;
        }
