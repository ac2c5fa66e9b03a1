-- What a region that has taken no inference tells of its alternative: its top entry, with what was deferred in its place.
use Rattle.std.proofs.Common.{◌≡◌, ℕ, ◌-◌, Bool, true, false, cond, List, [], ◌∷◌, ◌++◌, length, map, take, Some, refl, sym, ap, ◌∙◌}
use Rattle.std.specs.Prelude.{nat_lt}
use Rattle.std.proofs.Math.Seq.{take-append_seam}
use Rattle.std.proofs.lemmas.List.{take-map}
use Rattle.au_model.specs.Terms.Substitutions.{Substitution}
use Rattle.run_model.specs.Machine.Entries.{Entry, PlainEntry, CatchEntry, FindallEntry, EndEntry, collected}
use Rattle.run_model.specs.Machine.Items.{Item, GoalItem, CatchMark, CollectMark, RemovalItem, Continuation, resolve_item, resolve_named, with_items, without_marks}
use Rattle.run_model.specs.Programs.Clauses.{Clause}
use Rattle.tree_model.specs.Floors.{floor_of, with_heights}
use Rattle.tree_model.specs.Levels.{Level}
use Rattle.tree_model.specs.PrivateRuns.{own_at_rest, own_free_step, own_free_steps, private_run}
use Rattle.tree_model.specs.Ways.{IsAwake}
use Rattle.region_floor.specs.Deferred.{Deferred, all_deferred, carried_term, deferred_now, joined_continuation, joined_entry}
use Rattle.region_floor.specs.RegionRuns.{RegionRun, run_after}
use Rattle.region_floor.proofs.JoinedLemmas.{bound_now}
use Rattle.region_floor.proofs.RunLemmas.{tops_are_own}
use Rattle.tree_model.specs.Nodes.{Gate}
use Rattle.region_floor.specs.RegionRuns.{StandsAtGate}

-- an awake alternative that comes to a plain entry is one, without its ends of catches
pub record ComesFrom (g : Continuation ℕ) (e : Entry) : Type 0 where
  pub front : Continuation ℕ
  pub plain : e ≡ PlainEntry front
  pub rest : g ≡ with_items (without_marks front.items) front

module _ (floor : List Entry) (g : Continuation ℕ) (es : List Entry) where
  rests : (items : List (Item ℕ)) (f : Continuation ℕ) → own_free_step items f [] floor (own_free_steps floor 0) ≡ PlainEntry g ∷ es → g ≡ with_items items f
  rests [] f h = cc
  rests (GoalItem t n ∷ items) f h = cc
  rests (CatchMark n ∷ items) f h = cc
  rests (RemovalItem n ∷ items) f h = cc
  rests (CollectMark t n ∷ items) f h = by_test (nat_lt n (length floor)) h
    where
      by_test : (b : Bool) → cond b (PlainEntry (with_items (CollectMark t n ∷ items) f) ∷ []) (own_free_steps floor 0 (collected (n - length floor) t [])) ≡ PlainEntry g ∷ es
          → g ≡ with_items (CollectMark t n ∷ items) f
      by_test true k = cc
      by_test false k = absurd cc

  comes_from : (e : Entry) → IsAwake e → own_at_rest floor (e ∷ []) ≡ PlainEntry g ∷ es → ComesFrom g e
  comes_from (PlainEntry f) awake h = record { front = f; plain = refl; rest = rests (without_marks f.items) f h }
  comes_from (CatchEntry c r f) awake h = absurd awake
  comes_from (FindallEntry results l f) awake h = absurd awake
  comes_from (EndEntry b) awake h = absurd cc

heights_awake : (levels : List Level) (e : Entry) → IsAwake e → IsAwake (with_heights levels e)
heights_awake levels (PlainEntry f) awake = tt
heights_awake levels (CatchEntry c r f) awake = absurd awake
heights_awake levels (FindallEntry results l f) awake = absurd awake
heights_awake levels (EndEntry b) awake = tt

-- a run at its start
module _ (clauses : List Clause) (levels : List Level) (e : Entry) (d : Deferred) (stack : List Entry) (gate : Gate)
    (stands : StandsAtGate (record { clauses = clauses; levels = levels; entry = with_heights levels e; deferred = d }) 0 stack gate) (f : Continuation ℕ) (es : List Entry)
    (top : stack ≡ PlainEntry f ∷ es) (awake : IsAwake e) where
  abbrev run : RegionRun
  run = record { clauses = clauses; levels = levels; entry = with_heights levels e; deferred = d }

  run_is : run_after run 0 ≡ Some (own_at_rest (floor_of levels) (with_heights levels e ∷ []))
  unfolding private_run
  run_is = refl

  pub front_told : ComesFrom (joined_continuation d f) (with_heights levels e)
  front_told =
      let own_top = tops_are_own levels stands.own f es (sym stands.entries ∙ top) in
      let both : Some (own_at_rest (floor_of levels) (with_heights levels e ∷ [])) ≡ Some (map (joined_entry d) stands.own) = sym run_is ∙ stands.run in
      let rest : own_at_rest (floor_of levels) (with_heights levels e ∷ []) ≡ map (joined_entry d) stands.own = cc in
      comes_from (floor_of levels) (joined_continuation d f) (map (joined_entry d) own_top.below) (with_heights levels e) (heights_awake levels e awake)
      (rest ∙ ap (map (joined_entry d)) own_top.own_is)

-- the terms that are carried, as they are bound
module _ (start : Continuation ℕ) (s : Substitution) (f : Continuation ℕ)
    (named : f.named ≡ map (resolve_named s) (start.named ++ map carried_term start.items)) where
  pub deferred_is : deferred_now (all_deferred start) f ≡ map (resolve_item s) start.items
  deferred_is = bound_now s start f named

  pub named_is : (joined_continuation (all_deferred start) f).named ≡ map (resolve_named s) start.named
  named_is =
      ap (take (length start.named)) named
      ∙ take-map (resolve_named s) (length start.named) (start.named ++ map carried_term start.items)
      ∙ ap (map (resolve_named s)) (take-append_seam start.named (map carried_term start.items))
