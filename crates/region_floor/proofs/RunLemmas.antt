-- The private run, from its start and by one inference after another.
use Rattle.std.proofs.Common.{◌≡◌, ℕ, zero, suc, ◌+◌, List, [], ◌∷◌, length, Some, None, refl, sym, ap, ◌∙◌, subst}
use Rattle.std.proofs.lemmas.List.{length-append}
use Rattle.run_model.specs.Programs.Clauses.{Clause}
use Rattle.run_model.specs.Machine.Items.{Continuation, resolve_continuation}
use Rattle.run_model.specs.Machine.Entries.{Entry, PlainEntry, EndEntry}
use Rattle.tree_model.specs.Levels.{Level}
use Rattle.tree_model.specs.Floors.{floor_of}
use Rattle.tree_model.specs.PrivateRuns.{own_at_rest, one_more, if_any, private_run}
use Rattle.region_floor.specs.Deferred.{joined_continuation, all_deferred, deferring}
use Rattle.region_floor.specs.BareFloors.{bare_floor, IsOwnEntry}
use Rattle.region_floor.specs.RunLaws.{RunStarts, GoalsRest, RunGoesOn, TopsAreOwn, EndsAreBare, NothingIsBare, OwnAreOver, OwnAreCounted}
use Rattle.region_floor.proofs.FloorSizeLemmas.{bare-size, part-over}
use Rattle.region_floor.proofs.JoinedLemmas.{joined-resolved, all_is_left}

pub run_starts : RunStarts
unfolding private_run
run_starts clauses levels s f =
    let same : resolve_continuation s f ≡ joined_continuation (all_deferred f) (resolve_continuation s (deferring f)) =
    ap (resolve_continuation s) (sym (all_is_left f)) ∙ joined-resolved s (all_deferred f) (deferring f) in
    ap (λ c. Some (own_at_rest (floor_of levels) (PlainEntry c ∷ []))) same

pub goals_rest : GoalsRest
goals_rest d levels t = refl

pub run_goes_on : RunGoesOn
unfolding private_run
run_goes_on clauses d levels e k t stack h i = ap (λ o. if_any o (one_more clauses levels)) h ∙ i.inferred

-- where there is no next inference
pub run_ends : (clauses : List Clause) (levels : List Level) (e : Entry) (k : ℕ) (left : List Entry) → private_run clauses levels e k ≡ Some left
    → one_more clauses levels left ≡ None → private_run clauses levels e (suc k) ≡ None
unfolding private_run
run_ends clauses levels e k left h n = ap (λ o. if_any o (one_more clauses levels)) h ∙ n

-- no plain entry is one of a bare floor
no_top : (n : ℕ) (f : Continuation ℕ) (es : List Entry) → bare_floor n ≡ PlainEntry f ∷ es → ⊥
no_top zero f es e = cc
no_top (suc n) f es e = cc

pub tops_are_own : TopsAreOwn
tops_are_own levels [] f es e = absurd (no_top (length levels) f es e)
tops_are_own levels (x ∷ own) f es e = record { below = own; own_is = cc; entries = cc }

pub ends_are_bare : EndsAreBare
ends_are_bare levels [] b es o e = refl
ends_are_bare levels (x ∷ own) b es o e = let end : x ≡ EndEntry b = cc in absurd (subst (IsOwnEntry (length levels)) end o.0)

pub nothing_is_bare : NothingIsBare
nothing_is_bare levels [] e = refl
nothing_is_bare levels (x ∷ own) e = absurd cc

pub own_are_over : OwnAreOver
own_are_over levels own = part-over own (bare_floor (length levels))

pub own_are_counted : OwnAreCounted
own_are_counted levels own = length-append own (bare_floor (length levels)) ∙ ap (λ n. length own + n) (bare-size (length levels))
