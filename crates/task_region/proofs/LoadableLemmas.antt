-- Pending alternatives with plain entries can be loaded.
use Rattle.std.proofs.Common.{◌≡◌, ◌⊎◌, inl, inr, ℕ, ◌==◌, Bool, true, false, not, cond, List, [], ◌∷◌, None, refl, sym, ap, ◌∙◌, subst}
use Rattle.std.specs.Prelude.{is_some}
use Rattle.au_term.specs.Term.{Term}
use Rattle.au_model.specs.Terms.Substitutions.{Substitution}
use Rattle.run_model.specs.Machine.Entries.{PlainEntry, CatchEntry, FindallEntry, EndEntry}
use Rattle.run_model.specs.Machine.Items.{Continuation, resolve_continuation}
use Rattle.run_model.specs.Programs.Jobs.{Job}
use Rattle.tree_model.specs.Levels.{plug}
use Rattle.tree_model.specs.Nodes.{Pending}
use Rattle.tree_nodes.proofs.AddLemmas.{way_to}
use Rattle.tree_nodes.proofs.PlaceLemmas.{taken_out}
use Rattle.tree_nodes.specs.Bodies.{BodyKind, ChoiceBody, ConditionBody, CatchBody, FindallBody, QueryBody, Branching}
use Rattle.tree_nodes.specs.Rows.{PendingCell}
use Rattle.tree_nodes.specs.TreeTables.{IsTableOf, IsWayTo}
use Rattle.branch_reading.specs.BranchSegments.{segments_on, bound_by}
use Rattle.branch_reading.specs.NumberedReadings.{IsEndOn, NumberedTreesAreSettled}
use Rattle.branch_reading.specs.Readings.{entry_meant, entry_if, entry_on, entry_beside, continuation_on, or_nothing, reading}
use Rattle.branch_reading.specs.SettledWays.{is_way_settled}
use Rattle.task_region.specs.TaskLoads.{is_task_at, CanBeLoaded, PlainEntriesLoad}
use Rattle.task_region.proofs.BranchLoadLemmas.{reads_settled}
use Rattle.task_region.proofs.PlaceUpLemmas.{places_are_levels}

catch_test : (b : Bool) (c r : Term) (f g : Continuation ℕ) → PlainEntry g ≡ cond b (CatchEntry c r f) (PlainEntry f) → not b ≡ true
catch_test true c r f g e = let wrong : PlainEntry g ≡ CatchEntry c r f = e in absurd cc
catch_test false c r f g e = refl

findall_test : (b : Bool) (results : List Term) (l : Term) (f g : Continuation ℕ) → PlainEntry g ≡ cond b (FindallEntry results l f) (PlainEntry f)
    → not b ≡ true
findall_test true results l f g e = let wrong : PlainEntry g ≡ FindallEntry results l f = e in absurd cc
findall_test false results l f g e = refl

task_by : (kind : BodyKind) (i : ℕ) (s : Substitution) (f g : Continuation ℕ) → PlainEntry g ≡ entry_beside kind i s f → is_task_at kind i ≡ true
task_by ChoiceBody i s f g e = refl
task_by ConditionBody i s f g e = refl
task_by (CatchBody catcher recovery) i s f g e = catch_test (i == 1) _ _ f g e
task_by (FindallBody results list) i s f g e = findall_test (i == 1) _ _ f g e
task_by QueryBody i s f g e = refl

task_settled : (job : Job) (way : Branching) (f : Continuation ℕ) → PlainEntry f ≡ reading job way → is_way_settled way ≡ true → CanBeLoaded way
task_settled job [] f e settled = let wrong : PlainEntry f ≡ EndEntry None = e in absurd cc
task_settled job ((b, i) ∷ way) f e settled =
    let s = or_nothing (bound_by (segments_on ((b, i) ∷ way))) in
    record {
      settled = settled;
      task = task_by b.kind i s (resolve_continuation s (continuation_on job ((b, i) ∷ way))) f (e ∙ reads_settled job ((b, i) ∷ way) settled);
    }

no_end : (job : Job) (way : Branching) (f : Continuation ℕ) → PlainEntry f ≡ reading job way → IsEndOn way → CanBeLoaded way
no_end job [] f e end = let wrong : PlainEntry f ≡ EndEntry None = e in absurd cc
no_end job ((b, i) ∷ way) f e end =
    let here = (b, i) ∷ way in
    let wrong : PlainEntry f ≡ EndEntry end.0 = e ∙ ap (λ items. entry_meant items (entry_if (is_way_settled here) (entry_on job here))) end.1 in
    absurd cc

can_be_loaded : (job : Job) (way : Branching) (f : Continuation ℕ) → PlainEntry f ≡ reading job way → (is_way_settled way ≡ true) ⊎ IsEndOn way
    → CanBeLoaded way
can_be_loaded job way f e (inl settled) = task_settled job way f e settled
can_be_loaded job way f e (inr end) = no_end job way f e end

pub plain_entries_load : NumberedTreesAreSettled → PlainEntriesLoad
plain_entries_load known job nodes root stands numbered v up hold f same =
    let here : IsTableOf nodes (reading job) (plug (v ∷ up) (Pending hold (PlainEntry f))) = subst (IsTableOf nodes (reading job)) (sym same) stands in
    let k = taken_out nodes.rows (reading job) (v ∷ up) (Pending hold (PlainEntry f)) here.placed in
    let on : IsWayTo nodes.rows (v ∷ up) k.way = way_to nodes.rows (reading job) (v ∷ up) k.way (PendingCell hold) k.around in
    let read = known job nodes root stands numbered v up hold (PlainEntry f) same k.way on in
    record {
      there = ap is_some on.1.1.0;
      loadable = λ places leads.
          subst CanBeLoaded (sym (places_are_levels nodes (reading job) v up (Pending hold (PlainEntry f)) k.way places here on leads).way_is)
          (can_be_loaded job k.way f read.reads read.settled);
    }
