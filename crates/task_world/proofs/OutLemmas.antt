-- What is out to a worker is a task or the end of a query.
use Rattle.std.proofs.Common.{◌≡◌, ◌⊎◌, inl, inr, ℕ, ◌==◌, Bool, true, false, cond, List, [], ◌∷◌, Option, Some, None, refl, sym, ap, ◌∙◌, subst}
use Rattle.std.specs.List.{list_all}
use Rattle.std.specs.Prelude.{is_some}
use Rattle.au_term.specs.Term.{Term}
use Rattle.au_term.proofs.LogicLemmas.{false_true}
use Rattle.au_model.specs.Terms.Substitutions.{Substitution}
use Rattle.run_model.specs.Machine.Entries.{Entry, PlainEntry, CatchEntry, FindallEntry, EndEntry}
use Rattle.run_model.specs.Machine.Items.{Continuation, resolve_continuation}
use Rattle.run_model.specs.Programs.Jobs.{Job}
use Rattle.clause_compile.specs.declared.item.Item.{Item as BranchItem}
use Rattle.clause_compile.specs.declared.item.Item.TheVariants.{Goal, CatchEnd, Collect, Remove, End}
use Rattle.tree_model.specs.LegalTrees.{IsLegalTree}
use Rattle.tree_model.specs.Legality.{taken_at}
use Rattle.tree_model.specs.Levels.{Place, plug, Spot, levels_of}
use Rattle.tree_model.specs.Nodes.{Pending}
use Rattle.tree_model.specs.TreeStates.{TreeState}
use Rattle.tree_model.specs.Ways.{IsAwake}
use Rattle.tree_nodes.specs.Bodies.{BodyKind, ChoiceBody, ConditionBody, CatchBody, FindallBody, QueryBody, Branching}
use Rattle.tree_nodes.specs.Rows.{row_of_node}
use Rattle.tree_nodes.specs.TreeTables.{NodesView, IsTableOf}
use Rattle.branch_reading.specs.BranchSegments.{segments_on, bound_by, next_number}
use Rattle.branch_reading.specs.NumberedReadings.{IsEndOn, IsSettledReading, NumberedTreesAreSettled}
use Rattle.branch_reading.specs.Readings.{entry_if, entry_meant, entry_on, guard_meant, continuation_on, or_nothing, reading}
use Rattle.branch_reading.specs.SettledWays.{is_item_settled, is_way_settled, items_on}
use Rattle.branch_shapes.proofs.OutLemmas.{IsOutAt, out_at, awake_at}
use Rattle.task_region.specs.PlacesUp.{items_at_place}
use Rattle.task_region.proofs.AtPlaceLemmas.{items_at}
use Rattle.task_region.specs.TaskLoads.{IsLoadablePlace, PlainEntriesLoad}
use Rattle.task_region.proofs.BranchLoadLemmas.{reads_settled, settled_items}
use Rattle.task_world.specs.OutTasks.{first_end, IsTaskOrEnd, IsOutOf, OutsAreTasksOrEnds}

-- a guard is no end of a query
no_end_guard : (kind : BodyKind) (test : Bool) (s : Substitution) (f : Continuation ℕ) (b : Option Term)
    → EndEntry b ≡ cond test (guard_meant kind s f) (PlainEntry f) → ⊥
no_end_guard kind false s f b e = let wrong : EndEntry b ≡ PlainEntry f = e in cc
no_end_guard ChoiceBody true s f b e = let wrong : EndEntry b ≡ PlainEntry f = e in cc
no_end_guard ConditionBody true s f b e = let wrong : EndEntry b ≡ PlainEntry f = e in cc
no_end_guard (CatchBody catcher recovery) true s f b e = cc e
no_end_guard (FindallBody results list) true s f b e = cc e
no_end_guard QueryBody true s f b e = let wrong : EndEntry b ≡ PlainEntry f = e in cc

no_end_settled : (job : Job) (way : Branching) (b : Option Term) → is_way_settled way ≡ true → EndEntry b ≡ reading job way → ⊥
no_end_settled job [] b settled e = false_true settled
no_end_settled job ((body, i) ∷ way) b settled e =
    let here = (body, i) ∷ way in
    let s = or_nothing (bound_by (segments_on here)) in
    no_end_guard body.kind (i == 1) s (resolve_continuation s (continuation_on job here)) b (e ∙ reads_settled job here settled)

-- the first item of a settled branch is no end
no_first_end : (next : ℕ) (items : List BranchItem) (ball : Option Term) → list_all (is_item_settled next) items ≡ true → first_end items ≡ Some ball → ⊥
no_first_end next [] ball h e = cc e
no_first_end next (Goal t s ∷ items) ball h e = cc e
no_first_end next (CatchEnd s ∷ items) ball h e = cc e
no_first_end next (Collect t s ∷ items) ball h e = cc e
no_first_end next (Remove n ∷ items) ball h e = cc e
no_first_end next (End b ∷ items) ball h e = false_true h

-- the end of a query reads as one
end_read : (job : Job) (way : Branching) (b : Option Term) → items_on way ≡ End b ∷ [] → reading job way ≡ EndEntry b
end_read job [] b e = absurd (cc e)
end_read job ((body, i) ∷ way) b e =
    let here = (body, i) ∷ way in ap (λ items. entry_meant items (entry_if (is_way_settled here) (entry_on job here))) e

same_ball : (way : Branching) (a b : Option Term) → items_on way ≡ End a ∷ [] → first_end (items_on way) ≡ Some b → a ≡ b
same_ball way a b e f = let k : Some a ≡ Some b = sym (ap first_end e) ∙ f in cc

no_ball : (way : Branching) (a : Option Term) → items_on way ≡ End a ∷ [] → first_end (items_on way) ≡ None → ⊥
no_ball way a e f = let k : Some a ≡ None = sym (ap first_end e) ∙ f in cc

module _ (settled : NumberedTreesAreSettled) (load : PlainEntriesLoad) (job : Job) (nodes : NodesView) (w : ℕ) (a : Place) (t : TreeState)
    (placed : IsTableOf nodes (reading job) t.root) (legal : IsLegalTree t) (s : Spot) (taken : taken_at w a t ≡ Some s) where
  there : IsOutAt job nodes t w a s
  there = out_at job nodes t w a s placed taken

  number : IsSettledReading job there.way s.entry
  number = settled job nodes t.root placed legal.numbered s.level s.above s.hold s.entry there.in_tree there.way there.on

  awake : IsAwake s.entry
  awake = (awake_at job nodes t w a s legal there).awake

  -- where no end comes first
  task_there : first_end (items_on there.way) ≡ None → (e : Entry) → s.entry ≡ e → IsAwake e → IsLoadablePlace nodes.rows a
  task_there none (PlainEntry f) is k =
      subst (IsLoadablePlace nodes.rows) there.at
      (load job nodes t.root placed legal.numbered s.level s.above s.hold f (ap (λ x. plug (levels_of s) (Pending s.hold x)) (sym is) ∙ there.in_tree))
  task_there none (CatchEntry c r f) is k = absurd k
  task_there none (FindallEntry rs l f) is k = absurd k
  task_there none (EndEntry b) is k = absurd (by_case number.settled)
    where
      by_case : (is_way_settled there.way ≡ true) ⊎ IsEndOn there.way → ⊥
      by_case (inl h) = no_end_settled job there.way b h (sym is ∙ number.reads)
      by_case (inr end) = no_ball there.way end.0 end.1 none

  -- and where one does
  end_there : (ball : Option Term) → first_end (items_on there.way) ≡ Some ball → s.entry ≡ EndEntry ball
  end_there ball some = by_case number.settled
    where
      by_case : (is_way_settled there.way ≡ true) ⊎ IsEndOn there.way → s.entry ≡ EndEntry ball
      by_case (inl h) = absurd (no_first_end (next_number (segments_on there.way)) (items_on there.way) ball (settled_items there.way h) some)
      by_case (inr end) =
          number.reads ∙ (end_read job there.way end.0 end.1 ∙ ap EndEntry (same_ball there.way end.0 ball end.1 some))

  same_spot : (r : Spot) → taken_at w a t ≡ Some r → r ≡ s
  same_spot r e = let k : Some r ≡ Some s = sym e ∙ taken in cc

  task_or_end : (o : Option (Option Term)) → first_end (items_on there.way) ≡ o → IsTaskOrEnd nodes.rows w a t o
  task_or_end None e = task_there e s.entry refl awake
  task_or_end (Some ball) e = λ r is. ap (λ (x : Spot). x.entry) (same_spot r is) ∙ end_there ball e

  pub out_there : IsOutOf nodes.rows w a t
  out_there = record {
    there = ap (λ (b : Place). is_some (row_of_node nodes.rows b.node)) (sym there.at) ∙ ap is_some there.on.1.1.0;
    is =
        subst (λ (items : List BranchItem). IsTaskOrEnd nodes.rows w a t (first_end items)) (items_at nodes.rows s.level s.above there.way there.on ∙ ap (items_at_place nodes.rows) there.at)
        (task_or_end (first_end (items_on there.way)) refl);
  }

pub outs_are_tasks_or_ends : NumberedTreesAreSettled → PlainEntriesLoad → OutsAreTasksOrEnds
outs_are_tasks_or_ends settled load job nodes w a t placed legal out = by_spot (taken_at w a t) refl out
  where
    by_spot : (o : Option Spot) → taken_at w a t ≡ o → is_some o ≡ true → IsOutOf nodes.rows w a t
    by_spot None e k = absurd (cc k)
    by_spot (Some s) e k = out_there settled load job nodes w a t placed legal s e
