-- Below a settled branch, a body of one branch that binds nothing.
use Rattle.std.proofs.Common.{◌≡◌, ◌⊎◌, inl, inr, ℕ, zero, suc, ◌+◌, ◌<◌, ◌≤◌, ◌&&◌, Bool, true, false, List, [], ◌∷◌, length, slice_index_or, Option, Some, None, is_some, refl, sym, ap, ◌∙◌, subst, arith}
use Rattle.std.specs.List.{list_all, Contains}
use Rattle.au_term.proofs.LogicLemmas.{and-left, and-right}
use Rattle.au_term.specs.Term.{Term, VarTerm, var_bound}
use Rattle.au_term.specs.declared.segment.Segment.{Segment}
use Rattle.au_model.specs.Terms.MostGeneral.{SameValues}
use Rattle.au_model.specs.Terms.Substitutions.{Substitution, value_of}
use Rattle.au_model.specs.Terms.Unifier.{Equations, equations_bound}
use Rattle.clause_compile.specs.declared.event.Branch.{Branch}
use Rattle.clause_compile.specs.declared.item.Item.{Item as BranchItem}
use Rattle.run_model.specs.Machine.Entries.{PlainEntry}
use Rattle.run_model.specs.Machine.Items.{resolve_continuation}
use Rattle.run_model.specs.Programs.Jobs.{Job}
use Rattle.tree_nodes.specs.Bodies.{ChoiceBody, Branching}
use Rattle.branch_bindings.specs.BindingEquations.{HasBinding}
use Rattle.branch_bindings.specs.ExtensionLaws.{IsFinal}
use Rattle.branch_bindings.proofs.ExtendedUnifierLemmas.{unifiers_are_final}
use Rattle.branch_bindings.proofs.SettledBindingLemmas.{settled_are_unified}
use Rattle.branch_reading.specs.BranchSegments.{binding_equations, bindings_on, bound_by, next_number, segments_on}
use Rattle.branch_reading.specs.Readings.{items_meant, named_of, or_nothing, query_on, reading}
use Rattle.branch_reading.specs.SettledWays.{are_bound_once, are_segments_settled, is_binding_settled, is_branch_settled, is_item_settled, is_way_settled, items_on}
use Rattle.branch_shapes.specs.ExtendedWays.{WayBinds, BranchLeadsOn, SettledSegmentsBind, EmptySegmentsLead, BranchesReadBound}
use Rattle.task_stops.specs.WokenBodies.{quiet_body}
use Rattle.branch_shapes.proofs.RestReadingLemmas.{segments_settled}
use Rattle.branch_shapes.proofs.RestReadingLemmas.{bound_there}
use Rattle.task_publishing.proofs.SpotLemmas.{below_all}

-- laws of branches
pub record BranchLaws : Type 0 where
  pub bind : SettledSegmentsBind
  pub empty : EmptySegmentsLead
  pub read : BranchesReadBound

and_one : (a : Bool) → a ≡ true → (a && true) ≡ true
and_one true h = refl
and_one false h = h

bound_is : (o : Option Substitution) → is_some o ≡ true → SameValues o (Some (or_nothing o))
bound_is None h = absurd (cc h)
bound_is (Some s) h = λ n. refl

module _ (laws : BranchLaws) (way : Branching) (settled : is_way_settled way ≡ true) where
  abbrev pub bound_on : Substitution
  bound_on = or_nothing (bound_by (segments_on way))

  pub way_binds : WayBinds way bound_on
  way_binds = laws.bind (segments_on way) bound_on (segments_settled way settled) (bound_there way settled)

  final : IsFinal bound_on
  final = unifiers_are_final (binding_equations (bindings_on (segments_on way))) bound_on (bound_there way settled)

  -- what is bound on it leaves the numbers from its next one on
  pub free_from_next : (n : ℕ) → next_number (segments_on way) ≤ n → value_of bound_on n ≡ VarTerm n
  free_from_next n le =
      let u = settled_are_unified (next_number (segments_on way)) (binding_equations (bindings_on (segments_on way))) bound_on way_binds in
      by_case (u.free_or_bound n)
    where
      by_case : (value_of bound_on n ≡ VarTerm n) ⊎ HasBinding (binding_equations (bindings_on (segments_on way))) n → value_of bound_on n ≡ VarTerm n
      by_case (inl h) = h
      by_case (inr b) =
          let lt : n < equations_bound (binding_equations (bindings_on (segments_on way))) = below_all (binding_equations (bindings_on (segments_on way))) n b.value b.is in
          let most : equations_bound (binding_equations (bindings_on (segments_on way))) ≤ next_number (segments_on way) = way_binds.below in
          absurd (omega (arith, lt, most, le))

  module _ (job : Job) (goals : List BranchItem) (after : ℕ) (more : next_number (segments_on way) ≤ after) (below : list_all (is_item_settled after) goals ≡ true) where
    abbrev next : ℕ
    next = next_number (segments_on way)

    abbrev quiet : ℕ → Segment
    quiet n = record { base = n; vars = 0; bindings = [] }

    abbrev branch : Branch
    branch = record { goals = goals; segment = quiet after }

    number : after + 0 ≡ after
    number = omega arith

    leads : BranchLeadsOn bound_on bound_on bound_on next (quiet_body next goals after) 0 branch
    leads = record {
      is = refl;
      no_query = tt;
      shared = laws.empty bound_on next (quiet next) final refl (omega arith);
      own = laws.empty bound_on (next + 0) (quiet after) final refl (omega (arith, more));
    }

    branch_below : is_branch_settled (after + 0) ChoiceBody 0 goals ≡ true
    branch_below = subst (λ n. is_branch_settled n ChoiceBody 0 goals ≡ true) (sym number) (and_one _ below)

    pub quiet_reads : reading job ((quiet_body next goals after, 0) ∷ way)
        ≡ PlainEntry (resolve_continuation bound_on (record { items = items_meant goals; named = named_of (query_on job way); next = after }))
    quiet_reads =
        laws.read job bound_on bound_on bound_on way (quiet_body next goals after) 0 branch way_binds leads branch_below
        ∙ ap (λ n. PlainEntry (resolve_continuation bound_on (record { items = items_meant goals; named = named_of (query_on job way); next = n }))) number
