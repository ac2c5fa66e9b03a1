-- Below a settled branch, what is left behind its first goal.
use Rattle.std.proofs.Common.{◌≡◌, ℕ, ◌+◌, ◌≤◌, ◌&&◌, Bool, true, false, List, [], ◌∷◌, Option, Some, None, is_some, slice_get, refl, sym, ap, ap₂, ◌∙◌, subst, arith}
use Rattle.std.specs.List.{list_all}
use Rattle.au_term.proofs.LogicLemmas.{and-left, and-right}
use Rattle.au_model.specs.Terms.MostGeneral.{SameValues}
use Rattle.au_model.specs.Terms.Substitutions.{Substitution}
use Rattle.au_term.specs.declared.segment.Segment.{Segment}
use Rattle.clause_compile.specs.declared.event.Branch.{Branch}
use Rattle.clause_compile.specs.declared.item.Item.{Item as BranchItem}
use Rattle.clause_compile.specs.declared.item.Item.TheVariants.{Goal, CatchEnd, Collect, Remove, End}
use Rattle.run_model.specs.Machine.Entries.{PlainEntry}
use Rattle.run_model.specs.Machine.Items.{resolve_continuation}
use Rattle.run_model.specs.Programs.Jobs.{Job}
use Rattle.tree_nodes.specs.Bodies.{Body, ChoiceBody, Branching}
use Rattle.branch_bindings.proofs.ExtendedUnifierLemmas.{unifiers_are_final}
use Rattle.branch_reading.specs.BranchSegments.{binding_equations, bindings_on, bound_by, next_number, segments_on}
use Rattle.branch_reading.specs.Readings.{or_nothing, reading}
use Rattle.branch_reading.specs.SettledWays.{are_bound_once, are_segments_settled, is_binding_settled, is_branch_settled, is_item_settled, is_way_settled, items_on}
use Rattle.branch_shapes.specs.ExtendedWays.{WayBinds, LeadsOn, BranchLeadsOn}
use Rattle.branch_shapes.proofs.ExtendedWayLemmas.{branches_read_bound}
use Rattle.branch_shapes.proofs.SettledSegmentLemmas.{settled_segments_bind, empty_segments_lead}
use Rattle.branch_shapes.specs.RestBodies.{IsRestBody, RestBodiesRead, items_behind, quiet_segment, rest_continuation}

-- what is settled of a branch
pub segments_settled : (way : Branching) → is_way_settled way ≡ true → are_segments_settled (segments_on way) ≡ true
segments_settled [] h = absurd cc
segments_settled ((b, i) ∷ up) h = and-left (are_segments_settled (segments_on ((b, i) ∷ up))) (is_branch_settled (next_number (segments_on ((b, i) ∷ up))) b.kind i (items_on ((b, i) ∷ up))) h

pub items_settled : (way : Branching) → is_way_settled way ≡ true → list_all (is_item_settled (next_number (segments_on way))) (items_on way) ≡ true
items_settled [] h = absurd cc
items_settled ((b, i) ∷ up) h =
    let whole : Branching = (b, i) ∷ up in
    and-left (list_all (is_item_settled (next_number (segments_on whole))) (items_on whole)) _
    (and-right (are_segments_settled (segments_on whole)) (is_branch_settled (next_number (segments_on whole)) b.kind i (items_on whole)) h)

left_settled : (next : ℕ) (items : List BranchItem) → list_all (is_item_settled next) items ≡ true → list_all (is_item_settled next) (items_behind items) ≡ true
left_settled next [] h = refl
left_settled next (Goal term cut ∷ items) h = and-right (is_item_settled next (Goal term cut)) (list_all (is_item_settled next) items) h
left_settled next (CatchEnd scope ∷ items) h = left_settled next items h
left_settled next (Collect template scope ∷ items) h = and-right (is_item_settled next (Collect template scope)) (list_all (is_item_settled next) items) h
left_settled next (Remove id ∷ items) h = h
left_settled next (End ball ∷ items) h = absurd cc

-- what is bound on it
bound_is_some : (o : Option Substitution) → is_some o ≡ true → SameValues o (Some (or_nothing o))
bound_is_some None h = absurd cc
bound_is_some (Some s) h = λ n. refl

pub bound_there : (way : Branching) → is_way_settled way ≡ true → SameValues (bound_by (segments_on way)) (Some (or_nothing (bound_by (segments_on way))))
bound_there way settled =
    let bs = bindings_on (segments_on way) in
    bound_is_some (bound_by (segments_on way))
    (and-right (are_bound_once bs) _ (and-right (list_all (is_binding_settled (next_number (segments_on way))) bs) _ (segments_settled way settled)))

and_true : (a : Bool) → a ≡ true → (a && true) ≡ true
and_true true h = refl
and_true false h = h

module _ (job : Job) (way : Branching) (s : Substitution) (settled : is_way_settled way ≡ true) (same : SameValues (bound_by (segments_on way)) (Some s)) where
  abbrev next : ℕ
  next = next_number (segments_on way)

  abbrev branch : Branch
  branch = record { goals = items_behind (items_on way); segment = quiet_segment next }

  abbrev made : Body
  made = record { segment = quiet_segment next; branches = branch ∷ []; kind = ChoiceBody }

  binds : WayBinds way s
  binds = settled_segments_bind (segments_on way) s (segments_settled way settled) same

  number : next + 0 ≡ next
  number = omega arith

  lead : LeadsOn s s next (quiet_segment next)
  lead = empty_segments_lead s next (quiet_segment next) (unifiers_are_final (binding_equations (bindings_on (segments_on way))) s same) refl (omega arith)

  leads : BranchLeadsOn s s s next made 0 branch
  leads = record { is = refl; no_query = tt; shared = lead; own = subst (λ n. LeadsOn s s n (quiet_segment next)) (sym number) lead }

  below : is_branch_settled (next + 0) ChoiceBody 0 (items_behind (items_on way)) ≡ true
  below = subst (λ n. is_branch_settled n ChoiceBody 0 (items_behind (items_on way)) ≡ true) (sym number) (and_true _ (left_settled next (items_on way) (items_settled way settled)))

  made_reads : reading job ((made, 0) ∷ way) ≡ PlainEntry (resolve_continuation s (rest_continuation job way))
  made_reads =
      branches_read_bound job s s s way made 0 branch binds leads below
      ∙ ap (λ n. PlainEntry (resolve_continuation s (record (rest_continuation job way) { next = n }))) number

pub rest_bodies_read : RestBodiesRead
rest_bodies_read job way s body settled same h =
    let made : Body = record { segment = quiet_segment (next_number (segments_on way)); branches = record { goals = items_behind (items_on way); segment = quiet_segment (next_number (segments_on way)) } ∷ []; kind = ChoiceBody } in
    let is : body ≡ made = ap₂ (λ sg bs. (let b : Body = record { segment = sg; branches = bs; kind = body.kind } in b)) h.segment h.branches ∙ ap (λ k. record made { kind = k }) h.kind in
    ap (λ b. reading job ((b, 0) ∷ way)) is ∙ made_reads job way s settled same
