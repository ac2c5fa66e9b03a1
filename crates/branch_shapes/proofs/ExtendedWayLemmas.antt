-- Branches whose segments lead on from what is bound above them.
use Rattle.std.proofs.Common.{◌≡◌, ℕ, ◌==◌, true, cond, List, [], ◌∷◌, ◌++◌, map, Option, Some, None, refl, sym, ap, ap₂, ◌∙◌, subst}
use Rattle.std.specs.List.{list_all}
use Rattle.std.specs.Prelude.{slice_get}
use Rattle.au_term.proofs.LogicLemmas.{and-left, and-both}
use Rattle.au_term.specs.Term.{Term}
use Rattle.au_term.specs.declared.segment.Segment.{Segment}
use Rattle.au_model.specs.Terms.Named.{NamedTerm}
use Rattle.au_model.specs.Terms.MostGeneral.{SameValues}
use Rattle.au_model.specs.Terms.Substitutions.{Substitution, value_of, resolve}
use Rattle.au_model.proofs.ApplyLemmas.{apply-same}
use Rattle.clause_compile.specs.declared.event.Branch.{Branch}
use Rattle.clause_compile.specs.declared.item.Item.{Item as BranchItem}
use Rattle.clause_compile.specs.declared.item.Item.TheVariants.{Goal, CatchEnd, Collect, Remove, End}
use Rattle.run_model.specs.Machine.Items.{Item, GoalItem, CatchMark, CollectMark, RemovalItem, Continuation, resolve_item, resolve_named, resolve_continuation}
use Rattle.run_model.specs.Machine.Entries.{Entry, PlainEntry, CatchEntry, FindallEntry}
use Rattle.run_model.specs.Programs.Jobs.{Query, Job}
use Rattle.tree_nodes.specs.Bodies.{BodyKind, ChoiceBody, ConditionBody, CatchBody, FindallBody, QueryBody, Body, Branching}
use Rattle.branch_reading.specs.BranchSegments.{above_in_query, own_segments, segments_on, bound_by, next_number}
use Rattle.branch_reading.specs.SettledWays.{is_item_settled, branch_items, items_on, is_way_settled, is_branch_settled}
use Rattle.branch_reading.specs.Readings.{own_query, query_on, named_of, items_meant, guard_meant, entry_beside, entry_meant, or_nothing, entry_bound}
use Rattle.branch_reading.specs.Readings.{continuation_on, entry_on, entry_if, reading, queries_on}
use Rattle.branch_shapes.specs.ExtendedWays.{number_after, WayBinds, SegmentsBind, IsNoQuery, BranchLeadsOn, continuation_of, IsBranchBelow}
use Rattle.branch_shapes.specs.ExtendedWays.{WaysAreExtended, ExtendedWaysAreSettled, BranchesReadBound}
use Rattle.branch_shapes.proofs.SettledSegmentLemmas.{led_on, bound_segments_are_settled}

-- substitutions with the same values
module _ (s t : Substitution) (h : (v : ℕ) → value_of s v ≡ value_of t v) where
  same_term : (u : Term) → resolve s u ≡ resolve t u
  same_term = apply-same (value_of s) (value_of t) h

  same_terms : (us : List Term) → map (resolve s) us ≡ map (resolve t) us
  same_terms [] = refl
  same_terms (u ∷ us) = ap₂ (λ w ws. w ∷ ws) (same_term u) (same_terms us)

  same_item : (i : Item ℕ) → resolve_item s i ≡ resolve_item t i
  same_item (GoalItem u c) = ap (λ w. GoalItem w c) (same_term u)
  same_item (CatchMark c) = refl
  same_item (CollectMark u c) = ap (λ w. CollectMark w c) (same_term u)
  same_item (RemovalItem n) = refl

  same_items : (items : List (Item ℕ)) → map (resolve_item s) items ≡ map (resolve_item t) items
  same_items [] = refl
  same_items (i ∷ items) = ap₂ (λ j js. j ∷ js) (same_item i) (same_items items)

  same_named : (vs : List NamedTerm) → map (resolve_named s) vs ≡ map (resolve_named t) vs
  same_named [] = refl
  same_named (v ∷ vs) = ap₂ (λ w ws. w ∷ ws) (ap (λ u. record v { term = u }) (same_term v.term)) (same_named vs)

  pub same_continuation : (f : Continuation ℕ) → resolve_continuation s f ≡ resolve_continuation t f
  same_continuation f = ap₂
      (λ items named. (let g : Continuation ℕ = record { items = items; named = named; next = f.next } in g)) (same_items f.items) (same_named f.named)

  same_guard : (kind : BodyKind) (f : Continuation ℕ) → guard_meant kind s f ≡ guard_meant kind t f
  same_guard ChoiceBody f = refl
  same_guard ConditionBody f = refl
  same_guard (CatchBody catcher recovery) f = ap₂ (λ c r. CatchEntry c r f) (same_term catcher) (same_term recovery)
  same_guard (FindallBody results list) f = ap₂ (λ rs l. FindallEntry rs l f) (same_terms results) (same_term list)
  same_guard QueryBody f = refl

  same_beside : (kind : BodyKind) (i : ℕ) (f : Continuation ℕ) → entry_beside kind i s f ≡ entry_beside kind i t f
  same_beside kind i f = ap (λ e. cond (i == 1) e (PlainEntry f)) (same_guard kind f)

  same_bound : (kind : BodyKind) (i : ℕ) (f : Continuation ℕ) → entry_bound kind i f s ≡ entry_bound kind i f t
  same_bound kind i f = same_beside kind i (resolve_continuation s f) ∙ ap (entry_beside kind i t) (same_continuation f)

values_same : (o : Option Substitution) (t : Substitution) → SameValues o (Some t) → (v : ℕ) → value_of (or_nothing o) v ≡ value_of t v
values_same None t h v = absurd h
values_same (Some s) t h v = h v

-- of no query's body
above_stays : (kind : BodyKind) (above : List Segment) → IsNoQuery kind → above_in_query kind above ≡ above
above_stays ChoiceBody above h = refl
above_stays ConditionBody above h = refl
above_stays (CatchBody catcher recovery) above h = refl
above_stays (FindallBody results list) above h = refl
above_stays QueryBody above h = absurd h

query_stays : (kind : BodyKind) (here above : Option Query) → IsNoQuery kind → own_query kind here above ≡ above
query_stays ChoiceBody here above h = refl
query_stays ConditionBody here above h = refl
query_stays (CatchBody catcher recovery) here above h = refl
query_stays (FindallBody results list) here above h = refl
query_stays QueryBody here above h = absurd h

abbrev continuation_with : List BranchItem → Option Query → ℕ → Continuation ℕ
continuation_with items q n = record { items = items_meant items; named = named_of q; next = n }

-- settled items have no end among them
no_end : (n : ℕ) (items : List BranchItem) (e : Entry) → list_all (is_item_settled n) items ≡ true → entry_meant items e ≡ e
no_end n [] e h = refl
no_end n (Goal term cut ∷ items) e h = refl
no_end n (CatchEnd scope ∷ items) e h = refl
no_end n (Collect template scope ∷ items) e h = refl
no_end n (Remove id ∷ items) e h = refl
no_end n (End ball ∷ items) e h = absurd cc

module _ (before there now : Substitution) (way : Branching) (b : Body) (i : ℕ) (branch : Branch) (h : WayBinds way before)
    (k : BranchLeadsOn before there now (next_number (segments_on way)) b i branch) where
  abbrev longer : Branching
  longer = (b, i) ∷ way

  segments_are : segments_on longer ≡ branch.segment ∷ b.segment ∷ segments_on way
  segments_are = ap₂ (λ o above. own_segments o ++ b.segment ∷ above) k.is (above_stays b.kind (segments_on way) k.no_query)

  pub way_binds : WayBinds longer now
  way_binds = subst (λ segments. SegmentsBind segments now) (sym segments_are)
      (led_on there now (b.segment ∷ segments_on way) branch.segment (led_on before there (segments_on way) b.segment h k.shared) k.own)

  pub next_is : next_number (segments_on longer) ≡ number_after branch.segment
  next_is = ap next_number segments_are

  items_are : items_on longer ≡ branch.goals
  items_are = ap branch_items k.is

  pub query_is : (job : Job) → query_on job longer ≡ query_on job way
  query_is job = query_stays b.kind (slice_get job.queries (queries_on way)) (query_on job way) k.no_query

  module _ (below : IsBranchBelow b i branch) where
    pub way_settled : is_way_settled longer ≡ true
    way_settled = and-both _ _ (bound_segments_are_settled (segments_on longer) now way_binds)
        (ap₂ (λ n items. is_branch_settled n b.kind i items) next_is items_are ∙ below)

    module _ (job : Job) where
      continuation_is : continuation_on job longer ≡ continuation_of (named_of (query_on job way)) branch
      continuation_is =
          ap₂ (λ items q. continuation_with items q (next_number (segments_on longer))) items_are (query_is job)
          ∙ ap (continuation_with branch.goals (query_on job way)) next_is

      entry_is : entry_on job longer ≡ entry_bound b.kind i (continuation_of (named_of (query_on job way)) branch) now
      entry_is =
          ap (λ f. entry_bound b.kind i f (or_nothing (bound_by (segments_on longer)))) continuation_is
          ∙ same_bound (or_nothing (bound_by (segments_on longer))) now (values_same (bound_by (segments_on longer)) now way_binds.unified) b.kind i
          (continuation_of (named_of (query_on job way)) branch)

      pub branch_reads : reading job longer ≡ entry_bound b.kind i (continuation_of (named_of (query_on job way)) branch) now
      branch_reads =
          ap (λ items. entry_meant items (entry_if (is_way_settled longer) (entry_on job longer))) items_are
          ∙ (no_end (number_after branch.segment) branch.goals (entry_if (is_way_settled longer) (entry_on job longer)) (and-left _ _ below)
          ∙ (ap (λ t. entry_if t (entry_on job longer)) way_settled ∙ entry_is))

pub ways_are_extended : WaysAreExtended
ways_are_extended before there now way b i branch h k = way_binds before there now way b i branch h k

pub extended_ways_are_settled : ExtendedWaysAreSettled
extended_ways_are_settled before there now way b i branch h k below = way_settled before there now way b i branch h k below

pub branches_read_bound : BranchesReadBound
branches_read_bound job before there now way b i branch h k below = branch_reads before there now way b i branch h k below job
