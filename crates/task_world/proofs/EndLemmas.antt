-- The end of a query at the front.
use Rattle.std.proofs.Common.{◌≡◌, ◌≤◌, ℕ, Bool, true, cond, List, [], ◌∷◌, length, Option, Some, refl, sym, ap, ◌∙◌, subst}
use Rattle.std.specs.Prelude.{is_some, slice_get}
use Rattle.au_term.specs.Term.{Term}
use Rattle.au_model.specs.Writing.Lines.{end_line}
use Rattle.branch_shapes.proofs.OutLemmas.{spot_out as spot}
use Rattle.run_model.specs.Goals.Worlds.{World, writes}
use Rattle.run_model.specs.Machine.Entries.{Entry, EndEntry}
use Rattle.run_model.specs.Programs.Jobs.{Query}
use Rattle.tree_model.specs.Credits.{credit_of, greatest}
use Rattle.tree_model.specs.Effects.{after_event, query_opens, spot_stack, where_some, world_moved}
use Rattle.tree_model.specs.EventViews.{place_view}
use Rattle.tree_model.specs.Floors.{with_heights, floor_of}
use Rattle.tree_model.specs.FrontGates.{Taken, QueryEnds, taken_at_front}
use Rattle.tree_model.specs.Gates.{gate_on}
use Rattle.tree_model.specs.Histories.{IsLegalHistory}
use Rattle.tree_model.specs.Legality.{gate_of, is_allowed, taken_at}
use Rattle.tree_model.specs.Levels.{Place, Spot, levels_of}
use Rattle.tree_model.specs.Nodes.{WorldGate, Pending}
use Rattle.tree_model.specs.TreeStates.{TreeState, queries_after, opening_tree}
use Rattle.interleaving.proofs.OpenSpotLemmas.{taken_at_open}
use Rattle.interleaving.proofs.UnchangedPlaceLemmas.{after-last}
use Rattle.tree_nodes.specs.Bodies.{Body, Branching}
use Rattle.tree_nodes.specs.Rows.{PendingCell, credit_view}
use Rattle.tree_nodes.specs.TreeTables.{NodesView, IsTableOf, IsWayTo}
use Rattle.tree_nodes.proofs.PlaceLemmas.{taken_out}
use Rattle.tree_closing.specs.Closings.{ComesToRest}
use Rattle.tree_closing.specs.declared.way_up.Closing.{Closing}
use Rattle.branch_reading.specs.QueryNodes.{MakesQueryNode}
use Rattle.branch_reading.specs.Readings.{queries_on, reading}
use Rattle.public_tree.specs.Answering.{AtFront, ClosesAs, OpensAs, front_credit, is_first_at}
use Rattle.public_tree.specs.PublicTrees.{is_going}
use Rattle.public_tree.specs.declared.answering.Answering.{Answering}
use Rattle.public_tree.specs.declared.answering.Answering.TheVariants as answering
use Rattle.query_laws.specs.QueriesCounted.{NextIsTold}
use Rattle.tree_core.specs.Histories.{History, state_of, with_event}
use Rattle.tree_core.specs.Openings.{IsQueryAt}
use Rattle.tree_core.specs.Turns.{answering_of, where_legal}
use Rattle.tree_core.specs.declared.query.QueryGoals.{QueryGoals}
use Rattle.task_world.specs.OutTasks.{EndsQueryAt}
use Rattle.task_world.specs.FrontSteps.{IsWorldAfter, front_event}
use Rattle.task_world.specs.declared.step.FrontStep.TheVariants.{Done}
use Rattle.task_world.proofs.EventLemmas.{allowed, legal, is_world_after}
use Rattle.task_world.specs.QueryEnds.{still_left}
use Rattle.task_world.proofs.WayLemmas.{queries_same}

module _ (t : TreeState) (ball : Option Term) (s : Spot) (ends : s.entry ≡ EndEntry ball) where
  pub gate_is : gate_of t s ≡ Some WorldGate
  unfolding gate_of
  gate_is = ap (λ (e : Entry). gate_on t.job.clauses (levels_of s) (with_heights (levels_of s) e ∷ floor_of (levels_of s))) ends

  pub taken_is : taken_at_front t.job.clauses (spot_stack s) t.world ≡ (writes (end_line t.world.operators ball) t.world, QueryEnds)
  taken_is = ap (λ (e : Entry). taken_at_front t.job.clauses (with_heights (levels_of s) e ∷ floor_of (levels_of s)) t.world) ends

-- the next query is opened there
first_of : (queries : List Query) (q : Query) → slice_get queries 0 ≡ Some q → (further : List Query) × (queries ≡ q ∷ further)
first_of [] q e = absurd (cc e)
first_of (p ∷ ps) q e = (ps, ap (λ x. x ∷ ps) (let same : p ≡ q = cc in same))

module _ (h : History) (nodes : NodesView) (ball : Option Term) (w : ℕ) (a : Place) (ends : EndsQueryAt w a ball (state_of h)) where
  abbrev t : TreeState
  t = state_of h

  module _ (placed : IsTableOf nodes (reading h.job) t.root) (numbered : length nodes.rows ≡ t.next) (lawful : IsLegalHistory h.job h.budget h.window h.events)
      (below : h.budget ≤ greatest) (told : NextIsTold) where
    -- as many queries are on the way there as have been opened
    way_tells : (s : Spot) (way : Branching) (q : Query) (further : List Query) → taken_at w a t ≡ Some s → IsWayTo nodes.rows (levels_of s) way
        → t.queries ≡ q ∷ further → slice_get h.job.queries (queries_on way) ≡ Some q
    way_tells s way q further taken path e =
        let inside = (taken_at_open w a t s taken).inside in
        let there = taken_out nodes.rows (reading h.job) (levels_of s) (Pending s.hold s.entry)
        (subst (IsTableOf nodes (reading h.job)) (sym inside) placed).placed in
        ap (slice_get h.job.queries) (queries_same nodes.rows (reading h.job) (levels_of s) there.way way (PendingCell s.hold) there.around path)
        ∙ told h.job h.budget h.window h.events s q further below lawful inside e

    pub opens_as : (q : Query) (given : QueryGoals) (body : Body) → slice_get t.queries 0 ≡ Some q → IsQueryAt (length nodes.rows) q given
        → MakesQueryNode given.goals given.vars body → OpensAs nodes.rows body w a (reading h.job) t
    opens_as q given body first at made s taken =
        let f = first_of t.queries q first in
        let here = subst (λ n. IsQueryAt n q given) numbered at in (
          gate_is t ball s (ends s taken),
          λ way path. record {
            query = q;
            further = f.0;
            ends = ap (λ (x : World × Taken). x.1) (taken_is t ball s (ends s taken));
            next = f.1;
            node = made h.job way t.next q (way_tells s way q f.0 taken path f.1) here.goals here.vars;
          },
        )

  -- or it closes
  pub closes_last : (closing : Closing) → t.queries ≡ []
      → ComesToRest nodes a (credit_of 1) (place_view closing.end) (credit_view closing.credit) closing.beside
      → AtFront w a (λ s front. ClosesAs nodes a closing (front_credit front t.queries)) t
  closes_last closing none rests s taken = (
    gate_is t ball s (ends s taken),
    record {
      credit = credit_of 1;
      closes = ap (λ (x : World × Taken). front_credit x.1 t.queries) (taken_is t ball s (ends s taken)) ∙ ap (front_credit QueryEnds) none;
      rests = rests;
    },
  )

  module _ (may : (is_going t ≡ true) × (is_first_at a t ≡ true)) (out : is_some (taken_at w a t) ≡ true) where
    -- the world with its line is the one after the event
    pub ended_world : (old new : World) → old ≡ t.world → new ≡ writes (end_line old.operators ball) old → IsWorldAfter h w a new
    ended_world old new same line =
        let o = spot (taken_at w a t) out in
        let e = ends o.0 o.1 in
        line ∙ ap (λ (x : World). writes (end_line x.operators ball) x) same ∙ ap (λ (x : World × Taken). x.0) (sym (taken_is t ball o.0 e))
        ∙ is_world_after h w a o.0 o.1 (gate_is t ball o.0 e) may.0 may.1

    -- and one query less is left
    opens_queries : (s : Spot) (x : TreeState) (queries : List Query) → x.queries ≡ queries → (query_opens s queries x).queries ≡ queries_after queries
    opens_queries s x [] e = e
    opens_queries s x (q ∷ qs) e = refl

    after_end : (s : Spot) → taken_at w a t ≡ Some s → (after_event t (front_event w a)).queries ≡ queries_after t.queries
    unfolding after_event
    after_end s taken =
        let r = taken_at_front t.job.clauses (spot_stack s) t.world in
        ap (λ (o : Option Spot). (where_some o t (λ q. world_moved q (taken_at_front t.job.clauses (spot_stack q) t.world) t)).queries) taken
        ∙ ap (λ (x : World × Taken). (world_moved s x t).queries) (taken_is t ball s (ends s taken))
        ∙ opens_queries s (record t { world = writes (end_line t.world.operators ball) t.world }) t.queries refl

    pub opened_left : (answer : Answering) (new : History) → answer ≡ answering_of (front_event w a) t → new ≡ where_legal (front_event w a) h
        → (state_of new).queries ≡ still_left (Done answer) t.queries
    opened_left answer new is noted =
        let o = spot (taken_at w a t) out in
        let gate = gate_is t ball o.0 (ends o.0 o.1) in
        let may_be = allowed h w a o.0 o.1 gate may.0 may.1 in
        let legal_is = legal h w a o.0 o.1 gate may.0 may.1 in
        let took : answer ≡ answering.Taken =
        is ∙ ap (λ (b : Bool). cond b (cond (is_allowed t (front_event w a)) answering.Taken answering.NotLeftmost) answering.HasEnded) may.0
        ∙ ap (λ (b : Bool). cond b answering.Taken answering.NotLeftmost) may_be in
        ap (λ (n : History). (state_of n).queries) noted
        ∙ ap (λ (b : Bool). (state_of (cond b (with_event (front_event w a) h) h)).queries) legal_is
        ∙ ap (λ (x : TreeState). x.queries) (after-last (opening_tree h.job h.budget h.window) h.events (front_event w a))
        ∙ after_end o.0 o.1
        ∙ ap (λ r. still_left (Done r) t.queries) (sym took)
