-- Bodies that show a run read as its entries.
use Rattle.std.proofs.Common.{◌≡◌, ℕ, suc, List, [], ◌∷◌, refl, sym, ap, ◌∙◌, subst}
use Rattle.au_model.specs.Terms.Named.{NamedTerm}
use Rattle.au_model.specs.Terms.Substitutions.{Substitution}
use Rattle.run_model.specs.Machine.Entries.{Entry}
use Rattle.run_model.specs.Machine.Items.{resolve_continuation}
use Rattle.run_model.specs.Programs.Jobs.{Job}
use Rattle.tree_model.specs.Floors.{with_nodes}
use Rattle.tree_model.specs.Shapes.{placed_scope}
use Rattle.tree_nodes.specs.Bodies.{Body, Branching}
use Rattle.branch_reading.specs.BranchSegments.{segments_on, next_number}
use Rattle.branch_reading.specs.Readings.{query_on, named_of, entry_beside, reading}
use Rattle.branch_shapes.specs.Groups.{Groups, node_groups, node_sizes}
use Rattle.branch_shapes.specs.GroupBodies.{ReadsAsGroup, ReadAsGroups}
use Rattle.branch_shapes.specs.ExtendedWays.{WayBinds, LeadsOn, BranchLeadsOn, number_after, continuation_of}
use Rattle.branch_shapes.specs.ShownBodies.{BranchShows, BodyShows, LeadsDown, BodiesShow, AllShow, ShownBodiesRead}
use Rattle.branch_shapes.proofs.ExtendedWayLemmas.{way_binds, next_is, query_is, branches_read_bound}

-- a way on which these bindings were made, with this next number and these named terms of its query
record IsWayAt (job : Job) (way : Branching) (named : List NamedTerm) (next : ℕ) (before : Substitution) : Type 0 where
  binds : WayBinds way before
  named_is : named_of (query_on job way) ≡ named
  next_at : next_number (segments_on way) ≡ next

module _ (job : Job) (way : Branching) (named : List NamedTerm) (name : ℕ → ℕ) (next : ℕ) (before there : Substitution) (b : Body) (g : List Entry)
    (at : IsWayAt job way named next before) (h : BodyShows (BranchShows named name) next before there b g) where
  shared_leads : LeadsOn before there (next_number (segments_on way)) b.segment
  shared_leads = subst (λ n. LeadsOn before there n b.segment) (sym at.next_at) h.leads

  branch_leads : (i : ℕ) (e : Entry) (s : BranchShows named name there b i e) → BranchLeadsOn before there s.now (next_number (segments_on way)) b i s.branch
  branch_leads i e s = record { is = s.is; no_query = h.no_query; shared = shared_leads; own = s.leads }

  branch_shown : (i : ℕ) (e : Entry) → BranchShows named name there b i e → reading job ((b, i) ∷ way) ≡ with_nodes name e
  branch_shown i e s =
      branches_read_bound job before there s.now way b i s.branch at.binds (branch_leads i e s) s.below
      ∙ (ap (λ ns. entry_beside b.kind i s.now (resolve_continuation s.now (continuation_of ns s.branch))) at.named_is ∙ s.means)

  body_shown : ReadsAsGroup (reading job) way name b g
  body_shown = record { kind = h.kind; alone = h.alone; branches = h.branches; reads = λ i e q. branch_shown (suc i) e (h.further i e q) }

  module _ (first : LeadsDown there b) where
    first_leads : BranchLeadsOn before there first.now (next_number (segments_on way)) b 0 first.branch
    first_leads = record { is = first.is; no_query = h.no_query; shared = shared_leads; own = first.leads }

    at_next : IsWayAt job ((b, 0) ∷ way) named (number_after first.branch.segment) first.now
    at_next = record {
      binds = way_binds before there first.now way b 0 first.branch at.binds first_leads;
      named_is = ap named_of (query_is before there first.now way b 0 first.branch at.binds first_leads job) ∙ at.named_is;
      next_at = next_is before there first.now way b 0 first.branch at.binds first_leads;
    }

bodies_shown : (job : Job) (named : List NamedTerm) (name : ℕ → ℕ) (current : Entry) (way : Branching) (next : ℕ) (before : Substitution) (b : Body)
    (bodies : List Body) (g : List Entry) (gs : Groups) → IsWayAt job way named next before
    → BodiesShow (BranchShows named name) current next before b bodies g gs → ReadAsGroups (reading job) name current way (b ∷ bodies) (g ∷ gs)
bodies_shown job named name current way next before b [] g [] at h =
    (body_shown job way named name next before h.0 b g at h.1.0, branch_shown job way named name next before h.0 b g at h.1.0 0 current h.1.1)
bodies_shown job named name current way next before b [] g (k ∷ gs) at h = absurd h
bodies_shown job named name current way next before b (c ∷ bodies) g [] at h = absurd h
bodies_shown job named name current way next before b (c ∷ bodies) g (k ∷ gs) at h = (
  body_shown job way named name next before h.0 b g at h.1.1.0,
  bodies_shown job named name current ((b, 0) ∷ way) (number_after h.1.0.branch.segment) h.1.0.now c bodies k gs
      (at_next job way named name next before h.0 b g at h.1.1.0 h.1.0) h.1.1.1,
)

all_shown : (job : Job) (named : List NamedTerm) (name : ℕ → ℕ) (current : Entry) (way : Branching) (next : ℕ) (before : Substitution) (bodies : List Body)
    (gs : Groups) → IsWayAt job way named next before → AllShow (BranchShows named name) current next before bodies gs
    → ReadAsGroups (reading job) name current way bodies gs
all_shown job named name current way next before [] gs at h = absurd h
all_shown job named name current way next before (b ∷ bodies) [] at h = absurd h
all_shown job named name current way next before (b ∷ bodies) (g ∷ gs) at h = bodies_shown job named name current way next before b bodies g gs at h

pub shown_bodies_read : ShownBodiesRead
shown_bodies_read job way before number levels bodies current gs bound h =
    all_shown job (named_of (query_on job way)) (placed_scope number (node_sizes gs) levels) current way (next_number (segments_on way)) before bodies
    (node_groups gs) (record { binds = bound; named_is = refl; next_at = refl }) h
