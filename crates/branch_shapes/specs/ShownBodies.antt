-- Bodies that show a run: what each branch has left to do, with the bindings to which its segments lead, is an entry of it.
use Rattle.std.specs.Prelude.{◌≡◌, ℕ, suc, List, [], ◌∷◌, length, true, Some, slice_get}
use Rattle.au_model.specs.Terms.Named.{NamedTerm}
use Rattle.au_model.specs.Terms.Substitutions.{Substitution}
use Rattle.clause_compile.specs.declared.event.Branch.{Branch}
use Rattle.run_model.specs.Machine.Entries.{Entry}
use Rattle.run_model.specs.Machine.Items.{resolve_continuation}
use Rattle.run_model.specs.Programs.Jobs.{Job}
use Rattle.tree_model.specs.Floors.{with_nodes}
use Rattle.tree_model.specs.Levels.{Level}
use Rattle.tree_model.specs.Shapes.{guard_kind, is_alone, placed_scope}
use Rattle.tree_nodes.specs.Bodies.{Body, Branching, node_kind}
use Rattle.branch_reading.specs.BranchSegments.{segments_on, next_number}
use Rattle.branch_reading.specs.Readings.{query_on, named_of, entry_beside, reading}
use Rattle.branch_shapes.specs.Groups.{Groups, node_groups, node_sizes}
use Rattle.branch_shapes.specs.GroupBodies.{ReadAsRun}
use Rattle.branch_shapes.specs.ExtendedWays.{WayBinds, LeadsOn, number_after, IsNoQuery, IsBranchBelow, continuation_of}

-- what is asked of a branch of a body by its number, where its body's bindings have come to: that it stands for an entry
abbrev pub Showing : Type 1
Showing = Substitution → Body → ℕ → Entry → Type 0

-- its segment leads on, and what it has left to do, with that applied, is this entry with its scopes named
pub record BranchShows (named : List NamedTerm) (name : ℕ → ℕ) (there : Substitution) (b : Body) (i : ℕ) (e : Entry) : Type 0 where
  pub now : Substitution
  pub branch : Branch
  pub is : slice_get b.branches i ≡ Some branch
  pub leads : LeadsOn there now (number_after b.segment) branch.segment
  pub below : IsBranchBelow b i branch
  pub means : entry_beside b.kind i now (resolve_continuation now (continuation_of named branch)) ≡ with_nodes name e

-- a body, before which these bindings were made of variables below a number: its further branches stand for a group
pub record BodyShows (shows : Showing) (next : ℕ) (before there : Substitution) (b : Body) (g : List Entry) : Type 0 where
  pub no_query : IsNoQuery b.kind
  pub kind : node_kind b.kind ≡ guard_kind g
  pub alone : is_alone g ≡ true
  pub branches : length b.branches ≡ suc (length g)
  pub leads : LeadsOn before there next b.segment
  pub further : (i : ℕ) (e : Entry) → slice_get g i ≡ Some e → shows there b (suc i) e

-- the segment of its first branch leads on to the next body
pub record LeadsDown (there : Substitution) (b : Body) : Type 0 where
  pub now : Substitution
  pub branch : Branch
  pub is : slice_get b.branches 0 ≡ Some branch
  pub leads : LeadsOn there now (number_after b.segment) branch.segment

-- a body for each group, the outermost first; the first branch of the innermost one stands for the entry on top
abbrev pub BodiesShow : Showing → Entry → ℕ → Substitution → Body → List Body → List Entry → Groups → Type 0
BodiesShow shows current next before b [] g [] = (there : Substitution) × (BodyShows shows next before there b g × shows there b 0 current)
BodiesShow shows current next before b (c ∷ bodies) g (h ∷ gs) =
    (there : Substitution) × ((first : LeadsDown there b) × (BodyShows shows next before there b g
    × BodiesShow shows current (number_after first.branch.segment) first.now c bodies h gs))
BodiesShow shows current next before b [] g (h ∷ gs) = ⊥
BodiesShow shows current next before b (c ∷ bodies) g [] = ⊥

abbrev pub AllShow : Showing → Entry → ℕ → Substitution → List Body → Groups → Type 0
AllShow shows current next before (b ∷ bodies) (g ∷ gs) = BodiesShow shows current next before b bodies g gs
AllShow shows current next before [] gs = ⊥
AllShow shows current next before (b ∷ bodies) [] = ⊥

-- below a way, as nodes with numbers from one on
abbrev pub ShowRun : Job → Branching → Substitution → ℕ → List Level → List Body → Entry → Groups → Type 0
ShowRun job way before number levels bodies current gs =
    let shows = BranchShows (named_of (query_on job way)) (placed_scope number (node_sizes gs) levels) in
    AllShow shows current (next_number (segments_on way)) before bodies (node_groups gs)

-- they read as the run's entries, where the way has the bindings before them
abbrev pub ShownBodiesRead : Type 0
ShownBodiesRead = (job : Job) (way : Branching) (before : Substitution) (number : ℕ) (levels : List Level) (bodies : List Body) (current : Entry) (gs : Groups)
    → WayBinds way before → ShowRun job way before number levels bodies current gs → ReadAsRun (reading job) way number levels bodies current gs
