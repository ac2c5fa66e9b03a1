-- The results of a findall once its goal side has closed.
use Rattle.std.specs.Prelude.{ℕ, List, [], ◌∷◌}
use Rattle.au_term.specs.Term.{Term}
use Rattle.cell_store.specs.ListGoals.{list_goal}
use Rattle.clause_compile.specs.declared.item.Item.{Item as BranchItem}
use Rattle.clause_compile.specs.declared.item.Item.TheVariants.{Goal}
use Rattle.clause_compile.specs.declared.item.Scope.TheVariants.{Node}
use Rattle.region_split.specs.ResultLists.{ResultsView, with_copy}
use Rattle.task_stops.specs.declared.gather.Gathered.{Gathered}

-- a copy of each record behind the results
abbrev pub gathered : List Term → ResultsView → ResultsView
gathered [] r = r
gathered (t ∷ ts) r = gathered ts (with_copy t r)

abbrev pub gathered_view : Gathered → ResultsView
gathered_view g = record { terms = g.terms.items; next = g.next }

-- the findall's list is unified with them, by a goal in which a cut cuts to its node
abbrev pub unifying_item : ℕ → Term → List Term → BranchItem
unifying_item n list results = Goal (list_goal list results) (Node n)
