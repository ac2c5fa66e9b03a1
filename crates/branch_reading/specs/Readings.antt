-- What an alternative of the shared tree reads as: what is left to do on its branch, by what the nodes on the way down to it
-- were made from (Warren 1987).
use Rattle.std.specs.Prelude.{ℕ, ◌+◌, ◌==◌, Bool, cond, List, [], ◌∷◌, map, Option, Some, None, slice_get}
use Rattle.au_term.specs.Term.{VarTerm}
use Rattle.au_model.specs.Terms.Named.{NamedTerm}
use Rattle.au_model.specs.Terms.Substitutions.{Substitution, resolve}
use Rattle.run_model.specs.Machine.Items.{Item, GoalItem, CatchMark, CollectMark, RemovalItem, Continuation, resolve_continuation}
use Rattle.run_model.specs.Machine.Entries.{Entry, PlainEntry, CatchEntry, FindallEntry, EndEntry}
use Rattle.run_model.specs.Programs.Jobs.{Query, Job, own_terms}
use Rattle.clause_compile.specs.declared.item.Item.{Item as BranchItem}
use Rattle.clause_compile.specs.declared.item.Item.TheVariants.{Goal, CatchEnd, Collect, Remove, End}
use Rattle.tree_nodes.specs.Bodies.{BodyKind, ChoiceBody, ConditionBody, CatchBody, FindallBody, QueryBody, Branching, Reading}
use Rattle.tree_nodes.specs.Rows.{scope_number}
use Rattle.branch_reading.specs.BranchSegments.{segments_on, bound_by, next_number}
use Rattle.branch_reading.specs.SettledWays.{items_on, is_way_settled}

-- the queries that have been opened on a branch
abbrev pub query_count : BodyKind → ℕ
query_count ChoiceBody = 0
query_count ConditionBody = 0
query_count (CatchBody catcher recovery) = 0
query_count (FindallBody results list) = 0
query_count QueryBody = 1

abbrev pub queries_on : Branching → ℕ
queries_on [] = 0
queries_on ((b, i) ∷ way) = query_count b.kind + queries_on way

-- the query of the innermost node of one, which is the one after those that had been opened above it
abbrev pub own_query : BodyKind → Option Query → Option Query → Option Query
own_query ChoiceBody here above = above
own_query ConditionBody here above = above
own_query (CatchBody catcher recovery) here above = above
own_query (FindallBody results list) here above = above
own_query QueryBody here above = here

abbrev pub query_on : Job → Branching → Option Query
query_on job [] = None
query_on job ((b, i) ∷ way) = own_query b.kind (slice_get job.queries (queries_on way)) (query_on job way)

abbrev pub named_of : Option Query → List NamedTerm
named_of None = []
named_of (Some q) = own_terms q.names

-- an item but for the end of a query
abbrev pub items_meant : List BranchItem → List (Item ℕ)
items_meant [] = []
items_meant (Goal term cut ∷ items) = GoalItem term (scope_number cut) ∷ items_meant items
items_meant (CatchEnd scope ∷ items) = CatchMark (scope_number scope) ∷ items_meant items
items_meant (Collect template scope ∷ items) = CollectMark template (scope_number scope) ∷ items_meant items
items_meant (Remove id ∷ items) = RemovalItem id.0 ∷ items_meant items
items_meant (End ball ∷ items) = items_meant items

-- what a guard stands for, beside what follows it. The variables of a findall's results are younger than all that is bound on the
-- branch, so these stay as they are; as they are read here, no reader has to know that
abbrev pub guard_meant : BodyKind → Substitution → Continuation ℕ → Entry
guard_meant ChoiceBody s f = PlainEntry f
guard_meant ConditionBody s f = PlainEntry f
guard_meant (CatchBody catcher recovery) s f = CatchEntry (resolve s catcher) (resolve s recovery) f
guard_meant (FindallBody results list) s f = FindallEntry (map (resolve s) results) (resolve s list) f
guard_meant QueryBody s f = PlainEntry f

-- the second alternative of a guard
abbrev pub entry_beside : BodyKind → ℕ → Substitution → Continuation ℕ → Entry
entry_beside kind i s f = cond (i == 1) (guard_meant kind s f) (PlainEntry f)

-- the end of a query is alone
abbrev pub entry_meant : List BranchItem → Entry → Entry
entry_meant (End ball ∷ []) e = EndEntry ball
entry_meant items e = e

abbrev pub or_nothing : Option Substitution → Substitution
or_nothing None = []
or_nothing (Some s) = s

-- with every binding of the branch applied
abbrev pub entry_bound : BodyKind → ℕ → Continuation ℕ → Substitution → Entry
entry_bound kind i f s = entry_beside kind i s (resolve_continuation s f)

-- what is left to do on a branch, its bindings not applied
abbrev pub continuation_on : Job → Branching → Continuation ℕ
continuation_on job way = record { items = items_meant (items_on way); named = named_of (query_on job way); next = next_number (segments_on way) }

-- the entry of a branch that is settled
abbrev pub entry_on : Job → Branching → Entry
entry_on job [] = EndEntry None
entry_on job ((b, i) ∷ way) = entry_bound b.kind i (continuation_on job ((b, i) ∷ way)) (or_nothing (bound_by (segments_on ((b, i) ∷ way))))

-- what no legal tree has: a variable that is not below the next number
abbrev pub unreadable : Entry
unreadable = PlainEntry (record { items = []; named = record { name = []; term = VarTerm 0 } ∷ []; next = 0 })

abbrev pub entry_if : Bool → Entry → Entry
entry_if settled e = cond settled e unreadable

abbrev pub reading : Job → Reading
reading job [] = EndEntry None
reading job ((b, i) ∷ way) = entry_meant (items_on ((b, i) ∷ way)) (entry_if (is_way_settled ((b, i) ∷ way)) (entry_on job ((b, i) ∷ way)))
