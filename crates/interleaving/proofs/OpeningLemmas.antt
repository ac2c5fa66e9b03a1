-- The opening tree's list runs as the sequential run by names.
use Rattle.std.proofs.Common.{inr, ◌≡◌, ℕ, ◌≤◌, inl, false, List, [], ◌∷◌, map, None, refl, sym, ap, ◌∙◌, arith}
use Rattle.au_term.specs.Term.{Term}
use Rattle.run_model.specs.Programs.Clauses.{Clause}
use Rattle.run_model.specs.Machine.Items.{GoalItem, goals_at}
use Rattle.run_model.specs.Machine.Entries.{PlainEntry, EndEntry}
use Rattle.interleaving.specs.HeightMachine.{HeightEntry}
use Rattle.run_model.specs.Programs.Jobs.{Job, Query, own_terms, query_bound}
use Rattle.tree_model.specs.Nodes.{QueryNode}
use Rattle.tree_model.specs.TreeStates.{opening_root, opening_tree, queries_after, leftmost}
use Rattle.run_model.specs.Machine.States.{remaining_queries}
use Rattle.tree_model.specs.Elements.{Name, Element, Credit, Plain, EndOf, End}
use Rattle.tree_model.specs.PendingLists.{Way, scope_on, pending_list}
use Rattle.tree_model.specs.Floors.{renamed_item}
use Rattle.interleaving.specs.Machine.{free_steps, run, seen, Alike}
use Rattle.interleaving.specs.Scopes.{first_shared, opened_elements, scoped}
use Rattle.interleaving.specs.Erased.{height, with_height, erased}
use Rattle.interleaving.specs.Sound.{IsSound}
use Rattle.interleaving.specs.Follows.{lead}
use Rattle.interleaving.specs.HistoryInvariants.{IsInStep}
use Rattle.interleaving.proofs.PreservedLemmas.{opened-sound}
use Rattle.interleaving.proofs.RunHeightLemmas.{names_are_free, goals-at}
use Rattle.interleaving.proofs.ListChangeLemmas.{no_credit}
use Rattle.interleaving.proofs.LegalLemmas.{opening_sound}
use Rattle.interleaving.proofs.ListsSoundLemmas.{lists_are_sound}
use Rattle.tree_model.specs.GivenAnswers.{answers_in, AreInOrder}
use Rattle.tree_model.specs.CaughtTrees.{IsCaught, IsLastQuery, IsUnspent, IsCaughtTree}
use Rattle.interleaving.proofs.CaughtEventLemmas.{marks_opened}

abbrev top : Way
top = record { node = 0; index = 0; kind = QueryNode } ∷ []

goals_named : (f : Name → ℕ) (gs : List Term) → map (with_height f) (map (renamed_item (scope_on top) (scope_on top)) (goals_at 0 gs))
    ≡ goals_at (f (0 ∷ 0 ∷ [])) gs
goals_named f [] = refl
goals_named f (g ∷ gs) = ap (λ l. GoalItem g (f (0 ∷ 0 ∷ [])) ∷ l) (goals_named f gs)

-- the list of a query's opening, without its empty credits
abbrev first_list : Query → List Element
first_list q =
    Plain (0 ∷ 0 ∷ 0 ∷ []) (record {
      items = map (renamed_item (scope_on top) (scope_on top)) (goals_at 0 q.goals);
      named = own_terms
          q.names;
      next = query_bound q;
    })
    ∷ EndOf (0 ∷ 0 ∷ []) ∷ End (0 ∷ 1 ∷ 0 ∷ []) None ∷ EndOf (1 ∷ 0 ∷ []) ∷ []

same_erased : (q : Query) (qs : List Query) → erased (opened_elements [] (q ∷ qs)) ≡ erased (first_list q)
same_erased q qs =
    ap (λ is. HeightEntry (PlainEntry (record { items = is; named = own_terms q.names; next = query_bound q })) ∷ HeightEntry
    (EndEntry None) ∷ [])
    (goals-at (height (EndOf [] ∷ End (1 ∷ []) None ∷ [])) [] q.goals
    ∙ sym (goals_named (height (EndOf (0 ∷ 0 ∷ []) ∷ End (0 ∷ 1 ∷ 0 ∷ []) None ∷ EndOf (1 ∷ 0 ∷ []) ∷ [])) q.goals))

opens_alike : (clauses : List Clause) (qs : List Query) → IsSound (pending_list (opening_root qs))
    → Alike (scoped clauses) (opened_elements [] qs) (pending_list (opening_root qs))
opens_alike clauses [] i n w = sym ((no_credit clauses [] []).alike n w)
opens_alike clauses (q ∷ qs) i n w =
    let one = no_credit clauses [] (Credit 0 [] ∷ first_list q) in
    let two = no_credit clauses [] (first_list q) in
    names_are_free clauses (opened_elements [] (q ∷ qs)) (first_list q) (opened-sound [] (q ∷ qs)) (two.sound (one.sound i))
    (same_erased q qs) n
    w ∙ (sym (two.alike n w) ∙ sym (one.alike n w))

first_queries : (qs : List Query) → remaining_queries qs ≡ queries_after qs
first_queries [] = refl
first_queries (q ∷ qs) = refl

root_caught : (qs : List Query) → IsCaught (λ m. false) false false (opening_root qs)
root_caught [] = inl refl
root_caught (q ∷ qs) = (marks_opened _ 0 q.goals, (tt, tt))

root_last : (qs : List Query) → IsLastQuery (opening_root qs)
root_last [] = tt
root_last (q ∷ qs) = (tt, inr (tt, tt), tt)

root_unspent : (qs : List Query) → IsUnspent 0 (opening_root qs)
root_unspent [] = tt
root_unspent (q ∷ qs) = (refl, (refl, tt))

pub opening_caught : (job : Job) (budget window : ℕ) → IsCaughtTree (opening_tree job budget window)
opening_caught job budget window = record
    { caught = root_caught job.queries; last = root_last job.queries; unspent = λ h. root_unspent job.queries }

root_given : (qs : List Query) → answers_in (opening_root qs) ≡ 0
root_given [] = refl
root_given (q ∷ qs) = refl

root_ordered : (qs : List Query) → AreInOrder (opening_root qs)
root_ordered [] = tt
root_ordered (q ∷ qs) = (tt, inr refl, (tt, inr refl, tt))

pub opening_in_step : (job : Job) (budget window : ℕ) → IsInStep job budget (opening_tree job budget window)
opening_in_step job budget window = record {
  same_job = refl;
  same_budget = refl;
  sound = opening_sound job budget window;
  caught = opening_caught job budget window;
  answers = 0;
  ordered = root_ordered job.queries;
  given = root_given job.queries;
  fewer = omega arith;
  from = 0;
  early = omega arith;
  alike = λ n a b. opens_alike job.clauses job.queries
      (lists_are_sound (opening_tree job budget window) (opening_sound job budget window) (opening_caught job budget window)) n
      (first_shared job) ∙ ap (λ qs. seen
      (run (scoped job.clauses) n (record { world = (first_shared job).world; queries = qs; answers = 0; halted = None })
      (free_steps (scoped job.clauses) [] (pending_list (opening_root job.queries))))) (first_queries job.queries);
  ahead = λ h. omega arith;
  finished = λ h l. nothing job.queries l;
  stopped = λ k e. let no_way : ⊥ = cc in absurd no_way;
  going = λ n l. absurd (omega arith);
}
  where
    nothing : (qs : List Query) → leftmost (record (opening_tree job budget window) { root = opening_root qs }) ≡ None
        → lead (pending_list (opening_root qs)) ≤ 0
    nothing [] l = omega arith
    nothing (q ∷ qs) l = let no_way : ⊥ = cc in absurd no_way
