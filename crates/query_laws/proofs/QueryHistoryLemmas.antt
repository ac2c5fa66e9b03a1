-- Every legal history counts the queries of its job.
use Rattle.std.proofs.Common.{◌≡◌, ℕ, zero, suc, true, List, [], ◌∷◌, ◌++◌, drop, Some, refl, sym, ap, subst}
use Rattle.std.specs.Prelude.{slice_get}
use Rattle.run_model.specs.Programs.Jobs.{Query, Job}
use Rattle.tree_model.specs.Events.{Event}
use Rattle.tree_model.specs.TreeStates.{TreeState, queries_after, opening_root, opening_tree}
use Rattle.tree_model.specs.Legality.{is_legal}
use Rattle.tree_model.specs.Effects.{after_event}
use Rattle.tree_model.specs.Histories.{after_events, are_legal, tree_after}
use Rattle.tree_model.specs.CaughtTrees.{IsLastQuery}
use Rattle.tree_model.specs.LegalTrees.{IsLegalTree, HistoriesKeepTrees}
use Rattle.au_term.proofs.LogicLemmas.{and-left, and-right, and-both}
use Rattle.query_laws.specs.QueriesCounted.{queries_below, CountsQueries, AllAreAbove, EndsOpenQueries, EventsCountQueries}
use Rattle.query_laws.specs.QueriesCounted.{HistoriesCountQueries, NextIsTold}
use Rattle.query_laws.proofs.QueryEventLemmas.{opened_above, event_counts, event_opens}

pub all_above : AllAreAbove
all_above t s h p = opened_above t s (subst IsLastQuery (sym p) h.caught.last) p

pub events_count : EventsCountQueries
events_count job t e h counts l = event_counts t h job counts e l

pub ends_open : EndsOpenQueries
ends_open t e h l = event_opens t h e l

-- a front of a legal history is one
legal_front : (t : TreeState) (pre post : List Event) → are_legal t (pre ++ post) ≡ true → are_legal t pre ≡ true
legal_front t [] post l = refl
legal_front t (e ∷ pre) post l =
    and-both (is_legal t e) (are_legal (after_event t e) pre) (and-left (is_legal t e) _ l)
    (legal_front (after_event t e) pre post (and-right (is_legal t e) _ l))

-- the queries of a history whose trees are all legal
all_counted : (job : Job) (t : TreeState) (es : List Event)
    → ((pre post : List Event) → es ≡ pre ++ post → IsLegalTree (after_events t pre)) → are_legal t es ≡ true → CountsQueries job t
    → CountsQueries job (after_events t es)
all_counted job t [] h l counts = counts
all_counted job t (e ∷ es) h l counts =
    all_counted job (after_event t e) es (λ pre post q. h (e ∷ pre) post (ap (λ r. e ∷ r) q)) (and-right (is_legal t e) _ l)
    (event_counts t (h [] (e ∷ es) refl) job counts e (and-left (is_legal t e) _ l))

opening_counts : (job : Job) (budget window : ℕ) → CountsQueries job (opening_tree job budget window)
opening_counts job budget window = go job.queries
  where
    go : (qs : List Query) (q : Query) (further : List Query) → queries_after qs ≡ q ∷ further
        → drop (queries_below (opening_root qs)) qs ≡ q ∷ further
    go [] q further e = let no_way : ⊥ = cc in absurd no_way
    go (p ∷ ps) q further e = e

pub histories_count : HistoriesKeepTrees → HistoriesCountQueries
histories_count keep job budget window es below l =
    all_counted job (opening_tree job budget window) es
    (λ pre post q. keep job budget window pre below
    (legal_front (opening_tree job budget window) pre post
    (subst (λ r. are_legal (opening_tree job budget window) r ≡ true) q l)))
    l (opening_counts job budget window)

-- the one after so many
first_left : (n : ℕ) (xs : List Query) (x : Query) (ys : List Query) → drop n xs ≡ x ∷ ys → slice_get xs n ≡ Some x
first_left zero [] x ys e = let no_way : ⊥ = cc in absurd no_way
first_left zero (y ∷ xs) x ys e = let same : y ≡ x = cc in ap (λ z. Some z) same
first_left (suc n) [] x ys e = let no_way : ⊥ = cc in absurd no_way
first_left (suc n) (y ∷ xs) x ys e = first_left n xs x ys e

pub next_told : HistoriesKeepTrees → NextIsTold
next_told keep job budget window es s q further below l p e =
    let t = tree_after job budget window es in
    subst (λ n. slice_get job.queries n ≡ Some q) (all_above t s (keep job budget window es below l) p)
    (first_left (queries_below t.root) job.queries q further (histories_count keep job budget window es below l q further e))
