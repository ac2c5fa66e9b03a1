-- The nodes of queries.
use Rattle.std.proofs.Common.{◌≡◌, ℕ, ◌+◌, ◌≤◌, true, ◌&&◌, nat_le, List, [], ◌∷◌, map, Option, Some, None, refl, sym, ap, ap₂, ◌∙◌, subst, arith}
use Rattle.std.proofs.lemmas.Bool.Decides.{nat_tests}
use Rattle.std.specs.List.{list_all}
use Rattle.std.specs.Prelude.{is_some}
use Rattle.au_term.proofs.LogicLemmas.{and-both}
use Rattle.au_term.specs.Term.{Term, VarTerm, var_bound}
use Rattle.au_term.specs.declared.segment.Segment.{Segment}
use Rattle.au_model.specs.Terms.Named.{NamedVariable, NamedTerm}
use Rattle.au_model.specs.Terms.Unifier.{unifier}
use Rattle.au_model.proofs.EquationsInTurnLemmas.{resolve-nothing}
use Rattle.run_model.specs.Machine.Items.{Item, GoalItem, goals_at, resolve_item, resolve_named}
use Rattle.run_model.specs.Machine.Entries.{Entry, PlainEntry}
use Rattle.run_model.specs.Programs.Jobs.{Query, own_terms, goals_bound, query_bound}
use Rattle.clause_compile.specs.declared.event.Branch.{Branch}
use Rattle.clause_compile.specs.declared.item.Item.{Item as BranchItem}
use Rattle.clause_compile.specs.declared.item.Item.TheVariants.{End}
use Rattle.tree_model.specs.Nodes.{QueryNode, Ready, Dormant, Numbered, none, alternative, Pending}
use Rattle.tree_nodes.specs.Bodies.{Body, QueryBody}
use Rattle.branch_reading.specs.SettledWays.{is_term_below, is_item_settled, is_way_settled}
use Rattle.branch_reading.specs.Readings.{items_meant, entry_meant, entry_bound, entry_if, entry_on, named_of, or_nothing}
use Rattle.branch_reading.specs.QueryNodes.{goals_in, MakesQueryNode}

is_below : (m n : ℕ) → m ≤ n → nat_le m n ≡ true
is_below m n h = grind (arith, nat_tests)

items_of_goals : (n : ℕ) (gs : List Term) → items_meant (goals_in n gs) ≡ goals_at n gs
items_of_goals n [] = refl
items_of_goals n (g ∷ gs) = ap (λ is. GoalItem g n ∷ is) (items_of_goals n gs)

goals_are_no_end : (n : ℕ) (gs : List Term) (e : Entry) → entry_meant (goals_in n gs) e ≡ e
goals_are_no_end n [] e = refl
goals_are_no_end n (g ∷ gs) e = refl

goals_as_they_are : (n : ℕ) (gs : List Term) → map (resolve_item []) (goals_at n gs) ≡ goals_at n gs
goals_as_they_are n [] = refl
goals_as_they_are n (g ∷ gs) = ap₂ (λ t is. GoalItem t n ∷ is) (resolve-nothing g) (goals_as_they_are n gs)

own_terms_as_they_are : (vs : List NamedVariable) → map (resolve_named []) (own_terms vs) ≡ own_terms vs
own_terms_as_they_are [] = refl
own_terms_as_they_are (v ∷ vs) = ap (λ ts. record { name = v.name; term = VarTerm v.number } ∷ ts) (own_terms_as_they_are vs)

-- with nothing bound
nothing_bound : unifier [] ≡ Some []
unfolding unifier
nothing_bound = refl

-- a query's goals with these numbers and names
abbrev begun : ℕ → List NamedTerm → ℕ → List Term → Entry
begun n named next gs = PlainEntry (record { items = goals_at n gs; named = named; next = next })

query_goals : (n : ℕ) (q : Query) → entry_bound QueryBody 0 (record { items = goals_at n q.goals; named = own_terms q.names; next = query_bound q })
    (or_nothing (unifier [])) ≡ begun n (own_terms q.names) (query_bound q) q.goals
query_goals n q =
    ap (λ o. entry_bound QueryBody 0 (record { items = goals_at n q.goals; named = own_terms q.names; next = query_bound q }) (or_nothing o)) nothing_bound
    ∙ ap₂ (λ items named. PlainEntry (record { items = items; named = named; next = query_bound q })) (goals_as_they_are n q.goals)
    (own_terms_as_they_are q.names)

-- so many variables from 0 on, with nothing bound
abbrev taking : ℕ → Segment
taking vars = record { base = 0; vars = vars; bindings = [] }

abbrev query_made : List BranchItem → ℕ → Branch → Body
query_made goals vars end = record { segment = taking 0; branches = record { goals = goals; segment = taking vars } ∷ end ∷ []; kind = QueryBody }

-- goals over so many variables are settled
goals_settled : (n next : ℕ) (gs : List Term) → goals_bound gs ≤ next → list_all (is_item_settled next) (goals_in n gs) ≡ true
goals_settled n next [] h = refl
goals_settled n next (g ∷ gs) h = and-both (is_term_below next g) (list_all (is_item_settled next) (goals_in n gs))
    (is_below (var_bound g) next (omega arith)) (goals_settled n next gs (omega arith))

-- what the first branch reads as, by its goals, its query and its variables
abbrev first_read : List BranchItem → Option Query → ℕ → Entry
first_read goals o vars = entry_meant goals (entry_if (is_some (unifier []) && (list_all (is_item_settled vars) goals && true))
    (entry_bound QueryBody 0 (record { items = items_meant goals; named = named_of o; next = vars }) (or_nothing (unifier []))))

first_settled : (n : ℕ) (q : Query) → (is_some (unifier []) && (list_all (is_item_settled (query_bound q)) (goals_in n q.goals) && true)) ≡ true
first_settled n q =
    let goals : list_all (is_item_settled (query_bound q)) (goals_in n q.goals) ≡ true = goals_settled n (query_bound q) q.goals (omega arith) in
    and-both (is_some (unifier [])) (list_all (is_item_settled (query_bound q)) (goals_in n q.goals) && true) (ap is_some nothing_bound)
    (and-both (list_all (is_item_settled (query_bound q)) (goals_in n q.goals)) true goals refl)

first_begins : (n : ℕ) (q : Query) → first_read (goals_in n q.goals) (Some q) (query_bound q) ≡ begun n (own_terms q.names) (query_bound q) q.goals
first_begins n q =
    let read : List (Item ℕ) → Entry = λ items. entry_bound QueryBody 0 (record { items = items; named = own_terms q.names; next = query_bound q })
    (or_nothing (unifier [])) in
    ap (λ settled. entry_meant (goals_in n q.goals) (entry_if settled (read (items_meant (goals_in n q.goals))))) (first_settled n q)
    ∙ goals_are_no_end n q.goals (read (items_meant (goals_in n q.goals))) ∙ ap read (items_of_goals n q.goals) ∙ query_goals n q

three : {A B C D : Type 0} (f : A → B → C → D) {a b : A} {c d : B} {e g : C} → a ≡ b → c ≡ d → e ≡ g → f a c e ≡ f b d g
three f h i j = cc

made_opens : (goals : List BranchItem) (vars : ℕ) (end : Branch) → end.goals ≡ End None ∷ [] → MakesQueryNode goals vars (query_made goals vars end)
made_opens goals vars end ends job way n q here gs vs =
    ap₂ (λ a b. Numbered n QueryNode (alternative 0 (Pending Ready a) (alternative 0 (Pending Dormant b) none)))
    (three first_read gs here (let e : 0 + vars ≡ query_bound q = omega (vs, arith) in e) ∙ first_begins n q)
    (ap (λ items. entry_meant items (entry_if (is_way_settled ((query_made goals vars end, 1) ∷ way))
    (entry_on job ((query_made goals vars end, 1) ∷ way)))) ends)

pub opens : (goals : List BranchItem) (vars : ℕ) (end : Branch) (body : Body) → end.goals ≡ End None ∷ []
    → body.segment ≡ taking 0 → body.branches ≡ record { goals = goals; segment = taking vars } ∷ end ∷ [] → body.kind ≡ QueryBody
    → MakesQueryNode goals vars body
opens goals vars end body ends s bs k =
    let same : query_made goals vars end ≡ body = three (λ s bs k. record { segment = s; branches = bs; kind = k }) (sym s) (sym bs) (sym k) in
    subst (MakesQueryNode goals vars) same (made_opens goals vars end ends)
