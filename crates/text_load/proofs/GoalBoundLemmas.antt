-- The variables of a body's goals are the body's.
use Rattle.std.proofs.Common.{◌≡◌, ℕ, max, Bool, true, false, cond, List, [], ◌∷◌, ◌++◌, map, Option, Some, None, refl, sym, ap, ◌∙◌, arith, codes}
use Rattle.std.specs.Option.{option_map}
use Rattle.au_term.specs.Term.{Term, VarTerm, IntTerm, AtomTerm, Compound, end, more, var_bound}
use Rattle.au_model.specs.Terms.Forms.{same_name, binary}
use Rattle.run_model.specs.Programs.Bodies.{is_junction, junction, body_of, goals_of, called_goals, call_of}
use Rattle.run_model.specs.Programs.Jobs.{Query, goals_bound, names_bound}
use Rattle.au_model.specs.declared.types.VarName.{VarName}
use Rattle.clause_compile.specs.CompiledClauses.{goal_items}
use Rattle.clause_compile.specs.declared.item.Item.{Item}
use Rattle.clause_compile.specs.declared.item.Scope.{Scope}
use Rattle.clause_compile.specs.declared.item.Scope.TheVariants.{Local}
use Rattle.text_load.specs.Sentences.{QuerySentence, query_with}
use Rattle.au_model.specs.Terms.Named.{variable_meant}
use Rattle.text_load.specs.QueryView.{goal_terms, query_meant, IsQueryInvariant}

bound_append : (gs hs : List Term) → goals_bound (gs ++ hs) ≡ max (goals_bound gs) (goals_bound hs)
bound_append [] hs = omega arith
bound_append (g ∷ gs) hs = let h = bound_append gs hs in omega (arith, h)

split_bound : (f : List ℕ) (a b : Term) (v : Bool) → goals_bound (goals_of a) ≡ var_bound a → goals_bound (goals_of b) ≡ var_bound b
    → goals_bound (cond v (goals_of a ++ goals_of b) (binary f a b ∷ [])) ≡ var_bound (binary f a b)
split_bound f a b true h k = let e = bound_append (goals_of a) (goals_of b) in omega (arith, e, h, k)
split_bound f a b false h k = omega arith

goals_of-bound : (t : Term) → goals_bound (goals_of t) ≡ var_bound t
goals_of-bound (VarTerm n) = omega arith
goals_of-bound (IntTerm z) = omega arith
goals_of-bound (AtomTerm a) = omega arith
goals_of-bound (Compound f end) = omega arith
goals_of-bound (Compound f (more a end)) = omega arith
goals_of-bound (Compound f (more a (more b end))) = split_bound f a b (same_name f (codes ",")) (goals_of-bound a) (goals_of-bound b)
goals_of-bound (Compound f (more a (more b (more c ts)))) = omega arith

junction_bound : (f : List ℕ) (a b c : Term) (o p : Option Term) → ((d : Term) → o ≡ Some d → var_bound d ≡ var_bound a) → ((d : Term) → p ≡ Some d → var_bound d ≡ var_bound b)
    → junction f o p ≡ Some c → var_bound c ≡ var_bound (binary f a b)
junction_bound f a b c (Some d) (Some e) h k is = let x = h d refl in let y = k e refl in let same : binary f d e ≡ c = cc in ap var_bound (sym same) ∙ omega (arith, x, y)
junction_bound f a b c (Some d) None h k is = let g : ⊥ = cc in absurd g
junction_bound f a b c None p h k is = let g : ⊥ = cc in absurd g

body_bound : (t b : Term) → body_of t ≡ Some b → var_bound b ≡ var_bound t
body_bound (VarTerm n) b e = let same : call_of (VarTerm n) ≡ b = cc in ap var_bound (sym same) ∙ omega arith
body_bound (IntTerm z) b e = let g : ⊥ = cc in absurd g
body_bound (AtomTerm a) b e = let same : AtomTerm a ≡ b = cc in ap var_bound (sym same)
body_bound (Compound f end) b e = let same : Compound f end ≡ b = cc in ap var_bound (sym same)
body_bound (Compound f (more x end)) b e = let same : Compound f (more x end) ≡ b = cc in ap var_bound (sym same)
body_bound (Compound f (more x (more y end))) b e = go (is_junction f) e (λ d k. body_bound x d k) (λ d k. body_bound y d k)
  where
    go : (v : Bool) → cond v (junction f (body_of x) (body_of y)) (Some (binary f x y)) ≡ Some b → ((d : Term) → body_of x ≡ Some d → var_bound d ≡ var_bound x)
        → ((d : Term) → body_of y ≡ Some d → var_bound d ≡ var_bound y) → var_bound b ≡ var_bound (binary f x y)
    go true k h i = junction_bound f x y b (body_of x) (body_of y) h i k
    go false k h i = let same : binary f x y ≡ b = cc in ap var_bound (sym same)
body_bound (Compound f (more x (more y (more z ts)))) b e = let same : Compound f (more x (more y (more z ts))) ≡ b = cc in ap var_bound (sym same)

called_bound : (t : Term) (gs : List Term) → called_goals t ≡ Some gs → goals_bound gs ≡ var_bound t
called_bound t gs e = go (body_of t) refl e
  where
    go : (o : Option Term) → body_of t ≡ o → option_map goals_of o ≡ Some gs → goals_bound gs ≡ var_bound t
    go (Some b) k h = let same : goals_of b ≡ gs = cc in ap goals_bound (sym same) ∙ (goals_of-bound b ∙ body_bound t b k)
    go None k h = let g : ⊥ = cc in absurd g

terms-items : (cut : Scope) (gs : List Term) → goal_terms (goal_items cut gs) ≡ gs
terms-items cut [] = refl
terms-items cut (g ∷ gs) = ap (λ hs. g ∷ hs) (terms-items cut gs)

append_none : (items : List Item) → items ++ [] ≡ items
append_none [] = refl
append_none (i ∷ items) = ap (λ r. i ∷ r) (append_none items)

-- goals that were made of a term
pub record AreMade (t : Term) (items : List Item) : Type 0 where
  pub goals : List Term
  pub called : called_goals t ≡ Some goals
  pub are : items ≡ goal_items (Local 0) goals

pub made_of : (t : Term) (items rest : List Item) → rest ≡ [] → option_map (λ gs. goal_items (Local 0) gs ++ rest) (called_goals t) ≡ Some items → AreMade t items
made_of t items rest r e = go (called_goals t) refl e
  where
    go : (o : Option (List Term)) → called_goals t ≡ o → option_map (λ gs. goal_items (Local 0) gs ++ rest) o ≡ Some items → AreMade t items
    go (Some gs) k h =
        let same : goal_items (Local 0) gs ++ rest ≡ items = cc in
        record { goals = gs; called = k; are = sym same ∙ (ap (λ x. goal_items (Local 0) gs ++ x) r ∙ append_none (goal_items (Local 0) gs)) }
    go None k h = let g : ⊥ = cc in absurd g

pub made_terms : (t : Term) (items : List Item) → AreMade t items → called_goals t ≡ Some (goal_terms items)
made_terms t items m = m.called ∙ ap Some (sym (ap goal_terms m.are ∙ terms-items (Local 0) m.goals))

pub made_kept : (t : Term) (items : List Item) (names : List VarName) (vars : ℕ) → AreMade t items → vars ≡ max (var_bound t) (names_bound (map variable_meant names)) → IsQueryInvariant items names vars
made_kept t items names vars m e =
    let terms : goal_terms items ≡ m.goals = ap goal_terms m.are ∙ terms-items (Local 0) m.goals in
    record {
      goals = m.are ∙ ap (goal_items (Local 0)) (sym terms);
      vars_are = e ∙ ap (λ n. max n (names_bound (map variable_meant names))) (sym (ap goals_bound terms ∙ called_bound t m.goals m.called));
    }

-- what is kept of a query
pub query_kept : (t : Term) (items : List Item) (names : List VarName) (q : Query) → AreMade t items → q ≡ query_meant items names → query_with (map variable_meant names) (called_goals t) ≡ QuerySentence q
query_kept t items names q m e = ap (query_with (map variable_meant names)) (made_terms t items m) ∙ ap QuerySentence (sym e)
