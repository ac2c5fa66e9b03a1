-- What a goal comes to has no variable past its own and the new ones.
use Rattle.std.proofs.Common.{◌≡◌, ℕ, zero, suc, ◌+◌, ◌≤◌, Bool, true, false, ◌&&◌, ◌==◌, cond, List, [], ◌∷◌, ◌++◌, length, Option, Some, None, sym, arith}
use Rattle.std.specs.Prelude.{codes, nat_lt}
use Rattle.std.proofs.lemmas.Bool.{eqb-true}
use Rattle.std.specs.Option.{option_map}
use Rattle.au_term.specs.Term.{Term, VarTerm, IntTerm, AtomTerm, Compound, Terms, end, more, all_bound, count, drop_terms, term_at, arguments, argument_count}
use Rattle.au_model.specs.Terms.Each.{Each}
use Rattle.run_model.specs.Laws.Numbering.{IsTermBelow, AreTermsBelow}
use Rattle.au_model.specs.Terms.Substitutions.{apply}
use Rattle.au_model.specs.Terms.Copies.{seen_in}
use Rattle.au_model.specs.Terms.Forms.{same_name, binary, name_of}
use Rattle.au_term.specs.PrefixOrder.{append_terms}
use Rattle.run_model.specs.Programs.Bodies.{is_junction, junction, body_of, goals_of, clause_goals_of, called_goals, call_of}
use Rattle.run_model.specs.Programs.Clauses.{Clause, clause_variables, clause_renaming, renamed_head, is_defined}
use Rattle.run_model.specs.Goals.Outcomes.{Ball, EitherOf, TestOf, Outcome, clause_solution, alternatives_of}
use Rattle.run_model.specs.Goals.Control.{Construct, is_named, construct_of, control_constructs, with_arguments, called, call_outcome, throw_outcome, either_form}
use Rattle.run_model.specs.Goals.Builtins.{builtins}
use Rattle.run_model.specs.Programs.Databases.{NumberedClause, clauses_of, plain_clauses}
use Rattle.run_model.specs.Goals.Worlds.{World, WorldConstruct, Statics, static_among, world_constructs, is_world_construct, world_construct_of, is_world_goal, dynamic_call, by_world_construct, world_step}
use Rattle.run_model.specs.Goals.GoalOutcomes.{by_procedure, by_world_goal, by_builtin, by_construct, named_outcome, outcome_of}
use Rattle.au_model.proofs.EachLemmas.{IfFound, found_row, each-append, each-map}
use Rattle.run_model.proofs.BuiltinRowBoundLemmas.{IsSolutionBelow, IsReplyBelow, IsFormBelow, IsOutcomeBelow, IsRowBelow, term-below}
use Rattle.run_model.proofs.BuiltinBoundLemmas.{builtins_below}
use Rattle.run_model.proofs.WorldGoalBoundLemmas.{IsWorldRowBelow, world_rows_below}
use Rattle.au_model.proofs.VariableBoundLemmas.{AllSeen, all_seen, still_seen, renamed-below}

-- bodies and goals
goals-below : (b : ℕ) (t : Term) → IsTermBelow b t → AreTermsBelow b (goals_of t)
goals-below b (VarTerm n) h = (h, tt)
goals-below b (IntTerm z) h = (h, tt)
goals-below b (AtomTerm a) h = (h, tt)
goals-below b (Compound f end) h = (h, tt)
goals-below b (Compound f (more t end)) h = (h, tt)
goals-below b (Compound f (more t (more u end))) h = go (same_name f (codes ",")) (each-append (IsTermBelow b) (goals_of t) (goals_of u) (goals-below b t (omega arith)) (goals-below b u (omega arith)))
  where
    go : (c : Bool) → AreTermsBelow b (goals_of t ++ goals_of u) → AreTermsBelow b (cond c (goals_of t ++ goals_of u) (binary f t u ∷ []))
    go true k = k
    go false k = (h, tt)
goals-below b (Compound f (more t (more u (more v ts)))) h = (h, tt)

junction-below : (f : List ℕ) (b : ℕ) (o r : Option Term) → IfFound (IsTermBelow b) o → IfFound (IsTermBelow b) r → IfFound (IsTermBelow b) (junction f o r)
junction-below f b (Some t) (Some u) h k = omega arith
junction-below f b (Some t) None h k = tt
junction-below f b None r h k = tt

body-below : (b : ℕ) (t : Term) → IsTermBelow b t → IfFound (IsTermBelow b) (body_of t)
body-below b (VarTerm n) h = omega arith
body-below b (IntTerm z) h = tt
body-below b (AtomTerm a) h = h
body-below b (Compound f end) h = h
body-below b (Compound f (more t end)) h = h
body-below b (Compound f (more t (more u end))) h = go (is_junction f) (junction-below f b (body_of t) (body_of u) (body-below b t (omega arith)) (body-below b u (omega arith)))
  where
    go : (c : Bool) → IfFound (IsTermBelow b) (junction f (body_of t) (body_of u)) → IfFound (IsTermBelow b) (cond c (junction f (body_of t) (body_of u)) (Some (binary f t u)))
    go true k = k
    go false k = h
body-below b (Compound f (more t (more u (more v ts)))) h = h

called-below : (b arity : ℕ) (g : Term) (o : Option Term) → IfFound (IsTermBelow b) o → IsOutcomeBelow b (called arity g (option_map goals_of o))
called-below b arity g None h = tt
called-below b arity g (Some t) h = goals-below b t h

-- arguments
pub drop-below : (n b : ℕ) (ts : Terms) → all_bound ts ≤ b → all_bound (drop_terms n ts) ≤ b
drop-below zero b ts h = h
drop-below (suc n) b end h = h
drop-below (suc n) b (more t ts) h = drop-below n b ts (omega arith)

pub append-below : (b : ℕ) (ts us : Terms) → all_bound ts ≤ b → all_bound us ≤ b → all_bound (append_terms ts us) ≤ b
append-below b end us h k = k
append-below b (more t ts) us h k = omega (arith, append-below b ts us (omega arith) k)

with-below : (b : ℕ) (t : Term) (us : Terms) → IsTermBelow b t → all_bound us ≤ b → IsTermBelow b (with_arguments t us)
with-below b (VarTerm n) end h k = h
with-below b (VarTerm n) (more u us) h k = h
with-below b (IntTerm z) end h k = h
with-below b (IntTerm z) (more u us) h k = h
with-below b (AtomTerm a) end h k = h
with-below b (AtomTerm a) (more u us) h k = k
with-below b (Compound f ts) end h k = h
with-below b (Compound f ts) (more u us) h k = append-below b ts (more u us) h k

checked-below : (b arity : ℕ) (o : Outcome) (goal : Term) → IsTermBelow b goal → (c : Bool) → IsReplyBelow b (Ball goal) → IsOutcomeBelow b o → IsOutcomeBelow b (cond c o (called arity goal (called_goals goal)))
checked-below b arity o goal h true r k = k
checked-below b arity o goal h false r k = called-below b arity goal (body_of goal) (body-below b goal h)

call-below : (b arity : ℕ) (t : Term) (us : Terms) → IsTermBelow b t → all_bound us ≤ b → IsOutcomeBelow b (call_outcome arity t us)
call-below b arity (VarTerm n) us h k = tt
call-below b arity (IntTerm z) us h k = tt
call-below b arity (AtomTerm a) us h k = let goal = with_arguments (AtomTerm a) us in checked-below b arity _ goal (with-below b (AtomTerm a) us h k) (nat_lt 65535 (argument_count goal)) tt tt
call-below b arity (Compound f ts) us h k = let goal = with_arguments (Compound f ts) us in checked-below b arity _ goal (with-below b (Compound f ts) us h k) (nat_lt 65535 (argument_count goal)) tt tt

throw-below : (b : ℕ) (t : Term) → IsOutcomeBelow b (throw_outcome t)
throw-below b (VarTerm n) = tt
throw-below b (IntTerm z) = tt
throw-below b (AtomTerm a) = tt
throw-below b (Compound f ts) = tt

either-below : (b : ℕ) (t e : Term) → IsTermBelow b t → IsTermBelow b e → IsFormBelow b (either_form t e)
either-below b (VarTerm n) e h k = (goals-below b (VarTerm n) h, goals-below b e k)
either-below b (IntTerm z) e h k = (goals-below b (IntTerm z) h, goals-below b e k)
either-below b (AtomTerm a) e h k = (goals-below b (AtomTerm a) h, goals-below b e k)
either-below b (Compound f end) e h k = (goals-below b (Compound f end) h, goals-below b e k)
either-below b (Compound f (more c end)) e h k = (goals-below b (Compound f (more c end)) h, goals-below b e k)
either-below b (Compound f (more c (more t end))) e h k = go (same_name f (codes "->")) (goals-below b (binary f c t) h) (goals-below b c (omega arith)) (goals-below b t (omega arith)) (goals-below b e k)
  where
    go : (d : Bool) → AreTermsBelow b (goals_of (binary f c t)) → AreTermsBelow b (goals_of c) → AreTermsBelow b (goals_of t) → AreTermsBelow b (goals_of e) → IsFormBelow b (cond d (TestOf (goals_of c) (goals_of t) (goals_of e)) (EitherOf (goals_of (binary f c t)) (goals_of e)))
    go true whole left right other = (left, right, other)
    go false whole left right other = (whole, other)
either-below b (Compound f (more c (more t (more u ts)))) e h k = (goals-below b (Compound f (more c (more t (more u ts)))) h, goals-below b e k)

atom_goal : (b : ℕ) (a : List ℕ) → AreTermsBelow b (AtomTerm a ∷ [])
atom_goal b a = (omega arith, tt)

call_goal : (b : ℕ) (t : Term) → IsTermBelow b t → AreTermsBelow b (call_of t ∷ [])
call_goal b t h = (omega arith, tt)

call_row-below : (arity : ℕ) (ts : Terms) (next : ℕ) → 1 ≤ arity → count ts ≡ arity → all_bound ts ≤ next → IsOutcomeBelow next (call_outcome arity (term_at 0 ts) (drop_terms 1 ts))
call_row-below arity ts next some n h = call-below next arity (term_at 0 ts) (drop_terms 1 ts) (term-below 0 next ts (omega arith) h) (drop-below 1 next ts h)

pub control_below : Each IsRowBelow control_constructs
control_below = (
  λ ts next n h. tt,
  (
    λ ts next n h. tt,
    (
      λ ts next n h. tt,
      (
        λ ts next n h. tt,
        (
          λ ts next n h. either-below next (term_at 0 ts) (term_at 1 ts) (term-below 0 next ts (omega arith) h) (term-below 1 next ts (omega arith) h),
          (
            λ ts next n h. (goals-below next (term_at 0 ts) (term-below 0 next ts (omega arith) h), goals-below next (term_at 1 ts) (term-below 1 next ts (omega arith) h), atom_goal next (codes "fail")),
            (
              λ ts next n h. (call_goal next (term_at 0 ts) (term-below 0 next ts (omega arith) h), atom_goal next (codes "fail"), atom_goal next (codes "true")),
              (
                λ ts next n h. (call_goal next (term_at 0 ts) (term-below 0 next ts (omega arith) h), atom_goal next (codes "true"), atom_goal next (codes "fail")),
                (
                  λ ts next n h. throw-below next (term_at 0 ts),
                  (
                    λ ts next n h. (term-below 0 next ts (omega arith) h, term-below 1 next ts (omega arith) h, term-below 2 next ts (omega arith) h),
                    (
                      λ ts next n h. (term-below 0 next ts (omega arith) h, term-below 1 next ts (omega arith) h, term-below 2 next ts (omega arith) h),
                      (
                        λ ts next n h. call_row-below 1 ts next (omega arith) n h,
                        (
                          λ ts next n h. call_row-below 2 ts next (omega arith) n h,
                          (
                            λ ts next n h. call_row-below 3 ts next (omega arith) n h,
                            (
                              λ ts next n h. call_row-below 4 ts next (omega arith) n h,
                              (
                                λ ts next n h. call_row-below 5 ts next (omega arith) n h,
                                (
                                  λ ts next n h. call_row-below 6 ts next (omega arith) n h,
                                  (
                                    λ ts next n h. call_row-below 7 ts next (omega arith) n h,
                                    (
                                      λ ts next n h. call_row-below 8 ts next (omega arith) n h,
                                      tt,
                                    ),
                                  ),
                                ),
                              ),
                            ),
                          ),
                        ),
                      ),
                    ),
                  ),
                ),
              ),
            ),
          ),
        ),
      ),
    ),
  ),
)

-- clauses
seen_goals : (seen : List ℕ) (t : Term) → AllSeen seen t → Each (AllSeen seen) (goals_of t)
seen_goals seen (VarTerm n) h = (h, tt)
seen_goals seen (IntTerm z) h = (h, tt)
seen_goals seen (AtomTerm a) h = (h, tt)
seen_goals seen (Compound f end) h = (h, tt)
seen_goals seen (Compound f (more t end)) h = (h, tt)
seen_goals seen (Compound f (more t (more u end))) h = go (same_name f (codes ",")) (each-append (AllSeen seen) (goals_of t) (goals_of u) (seen_goals seen t h.0) (seen_goals seen u h.1.0))
  where
    go : (c : Bool) → Each (AllSeen seen) (goals_of t ++ goals_of u) → Each (AllSeen seen) (cond c (goals_of t ++ goals_of u) (binary f t u ∷ []))
    go true k = k
    go false k = (h, tt)
seen_goals seen (Compound f (more t (more u (more v ts)))) h = (h, tt)

seen_clause_goals : (seen : List ℕ) (t : Term) → AllSeen seen t → Each (AllSeen seen) (clause_goals_of t)
seen_clause_goals seen (VarTerm n) h = (h, tt)
seen_clause_goals seen (IntTerm z) h = (h, tt)
seen_clause_goals seen (AtomTerm a) h = go (same_name a (codes "true"))
  where
    go : (c : Bool) → Each (AllSeen seen) (cond c [] (AtomTerm a ∷ []))
    go true = tt
    go false = (tt, tt)
seen_clause_goals seen (Compound f ts) h = seen_goals seen (Compound f ts) h

clause-below : (goal : Term) (next : ℕ) → IsTermBelow next goal → (c : Clause) → IsSolutionBelow next (clause_solution goal next c)
clause-below goal next h c =
    let seen = clause_variables c in
    let head : IsTermBelow (next + length seen) (renamed_head c next) = renamed-below seen next c.head (still_seen c.body c.head (seen_in c.head []) (all_seen c.head [])) in
    (omega arith, each-map (AllSeen seen) (IsTermBelow (next + length seen)) (apply (clause_renaming c next)) (renamed-below seen next) (clause_goals_of c.body) (seen_clause_goals seen c.body (all_seen c.body (seen_in c.head []))))

any_clause : (cs : List Clause) → Each (λ c. Unit {0}) cs
any_clause [] = tt
any_clause (c ∷ cs) = (tt, any_clause cs)

pub alternatives-below : (cs : List Clause) (goal : Term) (next : ℕ) → IsTermBelow next goal → Each (IsSolutionBelow next) (alternatives_of cs goal next)
alternatives-below cs goal next h = each-map (λ c. Unit {0}) (IsSolutionBelow next) (clause_solution goal next) (λ c k. clause-below goal next h c) cs (any_clause cs)

-- any goal
arity_named : (name : List ℕ) (arity : ℕ) (c : Construct) → is_named name arity c ≡ true → arity ≡ c.arity
arity_named name arity c h = sym (eqb-true c.arity arity (second_true (same_name c.name name) (c.arity == arity) h))
  where
    second_true : (a b : Bool) → (a && b) ≡ true → b ≡ true
    second_true true b k = k
    second_true false b k = cc

procedure-below : (b : Bool) (clauses : List Clause) (g : Term) (next : ℕ) → IsTermBelow next g → IsOutcomeBelow next (by_procedure b clauses g next)
procedure-below true clauses g next h = alternatives-below clauses g next h
procedure-below false clauses g next h = h

world_goal-below : (b : Bool) (clauses : List Clause) (g : Term) (next : ℕ) → IsTermBelow next g → IsOutcomeBelow next (by_world_goal b clauses g next)
world_goal-below true clauses g next h = h
world_goal-below false clauses g next h = procedure-below (is_defined clauses (name_of g) (argument_count g)) clauses g next h

pub arguments-below : (b : ℕ) (g : Term) → IsTermBelow b g → all_bound (arguments g) ≤ b
arguments-below b (VarTerm n) h = omega arith
arguments-below b (IntTerm z) h = omega arith
arguments-below b (AtomTerm a) h = omega arith
arguments-below b (Compound f ts) h = h

builtin-below : (o : Option Construct) (clauses : List Clause) (g : Term) (next : ℕ) → IfFound (λ c. IsRowBelow c × (is_named (name_of g) (argument_count g) c ≡ true)) o → IsTermBelow next g → IsOutcomeBelow next (by_builtin o clauses g next)
builtin-below None clauses g next r h = world_goal-below (is_world_goal (name_of g) (argument_count g)) clauses g next h
builtin-below (Some c) clauses g next r h = r.0 (arguments g) next (arity_named (name_of g) (argument_count g) c r.1) (arguments-below next g h)

construct-below : (o : Option Construct) (clauses : List Clause) (g : Term) (next : ℕ) → IfFound (λ c. IsRowBelow c × (is_named (name_of g) (argument_count g) c ≡ true)) o → IsTermBelow next g → IsOutcomeBelow next (by_construct o clauses g next)
construct-below None clauses g next r h =
    builtin-below (construct_of builtins (name_of g) (argument_count g)) clauses g next (found_row IsRowBelow (is_named (name_of g) (argument_count g)) builtins builtins_below) h
construct-below (Some c) clauses g next r h = r.0 (arguments g) next (arity_named (name_of g) (argument_count g) c r.1) (arguments-below next g h)

named-below : (clauses : List Clause) (g : Term) (next : ℕ) → IsTermBelow next g → IsOutcomeBelow next (named_outcome clauses g next)
named-below clauses g next h =
    construct-below (construct_of control_constructs (name_of g) (argument_count g)) clauses g next (found_row IsRowBelow (is_named (name_of g) (argument_count g)) control_constructs control_below) h

pub outcome-below : (clauses : List Clause) (g : Term) (next : ℕ) → IsTermBelow next g → IsOutcomeBelow next (outcome_of clauses g next)
unfolding outcome_of
outcome-below clauses (VarTerm n) next h = tt
outcome-below clauses (IntTerm z) next h = tt
outcome-below clauses (AtomTerm a) next h = named-below clauses (AtomTerm a) next h
outcome-below clauses (Compound f ts) next h = named-below clauses (Compound f ts) next h

-- and any world goal
dynamic-below : (o : Option (List NumberedClause)) (g : Term) (next : ℕ) → IsTermBelow next g → IsReplyBelow next (dynamic_call o g next)
dynamic-below None g next h = tt
dynamic-below (Some cs) g next h = alternatives-below (plain_clauses cs) g next h

world_arity : (name : List ℕ) (arity : ℕ) (c : WorldConstruct) → is_world_construct name arity c ≡ true → arity ≡ c.arity
world_arity name arity c h = sym (eqb-true c.arity arity (second_true (same_name c.name name) (c.arity == arity) h))
  where
    second_true : (a b : Bool) → (a && b) ≡ true → b ≡ true
    second_true true b k = k
    second_true false b k = cc

world_construct-below : (o : Option WorldConstruct) (statics : Statics) (g : Term) (next : ℕ) (w : World) → IfFound (λ c. IsWorldRowBelow c × (is_world_construct (name_of g) (argument_count g) c ≡ true)) o → IsTermBelow next g → IsReplyBelow next ((by_world_construct o statics g next w).1)
world_construct-below None statics g next w r h = dynamic-below (clauses_of w.database (name_of g) (argument_count g)) g next h
world_construct-below (Some c) statics g next w r h = r.0 statics (arguments g) next w (world_arity (name_of g) (argument_count g) c r.1) (arguments-below next g h)

pub world-below : (clauses : List Clause) (g : Term) (next : ℕ) (w : World) → IsTermBelow next g → IsReplyBelow next ((world_step clauses g next w).1)
world-below clauses g next w h =
    world_construct-below (world_construct_of (name_of g) (argument_count g)) (static_among clauses) g next w (found_row IsWorldRowBelow (is_world_construct (name_of g) (argument_count g)) world_constructs world_rows_below) h
