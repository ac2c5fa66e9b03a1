-- Terms as bodies (ISO/IEC 13211-1, 7.6.2).
use Rattle.std.specs.Prelude.{ℕ, Bool, ◌||◌, cond, List, [], ◌∷◌, ◌++◌, Option, Some, None, codes}
use Rattle.std.specs.Option.{option_map}
use Rattle.au_term.specs.Term.{Term, VarTerm, IntTerm, AtomTerm, Compound, end, more}
use Rattle.au_model.specs.Terms.Forms.{same_name, unary, binary}

abbrev pub call_of : Term → Term
call_of t = unary (codes "call") t

-- the names under which goals are due on both sides
abbrev pub is_junction : List ℕ → Bool
is_junction f = same_name f (codes ",") || (same_name f (codes ";") || same_name f (codes "->"))

-- a compound with a goal on each side, unless one is missing
abbrev pub junction : List ℕ → Option Term → Option Term → Option Term
junction f (Some a) (Some b) = Some (binary f a b)
junction f (Some a) None = None
junction f None b = None

-- the body that a term stands for: a variable where a goal is due becomes a call of it, below `,`, `;` and `->` too;
-- none where an integer is there
abbrev pub body_of : Term → Option Term
body_of (VarTerm n) = Some (call_of (VarTerm n))
body_of (IntTerm z) = None
body_of (AtomTerm a) = Some (AtomTerm a)
body_of (Compound f (more a (more b end))) = cond (is_junction f) (junction f (body_of a) (body_of b)) (Some (binary f a b))
body_of (Compound f ts) = Some (Compound f ts)

-- the goals of a body: its conjunctions taken apart, so that `,` is never a goal
abbrev pub goals_of : Term → List Term
goals_of (Compound f (more a (more b end))) = cond (same_name f (codes ",")) (goals_of a ++ goals_of b) (binary f a b ∷ [])
goals_of t = t ∷ []

-- the goals of a clause's body: none where the whole body is `true`
abbrev pub clause_goals_of : Term → List Term
clause_goals_of (AtomTerm a) = cond (same_name a (codes "true")) [] (AtomTerm a ∷ [])
clause_goals_of t = goals_of t

-- the goals of a term that is called, or none where it is no body
abbrev pub called_goals : Term → Option (List Term)
called_goals t = option_map goals_of (body_of t)
