-- Bodies kept goal by goal.
use Rattle.std.proofs.Common.{◌≡◌, ℕ, suc, ◌+◌, ◌<◌, ◌≤◌, Bool, true, false, cond, ◌==◌, ◌&&◌, List, [], ◌∷◌, ◌++◌, length, drop, Option, Some, None, refl, sym, ap, ◌∙◌, append_assoc, append-nil, arith}
use Rattle.std.proofs.lemmas.Bool.{eqb-true}
use Rattle.std.proofs.lemmas.List.{drop-drop, drop_all}
use Rattle.std.specs.Option.{option_map}
use Rattle.au_term.specs.Term.{Term, VarTerm, IntTerm, AtomTerm, Compound, end, more, count}
use Rattle.au_term.specs.PrefixOrder.{cells_of, top_of, terms_of, term_of, term_of-cells_of, terms_of-cells_of, terms_of-all_cells, subterm, due_after}
use Rattle.au_term.specs.declared.cell.Cell.{Cell}
use Rattle.au_term.specs.declared.cell.Cell.TheVariants.{Var as VarCell, Int as IntCell, Functor}
use Rattle.au_term.proofs.WholeTermLemmas.{DueAfter-cells_of, due_after-is, due_after-append}
use Rattle.au_term.proofs.StoredTermLemmas.{Ends}
use Rattle.au_term.proofs.SubtermLemmas.{some_cell}
use Rattle.au_model.specs.Terms.Forms.{binary}
use Rattle.run_model.specs.Programs.Bodies.{body_of, call_of, is_junction, junction}
use Rattle.clause_compile.specs.BodyCells.{opens_junction}
use Rattle.clause_compile.specs.NormalBodies.{joined_cells, bodies_cells, NormalizesGoal}

-- the term that is at a place, and those after it
pub stands_first : (t : Term) (at stop : ℕ) → Ends t at stop → terms_of (drop at (cells_of t)) ≡ more (subterm at t) (terms_of (drop stop (cells_of t)))
stands_first t at stop e = ap terms_of e.rest ∙ terms_of-cells_of (subterm at t) (drop stop (cells_of t))

pub goes_forward : (t : Term) (at stop : ℕ) → Ends t at stop → at < stop
goes_forward t at stop e = omega (arith, e.end, some_cell (subterm at t))

pub joined-twice : (cs ds : List Cell) (o : Option (List Cell)) → joined_cells (Some (cs ++ ds)) o ≡ joined_cells (Some cs) (joined_cells (Some ds) o)
joined-twice cs ds None = refl
joined-twice cs ds (Some es) = ap Some (append_assoc cs ds es)

pub due_after_term : (t : Term) (n : ℕ) → due_after (suc n) (cells_of t) ≡ n
due_after_term t n = due_after-is (suc n) (cells_of t) n (rw (← append-nil (cells_of t)) (DueAfter-cells_of t [] n n refl))

-- a goal that is at a place is kept as it is, or as a call
pub keeps_goal : (t : Term) (at stop : ℕ) (built now : List Cell) (kept : Term) → Ends t at stop → due_after 1 built ≡ count (terms_of (drop at (cells_of t)))
    → body_of (subterm at t) ≡ Some kept → now ≡ built ++ cells_of kept → NormalizesGoal (cells_of t) at stop built now
keeps_goal t at stop built now kept e d b n =
    let rest = terms_of (drop stop (cells_of t)) in
    let first = stands_first t at stop e in
    record {
      forward = goes_forward t at stop e;
      within = e.within;
      due = ap (due_after 1) n ∙ (due_after-append 1 built (cells_of kept) ∙ (ap (λ k. due_after k (cells_of kept)) (d ∙ ap count first) ∙ due_after_term kept (count rest)));
      same = ap (λ cs. joined_cells (Some cs) (bodies_cells rest)) n ∙ (joined-twice built (cells_of kept) (bodies_cells rest)
          ∙ ap (joined_cells (Some built)) (ap (λ o. joined_cells (option_map cells_of o) (bodies_cells rest)) (sym b) ∙ ap bodies_cells (sym first)));
    }

-- a term that is no body leaves no body
pub no_goal : (t : Term) (at stop : ℕ) → Ends t at stop → body_of (subterm at t) ≡ None → bodies_cells (terms_of (drop at (cells_of t))) ≡ None
no_goal t at stop e b = ap bodies_cells (stands_first t at stop e) ∙ ap (λ o. joined_cells (option_map cells_of o) (bodies_cells (terms_of (drop stop (cells_of t))))) b

-- a compound of two arguments
pub record IsBinary (t : Term) (c : Cell) (test : List ℕ → Bool) : Type 0 where
  pub name : List ℕ
  pub left : Term
  pub right : Term
  pub is : t ≡ binary name left right
  pub top : c ≡ Functor name 2
  pub holds : test name ≡ true

and-left : (a b : Bool) → a && b ≡ true → a ≡ true
and-left true b h = refl
and-left false b h = absurd cc

and-right : (a b : Bool) → a && b ≡ true → b ≡ true
and-right true b h = h
and-right false b h = absurd cc

pub is_binary : (t : Term) (f : List ℕ) (n : ℕ) (test : List ℕ → Bool) → top_of t ≡ Functor f n → (n == 2) && test f ≡ true → IsBinary t (top_of t) test
is_binary (Compound g (more a (more b end))) f n test e h =
    let same : g ≡ f = cc in
    record { name = g; left = a; right = b; is = refl; top = refl; holds = ap test same ∙ and-right (n == 2) (test f) h }
is_binary (Compound g end) f n test e h = let none : 0 ≡ n = cc in absurd (omega (arith, eqb-true n 2 (and-left (n == 2) (test f) h)))
is_binary (Compound g (more a end)) f n test e h = let one : 1 ≡ n = cc in absurd (omega (arith, eqb-true n 2 (and-left (n == 2) (test f) h)))
is_binary (Compound g (more a (more b (more c ts)))) f n test e h = let many : suc (suc (suc (count ts))) ≡ n = cc in absurd (omega (arith, eqb-true n 2 (and-left (n == 2) (test f) h)))
is_binary (VarTerm m) f n test e h = absurd cc
is_binary (IntTerm m) f n test e h = absurd cc
is_binary (AtomTerm m) f n test e h = absurd cc

pub junction_sides : (t : Term) → opens_junction (top_of t) ≡ true → IsBinary t (top_of t) is_junction
junction_sides (Compound f ts) h = is_binary (Compound f ts) f (count ts) is_junction refl h
junction_sides (VarTerm m) h = absurd cc
junction_sides (IntTerm m) h = absurd cc
junction_sides (AtomTerm m) h = absurd cc

-- the bodies of both sides of a junction come one after the other
pub junction-cells : (f : List ℕ) (a b : Option Term) (o : Option (List Cell)) → joined_cells (option_map cells_of (junction f a b)) o ≡ joined_cells (Some (Functor f 2 ∷ [])) (joined_cells (option_map cells_of a) (joined_cells (option_map cells_of b) o))
junction-cells f (Some a) (Some b) (Some cs) =
    ap (λ ds. Some (Functor f 2 ∷ ds)) (append_assoc (cells_of a) (cells_of b ++ []) cs ∙ ap (λ ds. cells_of a ++ (ds ++ cs)) (append-nil (cells_of b)))
junction-cells f (Some a) (Some b) None = refl
junction-cells f (Some a) None o = refl
junction-cells f None b o = refl

pub junction_body : (f : List ℕ) (a b : Term) → is_junction f ≡ true → body_of (binary f a b) ≡ junction f (body_of a) (body_of b)
junction_body f a b h = ap (λ k. cond k (junction f (body_of a) (body_of b)) (Some (binary f a b))) h

-- the cells after the first one of a compound of two arguments
pub both_after : (t : Term) (at stop : ℕ) (f : List ℕ) (a b : Term) → Ends t at stop → subterm at t ≡ binary f a b
    → terms_of (drop (at + 1) (cells_of t)) ≡ more a (more b (terms_of (drop stop (cells_of t))))
both_after t at stop f a b e is =
    let cells : drop at (cells_of t) ≡ cells_of (binary f a b) ++ drop stop (cells_of t) = e.rest ∙ ap (λ u. cells_of u ++ drop stop (cells_of t)) is in
    ap terms_of (sym (drop-drop 1 at (cells_of t)) ∙ ap (drop 1) cells) ∙ terms_of-all_cells (more a (more b end)) (drop stop (cells_of t))

pub keeps_junction : (t : Term) (at stop : ℕ) (built now : List Cell) → Ends t at stop → due_after 1 built ≡ count (terms_of (drop at (cells_of t)))
    → IsBinary (subterm at t) (top_of (subterm at t)) is_junction → now ≡ built ++ top_of (subterm at t) ∷ [] → NormalizesGoal (cells_of t) at (at + 1) built now
keeps_junction t at stop built now e d s n =
    let rest = terms_of (drop stop (cells_of t)) in
    let first = stands_first t at stop e in
    let behind = both_after t at stop s.name s.left s.right e s.is in
    let step : due_after (suc (count rest)) (Functor s.name 2 ∷ []) ≡ suc (suc (count rest)) = omega arith in
    let put : now ≡ built ++ Functor s.name 2 ∷ [] = n ∙ ap (λ c. built ++ c ∷ []) s.top in
    record {
      forward = omega arith;
      within = omega (arith, goes_forward t at stop e, e.within);
      due = ap (due_after 1) put ∙ (due_after-append 1 built (Functor s.name 2 ∷ []) ∙ (ap (λ k. due_after k (Functor s.name 2 ∷ [])) (d ∙ ap count first) ∙ (step ∙ ap count (sym behind))));
      same = ap (joined_cells (Some now)) (ap bodies_cells behind) ∙ (ap (λ cs. joined_cells (Some cs) (bodies_cells (more s.left (more s.right rest)))) put ∙ (joined-twice built (Functor s.name 2 ∷ []) (bodies_cells (more s.left (more s.right rest)))
          ∙ ap (joined_cells (Some built)) (sym (junction-cells s.name (body_of s.left) (body_of s.right) (bodies_cells rest)) ∙ (ap (λ o. joined_cells (option_map cells_of o) (bodies_cells rest)) (sym (ap body_of s.is ∙ junction_body s.name s.left s.right s.holds)) ∙ ap bodies_cells (sym first)))));
    }

-- any other term that begins with a name is its own body
pub own_body : (t : Term) → opens_junction (top_of t) ≡ false → ((n : ℕ) → top_of t ≡ VarCell n → ⊥) → ((z : _) → top_of t ≡ IntCell z → ⊥) → body_of t ≡ Some t
own_body (VarTerm n) h v i = absurd (v n refl)
own_body (IntTerm z) h v i = absurd (i z refl)
own_body (AtomTerm a) h v i = refl
own_body (Compound f end) h v i = refl
own_body (Compound f (more a end)) h v i = refl
own_body (Compound f (more a (more b end))) h v i = ap (λ k. cond k (junction f (body_of a) (body_of b)) (Some (binary f a b))) h
own_body (Compound f (more a (more b (more c ts)))) h v i = refl

pub variable_body : (t : Term) (n : ℕ) → top_of t ≡ VarCell n → body_of t ≡ Some (call_of (VarTerm n))
variable_body (VarTerm m) n e = let same : m ≡ n = cc in ap (λ k. Some (call_of (VarTerm k))) same
variable_body (IntTerm m) n e = absurd cc
variable_body (AtomTerm m) n e = absurd cc
variable_body (Compound f ts) n e = absurd cc

pub integer_body : (t : Term) (z : _) → top_of t ≡ IntCell z → body_of t ≡ None
integer_body (VarTerm m) n e = absurd cc
integer_body (IntTerm m) n e = refl
integer_body (AtomTerm m) n e = absurd cc
integer_body (Compound f ts) n e = absurd cc

-- what is built and the bodies of what is left are the cells of the whole body
pub record Keeping (t : Term) (at : ℕ) (built : List Cell) : Type 0 where
  pub within : at ≤ length (cells_of t)
  pub due : due_after 1 built ≡ count (terms_of (drop at (cells_of t)))
  pub all : joined_cells (Some built) (bodies_cells (terms_of (drop at (cells_of t)))) ≡ option_map cells_of (body_of t)

pub joined-end : (o : Option Term) → joined_cells (option_map cells_of o) (Some []) ≡ option_map cells_of o
joined-end (Some t) = ap Some (append-nil (cells_of t))
joined-end None = refl

pub joined-start : (o : Option (List Cell)) → joined_cells (Some []) o ≡ o
joined-start (Some cs) = refl
joined-start None = refl

pub starts : (t : Term) → Keeping t 0 []
starts t =
    let one : terms_of (cells_of t) ≡ more t end = ap terms_of (sym (append-nil (cells_of t))) ∙ terms_of-cells_of t [] in
    record {
      within = omega arith;
      due = ap count (sym one);
      all = joined-start (bodies_cells (terms_of (cells_of t))) ∙ (ap bodies_cells one ∙ joined-end (body_of t));
    }

pub goes_on : (t : Term) (at next : ℕ) (built now : List Cell) → Keeping t at built → NormalizesGoal (cells_of t) at next built now → Keeping t next now
goes_on t at next built now k s = record { within = s.within; due = s.due; all = s.same ∙ k.all }

pub no_cells : (o : Option Term) → None ≡ option_map cells_of o → None ≡ o
no_cells None e = refl
no_cells (Some t) e = absurd cc

pub no_body : (t : Term) (at : ℕ) (built : List Cell) → Keeping t at built → bodies_cells (terms_of (drop at (cells_of t))) ≡ None → None ≡ body_of t
no_body t at built k e = no_cells (body_of t) (ap (joined_cells (Some built)) (sym e) ∙ k.all)

pub nothing_due : (t : Term) (at : ℕ) (built : List Cell) → Keeping t at built → length (cells_of t) ≤ at → due_after 1 built ≡ 0
nothing_due t at built k h = k.due ∙ ap (λ cs. count (terms_of cs)) (drop_all at (cells_of t) h)

pub same_body : (u : Term) (o : Option Term) → Some (cells_of u) ≡ option_map cells_of o → Some u ≡ o
same_body u (Some t) e = let same : cells_of u ≡ cells_of t = cc in ap Some (sym (term_of-cells_of u) ∙ (ap term_of same ∙ term_of-cells_of t))
same_body u None e = absurd cc

pub ends : (t u : Term) (at : ℕ) (built : List Cell) → Keeping t at built → length (cells_of t) ≤ at → cells_of u ≡ built → Some u ≡ body_of t
ends t u at built k h e =
    same_body u (body_of t) (ap Some (e ∙ sym (append-nil built)) ∙ (ap (λ cs. joined_cells (Some built) (bodies_cells (terms_of cs))) (sym (drop_all at (cells_of t) h)) ∙ k.all))
