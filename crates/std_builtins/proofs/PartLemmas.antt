-- Terms made of parts, and taken apart.
use Rattle.std.proofs.Common.{◌≡◌, ℕ, zero, suc, ◌+◌, ◌-◌, ◌<◌, ◌≤◌, true, false, List, [], ◌∷◌, ◌++◌, length, Result, Ok, refl, sym, ap, ap₂, ◌∙◌, subst, append_assoc, arith}
use Rattle.std.specs.Prelude.{nat_lt, Vec, None}
use Rattle.std.specs.Global.{Global}
use Rattle.std.proofs.lemmas.Bool.Decides.{nat_tests}
use Rattle.au_term.specs.Term.{Term, VarTerm, IntTerm, AtomTerm, Compound, Terms, count, term_at}
use Rattle.au_term.specs.PrefixOrder.{cells_of, all_cells, top_of, DueAfter, due_after}
use Rattle.au_term.specs.declared.cell.Cell.{Cell}
use Rattle.au_term.specs.declared.cell.Cell.TheVariants.{Var as VarCell, Atom as AtomCell, Functor}
use Rattle.au_term.proofs.WholeTermLemmas.{DueAfter-term, DueAfter-due}
use Rattle.au_model.specs.Terms.Lists.{terms_from}
use Rattle.run_model.specs.Goals.ListForms.{list_form}
use Rattle.run_model.specs.Goals.BuiltinAnswers.{equal}
use Rattle.run_model.specs.Goals.TermParts.{made_term, new_variables, numbered_argument, compound_of, parts_answer, built_from, taken_apart}
use Rattle.std_builtins.specs.Answers.{IsAnswer}
use Rattle.std_builtins.specs.declared.answer.Solution.{Solution}
use Rattle.std_builtins.specs.declared.answer.BuiltinRefusal.{BuiltinRefusal}

-- compounds of new variables
pub count-new_variables : (k next : ℕ) → count (new_variables next k) ≡ k
count-new_variables zero next = refl
count-new_variables (suc k) next = ap suc (count-new_variables k (suc next))

pub variables_begin : (name : List ℕ) (next k : ℕ) (built : List Cell) → built ≡ Functor name k ∷ [] → built ++ all_cells (new_variables (next + 0) (k - 0)) ≡ cells_of (Compound name (new_variables next k))
variables_begin name next k built is =
    let a : next + 0 ≡ next = omega arith in
    let b : k - 0 ≡ k = omega arith in
    ap₂ (λ cs vs. cs ++ all_cells vs) is (ap₂ new_variables a b) ∙ ap (λ n. Functor name n ∷ all_cells (new_variables next k)) (sym (count-new_variables k next))

next_variable : (next i k : ℕ) → i < k → all_cells (new_variables (next + i) (k - i)) ≡ VarCell (next + i) ∷ all_cells (new_variables (next + (i + 1)) (k - (i + 1)))
next_variable next i k lt =
    let e : k - i ≡ suc (k - (i + 1)) = omega arith in
    let f : suc (next + i) ≡ next + (i + 1) = omega arith in
    ap (λ m. all_cells (new_variables (next + i) m)) e ∙ ap (λ n. VarCell (next + i) ∷ all_cells (new_variables n (k - (i + 1)))) f

pub variable_due : (whole : Term) (built : List Cell) (next i k : ℕ) → i < k → built ++ all_cells (new_variables (next + i) (k - i)) ≡ cells_of whole → 0 < due_after 1 built
variable_due whole built next i k lt h =
    DueAfter-due 1 0 built (all_cells (new_variables (next + (i + 1)) (k - (i + 1)))) (VarCell (next + i)) (subst (λ cs. DueAfter 1 cs 0) (sym h ∙ ap (λ cs. built ++ cs) (next_variable next i k lt)) (DueAfter-term whole))

pub variables_further : (whole : List Cell) (built now : List Cell) (next i k n : ℕ) → i < k → n ≡ next + i → now ≡ built ++ VarCell n ∷ [] → built ++ all_cells (new_variables (next + i) (k - i)) ≡ whole → now ++ all_cells (new_variables (next + (i + 1)) (k - (i + 1))) ≡ whole
variables_further whole built now next i k n lt is pushed h =
    ap (λ cs. cs ++ all_cells (new_variables (next + (i + 1)) (k - (i + 1)))) (pushed ∙ ap (λ m. built ++ VarCell m ∷ []) is)
    ∙ (append_assoc built (VarCell (next + i) ∷ []) (all_cells (new_variables (next + (i + 1)) (k - (i + 1)))) ∙ (ap (λ cs. built ++ cs) (sym (next_variable next i k lt)) ∙ h))

pub variables_over : (whole : List Cell) (built : List Cell) (next i k : ℕ) → k ≤ i → built ++ all_cells (new_variables (next + i) (k - i)) ≡ whole → built ++ [] ≡ whole
variables_over whole built next i k le h = let none : k - i ≡ 0 = omega arith in ap (λ m. built ++ all_cells (new_variables (next + i) m)) (sym none) ∙ h

pub made_found : (t name : Term) (next k : ℕ) (f : List ℕ) (r : Result (Vec Solution Global) BuiltinRefusal) → top_of name ≡ AtomCell f → 0 < k → IsAnswer (Ok (record { equations = (t, Compound f (new_variables next k)) ∷ []; goals = []; removes = None; variables = k } ∷ [])) r → IsAnswer (made_term t next name k) r
made_found t name next zero f r top some h = absurd (omega arith)
made_found t (VarTerm n) next (suc k) f r top some h = absurd cc
made_found t (IntTerm z) next (suc k) f r top some h = absurd cc
made_found t (AtomTerm a) next (suc k) f r top some h =
    let same : f ≡ a = cc in
    subst (λ g. IsAnswer (Ok (record { equations = (t, Compound g (new_variables next (suc k))) ∷ []; goals = []; removes = None; variables = suc k } ∷ [])) r) same h
made_found t (Compound g us) next (suc k) f r top some h = absurd cc

pub same_solution : (t u v w : Term) (j k : ℕ) (r : Result (Vec Solution Global) BuiltinRefusal) → t ≡ u → v ≡ w → j ≡ k → IsAnswer (Ok (record { equations = (t, v) ∷ []; goals = []; removes = None; variables = j } ∷ [])) r → IsAnswer (Ok (record { equations = (u, w) ∷ []; goals = []; removes = None; variables = k } ∷ [])) r
same_solution t u v w j k r a b c h =
    subst (λ x. IsAnswer (Ok (record { equations = (x, w) ∷ []; goals = []; removes = None; variables = k } ∷ [])) r) a
    (subst (λ x. IsAnswer (Ok (record { equations = (t, x) ∷ []; goals = []; removes = None; variables = k } ∷ [])) r) b
    (subst (λ n. IsAnswer (Ok (record { equations = (t, v) ∷ []; goals = []; removes = None; variables = n } ∷ [])) r) c h))

-- a first argument by its number
pub argument_found : (n i : ℕ) (ts : Terms) (x a : Term) (r : Result (Vec Solution Global) BuiltinRefusal) → n ≡ suc i → i < count ts → a ≡ term_at i ts → IsAnswer (equal x a) r → IsAnswer (numbered_argument n ts x) r
argument_found n i ts x a r is lt e h =
    let t : nat_lt i (count ts) ≡ true = grind (arith, nat_tests) in
    let found : numbered_argument (suc i) ts x ≡ equal x (term_at i ts) = rw t refl in
    subst (λ m. IsAnswer (numbered_argument m ts x) r) (sym is) (subst (λ b. IsAnswer b r) (sym found) (subst (λ u. IsAnswer (equal x u) r) e h))

pub none_found : (n : ℕ) (ts : Terms) (x : Term) → (n ≡ 0 → ⊥) → count ts < n → numbered_argument n ts x ≡ Ok []
none_found zero ts x h lt = refl
none_found (suc i) ts x h lt = let t : nat_lt i (count ts) ≡ false = grind (arith, nat_tests) in rw t refl

pub compound_made : (t name made : Term) (f : List ℕ) (ts : List Term) (r : Result (Vec Solution Global) BuiltinRefusal) → top_of name ≡ AtomCell f → length ts ≤ 65535 → made ≡ Compound f (terms_from ts) → IsAnswer (equal t made) r → IsAnswer (compound_of t name ts) r
compound_made t (VarTerm n) made f ts r top most e h = absurd cc
compound_made t (IntTerm z) made f ts r top most e h = absurd cc
compound_made t (AtomTerm a) made f ts r top most e h =
    let same : a ≡ f = cc in
    let few : nat_lt 65535 (length ts) ≡ false = grind (arith, nat_tests) in
    let is : compound_of t (AtomTerm a) ts ≡ equal t (Compound a (terms_from ts)) = rw few refl in
    subst (λ b. IsAnswer b r) (sym is) (subst (λ g. IsAnswer (equal t (Compound g (terms_from ts))) r) (sym same) (subst (λ u. IsAnswer (equal t u) r) e h))
compound_made t (Compound g us) made f ts r top most e h = absurd cc

pub parts_built : (t l : Term) (n : ℕ) (r : Result (Vec Solution Global) BuiltinRefusal) → top_of t ≡ VarCell n → IsAnswer (built_from t l (list_form l)) r → IsAnswer (parts_answer t l) r
parts_built (VarTerm m) l n r top h = h
parts_built (IntTerm z) l n r top h = absurd cc
parts_built (AtomTerm a) l n r top h = absurd cc
parts_built (Compound f ts) l n r top h = absurd cc

pub parts_taken : (t l : Term) (r : Result (Vec Solution Global) BuiltinRefusal) → ((n : ℕ) → top_of t ≡ VarCell n → ⊥) → IsAnswer (taken_apart t l (list_form l)) r → IsAnswer (parts_answer t l) r
parts_taken (VarTerm m) l r other h = absurd (other m refl)
parts_taken (IntTerm z) l r other h = h
parts_taken (AtomTerm a) l r other h = h
parts_taken (Compound f ts) l r other h = h
