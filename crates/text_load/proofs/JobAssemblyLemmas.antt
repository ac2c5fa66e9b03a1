-- What is loaded of a library beside a text: no procedure is both static and dynamic.
use Rattle.std.proofs.Common.{◌≡◌, ◌∙◌, ℕ, Bool, true, false, cond, not, ◌&&◌, ◌||◌, ◌==◌, List, [], ◌∷◌, ◌++◌, refl, sym, ap, ap₂}
use Rattle.std.specs.Prelude.{filter}
use Rattle.std.specs.List.{list_any}
use Rattle.std.specs.Cmp.Lexicographic.{same_text}
use Rattle.std.proofs.lemmas.Cmp.{nat_list_eq_equiv}
use Rattle.std.proofs.lemmas.List.Folds.{list_any-append}
use Rattle.au_term.specs.Term.{argument_count}
use Rattle.au_term.proofs.LogicLemmas.{and-both, both, neither, none_true, not-true, number_same, or_false, same_number}
use Rattle.au_model.specs.Terms.Each.{Each}
use Rattle.au_model.specs.Terms.Forms.{same_name, name_of}
use Rattle.au_model.proofs.ApplyLemmas.{or_right}
use Rattle.au_model.proofs.EachLemmas.{each-append, each-more}
use Rattle.run_model.specs.Programs.Clauses.{Clause, is_clause_of, is_defined}
use Rattle.dyn_clauses.specs.declared.indicator.Indicator.{Indicator}
use Rattle.dyn_clauses.specs.DatabaseView.{is_static}
use Rattle.dyn_clauses.specs.ClauseEnds.{indicator_of}
use Rattle.text_load.specs.JobView.{AreStatics}
use Rattle.text_load.specs.LoadedTexts.{Loading, clauses_beside, defines, is_declared, procedures_beside}
use Rattle.text_load.specs.LoadingView.{AreByDeclaration}

-- ---- elements that are kept

none_kept : {X : Type 0} (p keep : X → Bool) → ((x : X) → keep x ≡ true → p x ≡ false) → (xs : List X) → list_any p (filter keep xs) ≡ false
none_kept p keep h [] = refl
none_kept p keep h (x ∷ xs) = go (keep x) refl (none_kept p keep h xs) where
  go : (b : Bool) → keep x ≡ b → list_any p (filter keep xs) ≡ false → list_any p (cond b (x ∷ filter keep xs) (filter keep xs)) ≡ false
  go true e k = none_true (p x) (list_any p (filter keep xs)) (h x e) k
  go false e k = k

fewer_kept : {X : Type 0} (p keep : X → Bool) (xs : List X) → list_any p xs ≡ false → list_any p (filter keep xs) ≡ false
fewer_kept p keep [] e = refl
fewer_kept p keep (x ∷ xs) e = let n = neither (p x) (list_any p xs) e in go (keep x) n.0 (fewer_kept p keep xs n.1) where
  go : (b : Bool) → p x ≡ false → list_any p (filter keep xs) ≡ false → list_any p (cond b (x ∷ filter keep xs) (filter keep xs)) ≡ false
  go true f k = none_true (p x) (list_any p (filter keep xs)) f k
  go false f k = k

each_kept : {X : Type 0} (P Q : X → Type 0) (keep : X → Bool) → ((x : X) → keep x ≡ true → P x → Q x) → (xs : List X) → Each P xs → Each Q (filter keep xs)
each_kept P Q keep g [] h = tt
each_kept P Q keep g (x ∷ xs) h = go (keep x) refl (each_kept P Q keep g xs h.1) where
  go : (b : Bool) → keep x ≡ b → Each Q (filter keep xs) → Each Q (cond b (x ∷ filter keep xs) (filter keep xs))
  go true e k = (g x e h.0, k)
  go false e k = k

-- ---- procedures of a list

declared_here : (i : Indicator) (is : List Indicator) → is_declared (i ∷ is) i.name i.arity ≡ true
declared_here i is = ap (λ b. b || is_declared is i.name i.arity) (and-both (same_name i.name i.name) (i.arity == i.arity) (nat_list_eq_equiv.refl i.name) (number_same i.arity))

declared_later : (all is : List Indicator) → ((i : Indicator) → is_declared is i.name i.arity ≡ true → is_declared all i.name i.arity ≡ true) → Each (λ i. is_declared all i.name i.arity ≡ true) is
declared_later all [] h = tt
declared_later all (i ∷ is) h = (h i (declared_here i is), declared_later all is (λ j e. h j (or_right (same_name j.name i.name && j.arity == i.arity) (is_declared is j.name j.arity) e)))

declared_self : (is : List Indicator) → Each (λ i. is_declared is i.name i.arity ≡ true) is
declared_self is = declared_later is is (λ i e. e)

-- ---- a library beside a text

-- no clause beside a text is of a procedure that the text defines
not_of : (text : Loading) (name : List ℕ) (arity : ℕ) → defines text name arity ≡ true → (c : Clause) → not (defines text (name_of c.head) (argument_count c.head)) ≡ true → is_clause_of name arity c ≡ false
not_of text name arity d c k = go (is_clause_of name arity c) refl where
  go : (b : Bool) → is_clause_of name arity c ≡ b → b ≡ false
  go false e = refl
  go true e =
      let parts = both (same_name (name_of c.head) name) (argument_count c.head == arity) e in
      let is : defines text (name_of c.head) (argument_count c.head) ≡ true = ap₂ (defines text) (same_text (name_of c.head) name (sym parts.0)) (same_number (argument_count c.head) arity parts.1) ∙ d in
      sym is ∙ not-true (defines text (name_of c.head) (argument_count c.head)) k

module _ (library text : Loading) (l : AreByDeclaration library.declared library.statics library.dynamics) (t : AreByDeclaration text.declared text.statics text.dynamics) where
  abbrev all : List Clause
  all = clauses_beside text library.statics ++ text.statics

  abbrev IsFree : List ℕ → ℕ → Type 0
  IsFree name arity = is_defined all name arity ≡ false

  both_free : (name : List ℕ) (arity : ℕ) → is_defined (clauses_beside text library.statics) name arity ≡ false → is_defined text.statics name arity ≡ false → IsFree name arity
  both_free name arity e f =
      list_any-append (is_clause_of name arity) (clauses_beside text library.statics) text.statics ∙ none_true (is_defined (clauses_beside text library.statics) name arity) (is_defined text.statics name arity) e f

  own_free : (i : Indicator) → is_declared text.declared i.name i.arity ≡ true → IsFree i.name i.arity
  own_free i e =
      let defined = or_right (is_defined text.statics i.name i.arity) (is_declared text.declared i.name i.arity) e in
      both_free i.name i.arity (none_kept (is_clause_of i.name i.arity) (λ c. not (defines text (name_of c.head) (argument_count c.head))) (not_of text i.name i.arity defined) library.statics) (t.static i e)

  other_free : (i : Indicator) → not (defines text i.name i.arity) ≡ true → is_declared library.declared i.name i.arity ≡ true → IsFree i.name i.arity
  other_free i k e =
      let none = neither (is_defined text.statics i.name i.arity) (is_declared text.declared i.name i.arity) (not-true (defines text i.name i.arity) k) in
      both_free i.name i.arity (fewer_kept (is_clause_of i.name i.arity) (λ c. not (defines text (name_of c.head) (argument_count c.head))) library.statics (l.static i e)) none.0

  module _ (statics : List Indicator) (clauses : List Clause) (are : clauses ≡ all) (s : AreStatics statics clauses) where
    free : (i : Indicator) → IsFree i.name i.arity → is_static statics i ≡ false
    free i e = s i ∙ (ap (λ cs. is_defined cs i.name i.arity) are ∙ e)

    pub procedures_free : (is : List Indicator) → is ≡ procedures_beside text library.declared ++ text.declared → Each (λ i. is_static statics i ≡ false) is
    procedures_free is e =
        rw e (each-append (λ i. is_static statics i ≡ false) (procedures_beside text library.declared) text.declared
        (each_kept (λ i. is_declared library.declared i.name i.arity ≡ true) (λ i. is_static statics i ≡ false) (λ i. not (defines text i.name i.arity)) (λ i k d. free i (other_free i k d)) library.declared (declared_self library.declared))
        (each-more (λ i. is_declared text.declared i.name i.arity ≡ true) (λ i. is_static statics i ≡ false) (λ i d. free i (own_free i d)) text.declared (declared_self text.declared)))

    pub clauses_free : (cs : List Clause) → cs ≡ clauses_beside text library.dynamics ++ text.dynamics → Each (λ c. is_static statics (indicator_of c) ≡ false) cs
    clauses_free cs e =
        rw e (each-append (λ c. is_static statics (indicator_of c) ≡ false) (clauses_beside text library.dynamics) text.dynamics
        (each_kept (λ c. is_declared library.declared (name_of c.head) (argument_count c.head) ≡ true) (λ c. is_static statics (indicator_of c) ≡ false) (λ c. not (defines text (name_of c.head) (argument_count c.head))) (λ c k d. free (indicator_of c) (other_free (indicator_of c) k d)) library.dynamics l.dynamic)
        (each-more (λ c. is_declared text.declared (name_of c.head) (argument_count c.head) ≡ true) (λ c. is_static statics (indicator_of c) ≡ false) (λ c d. free (indicator_of c) (own_free (indicator_of c) d)) text.dynamics t.dynamic))

pub free_still : (old now : List Indicator) (cs : List Clause) → now ≡ old → Each (λ c. is_static old (indicator_of c) ≡ false) cs → Each (λ c. is_static now (indicator_of c) ≡ false) cs
free_still old now cs e h = rw e h
