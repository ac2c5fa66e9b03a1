-- Procedures that are made dynamic, or get clauses.
use Rattle.std.proofs.Common.{◌≡◌, ◌∙◌, ℕ, Bool, true, false, ◌&&◌, ◌||◌, ◌==◌, List, [], ◌∷◌, ◌++◌, refl, sym, ap, ap₂}
use Rattle.std.specs.List.{list_any}
use Rattle.std.proofs.lemmas.Cmp.{nat_list_eq_equiv}
use Rattle.std.specs.Cmp.Lexicographic.{same_text}
use Rattle.std.proofs.lemmas.List.Folds.{list_any-append}
use Rattle.au_term.specs.Term.{argument_count}
use Rattle.au_term.proofs.LogicLemmas.{both, neither, none_true, number_turned, or_false, same_number}
use Rattle.au_model.specs.Terms.Each.{Each}
use Rattle.au_model.specs.Terms.Forms.{same_name, name_of}
use Rattle.au_model.proofs.EachLemmas.{each-append, each-more}
use Rattle.run_model.specs.Programs.Clauses.{Clause, is_clause_of, is_defined}
use Rattle.dyn_clauses.specs.declared.indicator.Indicator.{Indicator}
use Rattle.dyn_clauses.specs.DatabaseView.{is_static}
use Rattle.text_load.specs.LoadedTexts.{is_declared}
use Rattle.text_load.specs.LoadingView.{AreByDeclaration, AreProceduresOf}

-- an indicator is that of a clause
indicator_turned : (i j : Indicator) (c : Clause) → j.name ≡ name_of c.head → j.arity ≡ argument_count c.head → (same_name i.name j.name && i.arity == j.arity) ≡ is_clause_of i.name i.arity c
indicator_turned i j c n a =
    ap₂ (λ x y. same_name i.name x && i.arity == y) n a ∙ ap₂ (λ x y. x && y) (nat_list_eq_equiv.symm i.name (name_of c.head)) (number_turned i.arity (argument_count c.head))

pub procedure_pushed : (is now : List Indicator) (j : Indicator) (c : Clause) → j.name ≡ name_of c.head → j.arity ≡ argument_count c.head → now ≡ is ++ j ∷ [] → (i : Indicator) → is_static now i ≡ (is_static is i || is_clause_of i.name i.arity c)
procedure_pushed is now j c n a e i =
    ap (λ (js : List Indicator). is_static js i) e
    ∙ (list_any-append (λ s. same_name i.name s.name && i.arity == s.arity) is (j ∷ []) ∙ ap (λ b. is_static is i || b) (or_false (same_name i.name j.name && i.arity == j.arity) ∙ indicator_turned i j c n a))

defined_more : (cs : List Clause) (c : Clause) (name : List ℕ) (arity : ℕ) → is_defined (cs ++ c ∷ []) name arity ≡ (is_defined cs name arity || is_clause_of name arity c)
defined_more cs c name arity = list_any-append (is_clause_of name arity) cs (c ∷ []) ∙ ap (λ b. is_defined cs name arity || b) (or_false (is_clause_of name arity c))

pub clause_added : (known new : List Indicator) (cs : List Clause) (j : Indicator) (c : Clause) → j.name ≡ name_of c.head → j.arity ≡ argument_count c.head → AreProceduresOf known cs → ((i : Indicator) → is_static new i ≡ is_static (known ++ j ∷ []) i) → AreProceduresOf new (cs ++ c ∷ [])
clause_added known new cs j c n a h set i =
    set i ∙ (procedure_pushed known (known ++ j ∷ []) j c n a refl i ∙ (ap (λ b. b || is_clause_of i.name i.arity c) (h i) ∙ sym (defined_more cs c i.name i.arity)))

-- ---- static and dynamic procedures stay apart

module _ (declared : List Indicator) (statics dynamics : List Clause) (h : AreByDeclaration declared statics dynamics) where
  -- a clause of a procedure that is not dynamic
  pub static_apart : (c : Clause) → is_declared declared (name_of c.head) (argument_count c.head) ≡ false → AreByDeclaration declared (statics ++ c ∷ []) dynamics
  static_apart c other = record { static = λ i e. defined_more statics c i.name i.arity ∙ none_true (is_defined statics i.name i.arity) (is_clause_of i.name i.arity c) (h.static i e) (not_its i e); dynamic = h.dynamic } where
    not_its : (i : Indicator) → is_declared declared i.name i.arity ≡ true → is_clause_of i.name i.arity c ≡ false
    not_its i e = go (is_clause_of i.name i.arity c) refl where
      go : (b : Bool) → is_clause_of i.name i.arity c ≡ b → b ≡ false
      go false f = refl
      go true f =
          let parts = both (same_name (name_of c.head) i.name) (argument_count c.head == i.arity) f in
          let is = ap₂ (is_declared declared) (same_text (name_of c.head) i.name (sym parts.0)) (same_number (argument_count c.head) i.arity parts.1) in
          sym e ∙ (sym is ∙ other)

  -- a clause of a dynamic procedure
  pub dynamic_apart : (c : Clause) → is_declared declared (name_of c.head) (argument_count c.head) ≡ true → AreByDeclaration declared statics (dynamics ++ c ∷ [])
  dynamic_apart c its = record { static = h.static; dynamic = each-append (λ d. is_declared declared (name_of d.head) (argument_count d.head) ≡ true) dynamics (c ∷ []) h.dynamic (its, tt) }

  -- procedures that have no static clauses
  pub declared_apart : (is : List Indicator) → list_any (λ i. is_defined statics i.name i.arity) is ≡ false → AreByDeclaration (declared ++ is) statics dynamics
  declared_apart is none = record { static = without; dynamic = each-more (λ d. is_declared declared (name_of d.head) (argument_count d.head) ≡ true) (λ d. is_declared (declared ++ is) (name_of d.head) (argument_count d.head) ≡ true) (λ d e. more (name_of d.head) (argument_count d.head) e) dynamics h.dynamic } where
    either : (name : List ℕ) (arity : ℕ) → is_declared (declared ++ is) name arity ≡ (is_declared declared name arity || is_declared is name arity)
    either name arity = list_any-append (λ i. same_name name i.name && arity == i.arity) declared is

    more : (name : List ℕ) (arity : ℕ) → is_declared declared name arity ≡ true → is_declared (declared ++ is) name arity ≡ true
    more name arity e = either name arity ∙ ap (λ b. b || is_declared is name arity) e

    among : (js : List Indicator) → list_any (λ j. is_defined statics j.name j.arity) js ≡ false → (i : Indicator) → is_declared js i.name i.arity ≡ true → is_defined statics i.name i.arity ≡ false
    among [] f i e = let g : ⊥ = cc in absurd g
    among (j ∷ js) f i e = let n = neither (is_defined statics j.name j.arity) (list_any (λ k. is_defined statics k.name k.arity) js) f in go (same_name i.name j.name && i.arity == j.arity) refl e n.0 (among js n.1 i) where
      go : (b : Bool) → (same_name i.name j.name && i.arity == j.arity) ≡ b → (b || is_declared js i.name i.arity) ≡ true → is_defined statics j.name j.arity ≡ false
          → (is_declared js i.name i.arity ≡ true → is_defined statics i.name i.arity ≡ false) → is_defined statics i.name i.arity ≡ false
      go true same k here later =
          let parts = both (same_name i.name j.name) (i.arity == j.arity) same in
          ap₂ (is_defined statics) (same_text i.name j.name (sym parts.0)) (same_number i.arity j.arity parts.1) ∙ here
      go false same k here later = later k

    without : (i : Indicator) → is_declared (declared ++ is) i.name i.arity ≡ true → is_defined statics i.name i.arity ≡ false
    without i e = go (is_declared declared i.name i.arity) refl (sym (either i.name i.arity) ∙ e) where
      go : (b : Bool) → is_declared declared i.name i.arity ≡ b → (b || is_declared is i.name i.arity) ≡ true → is_defined statics i.name i.arity ≡ false
      go true f k = h.static i f
      go false f k = among is none i k
