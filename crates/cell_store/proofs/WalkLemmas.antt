-- Going over the arguments of what a value stands for.
use Rattle.std.proofs.Common.{◌≡◌, ℕ, zero, suc, ◌+◌, ◌-◌, ◌<◌, ◌||◌, Bool, true, false, List, [], ◌∷◌, ◌++◌, length, Option, Some, None, MatchOption, reverse, refl, sym, ap, ◌∙◌, subst, append-nil, arith}
use Rattle.std.proofs.Math.Bool.{or_assoc}
use Rattle.std.specs.Option.{option_to_list}
use Rattle.std.proofs.lemmas.List.{map-append, nil_from_length, reverse-append}
use Rattle.au_term.specs.Term.{Term, Compound as CompoundTerm, more}
use Rattle.au_model.specs.Terms.Lists.{terms_from}
use Rattle.au_model.specs.Terms.Substitutions.{Substitution, apply_all, value_of, resolve, occurs, occurs_in}
use Rattle.au_model.specs.Terms.Unifier.{size, size_all}
use Rattle.au_model.proofs.UnifierMeasureLemmas.{size_pos}
use Rattle.clause_compile.specs.AtomNumbers.{name_at}
use Rattle.clause_compile.specs.Places.{CodeView}
use Rattle.binding_array.specs.declared.cell.BindingCell.{BindingCell}
use Rattle.binding_array.specs.declared.cell.BindingCell.TheVariants.{Free, Var, Int, Atom, Compound}
use Rattle.cell_store.specs.Arguments.{argument_at, argument_meaning, arguments_from, arguments_in, IsArgument, AreArguments, HasFunctor, AreThere, AllThere, pending_terms, resolved_terms, occurs_in_any, sizes, is_in_any, with_waiting, AreInside, HasOpened, HasRest, KeepsRest}
use Rattle.cell_store.specs.Values.{IsNoVariable}
use Rattle.cell_store.specs.StoreView.{StoreView, IsValueIn, substitution, text_in, value_term, meaning}
use Rattle.cell_store.specs.declared.arguments.Arguments.{Arguments}

pub turned : {X : Type 0} (xs : List X) (x : X) → reverse (xs ++ x ∷ []) ≡ x ∷ reverse xs
turned xs x = reverse-append xs (x ∷ [])

-- what is taken from the top
pub popped : {X : Type 0} (old new : List X) (o : Option X) (n m : ℕ) → old ≡ new ++ option_to_list o → n ≡ length old → MatchOption o ((n ≡ 0) × (m ≡ 0)) (λ _. m + 1 ≡ n) → with_waiting o (reverse new) ≡ reverse old
popped old new None n m e l h = sym (ap reverse (nil_from_length old (omega (arith, h.0))))
popped old new (Some x) n m e l h = sym (ap reverse e ∙ turned new x)

-- terms one after another
pub resolved_list : (s : Substitution) (ts : List Term) → apply_all (value_of s) (terms_from ts) ≡ terms_from (resolved_terms s ts)
resolved_list s [] = refl
resolved_list s (t ∷ ts) = ap (more (resolve s t)) (resolved_list s ts)

any_list : (x : ℕ) (ts : List Term) → occurs_in x (terms_from ts) ≡ occurs_in_any x ts
any_list x [] = refl
any_list x (t ∷ ts) = ap (λ b. occurs x t || b) (any_list x ts)

pub size_list : (ts : List Term) → size_all (terms_from ts) ≡ sizes ts
size_list [] = refl
size_list (t ∷ ts) = ap (λ n. size t + n) (size_list ts)

any_append : (x : ℕ) (ts us : List Term) → occurs_in_any x (ts ++ us) ≡ (occurs_in_any x ts || occurs_in_any x us)
any_append x [] us = refl
any_append x (t ∷ ts) us = ap (λ b. occurs x t || b) (any_append x ts us) ∙ sym (or_assoc (occurs x t) (occurs_in_any x ts) (occurs_in_any x us))

pub sizes_append : (ts us : List Term) → sizes (ts ++ us) ≡ sizes ts + sizes us
sizes_append [] us = omega arith
sizes_append (t ∷ ts) us = omega (arith, sizes_append ts us)

-- what a compound stands for
pub opened_term : (s : Substitution) (name : List ℕ) (ts : List Term) (t : Term) → t ≡ CompoundTerm name (terms_from ts) → resolve s t ≡ CompoundTerm name (terms_from (resolved_terms s ts))
opened_term s name ts t e = ap (resolve s) e ∙ ap (CompoundTerm name) (resolved_list s ts)

-- the arguments of a compound that was come to
pub inside : (st : StoreView) (x at base f n : ℕ) (t : Term) (a : Arguments) → meaning st (Compound at base) ≡ t → a ≡ record { at = at + 1; base = base; count = n } → HasFunctor (text_in st) st.now.next at base f n → AreInside st x t a
inside st x at base f n t a e k h =
    let s = substitution st in
    let args = resolved_terms s (arguments_from (text_in st) base n (at + 1)) in
    let listed : resolved_terms s (arguments_in (text_in st) a) ≡ args = ap (λ (b : Arguments). resolved_terms s (arguments_in (text_in st) b)) k in
    let whole : t ≡ CompoundTerm (name_at (text_in st).names f) (terms_from args) = sym e ∙ opened_term s (name_at (text_in st).names f) (arguments_from (text_in st) base n (at + 1)) (value_term st (Compound at base)) h.term in
    let count : size t ≡ suc (sizes args) = ap size whole ∙ ap suc (size_list args) in
    record {
      same = ap (occurs_in_any x) listed ∙ sym (ap (occurs x) whole ∙ any_list x args);
      fewer = omega (arith, ap sizes listed, count);
      there = subst (AreThere (text_in st) st.now.next) (sym k) (h.arity.0, h.arguments);
    }

-- arguments on top
pub opened_some : (code : CodeView) (next at base f n : ℕ) (a : Arguments) (old : List Arguments) → a ≡ record { at = at + 1; base = base; count = n } → HasFunctor code next at base f n → HasOpened code next at base old (a ∷ old)
opened_some code next at base f n a old e h = record {
  name = name_at code.names f;
  arguments = arguments_from code base n (at + 1);
  term = h.term;
  pending = ap (λ (b : Arguments). arguments_in code b ++ pending_terms code old) e;
  there = λ k. (subst (AreThere code next) (sym e) (h.arity.0, h.arguments), k);
}

-- a value that is no variable and no compound
pub constant_apart : (st : StoreView) (x : ℕ) (c : BindingCell) → IsNoVariable c → IsValueIn st c → ((at base : ℕ) → c ≡ Compound at base → ⊥) → false ≡ occurs x (meaning st c)
constant_apart st x Free n v h = absurd n
constant_apart st x (Var w) n v h = absurd n
constant_apart st x (Int z) n v h = refl
constant_apart st x (Atom a) n v h = refl
constant_apart st x (Compound at base) n v h = absurd (h at base refl)

-- all but the first
pub rest_some : (a b : Arguments) (old : List Arguments) → 1 < a.count → b ≡ record { at = a.at + 1; base = a.base; count = a.count - 1 } → KeepsRest a old (b ∷ old)
rest_some a b old p e code next h k = by_count a.count refl
  where
    by_count : (n : ℕ) → a.count ≡ n → HasRest code next a old (b ∷ old)
    by_count zero q = absurd (omega arith)
    by_count (suc n) q =
        let one : b ≡ record { at = a.at + 1; base = a.base; count = n } = e ∙ ap (λ m. (let r : Arguments = record { at = a.at + 1; base = a.base; count = m } in r)) (omega arith) in
        let all = subst (λ m. AreArguments code next a.base m a.at) q h.1 in
        record {
          terms = ap (λ (r : Arguments). argument_at code a.base a.at ∷ arguments_in code r ++ pending_terms code old) one ∙ sym (ap (λ m. arguments_from code a.base m a.at ++ pending_terms code old) q);
          there = (subst (AreThere code next) (sym one) (omega arith, all.1), k);
        }

pub rest_none : (a : Arguments) (old : List Arguments) → a.count ≡ 1 → KeepsRest a old old
rest_none a old e code next h k = record { terms = sym (ap (λ m. arguments_from code a.base m a.at ++ pending_terms code old) e); there = k }

-- one way or the other
pub record OtherArguments (a : Arguments) (old : List Arguments) : Type 0 where
  pub others : List Arguments
  pub kept : KeepsRest a old others

pub other_arguments : (a : Arguments) (old : List Arguments) → 0 < a.count → OtherArguments a old
other_arguments a old p = by_count a.count refl
  where
    by_count : (n : ℕ) → a.count ≡ n → OtherArguments a old
    by_count zero q = absurd (omega arith)
    by_count (suc zero) q = record { others = old; kept = rest_none a old (omega arith) }
    by_count (suc (suc n)) q =
        let b : Arguments = record { at = a.at + 1; base = a.base; count = a.count - 1 } in
        record { others = b ∷ old; kept = rest_some a b old (omega arith) refl }

-- the arguments that are taken from the top
pub first_there : (code : CodeView) (next : ℕ) (a : Arguments) → AreThere code next a → IsArgument code next a.base a.at
first_there code next a h = by_count a.count h.0 h.1
  where
    by_count : (n : ℕ) → 0 < n → AreArguments code next a.base n a.at → IsArgument code next a.base a.at
    by_count zero p k = absurd (omega arith)
    by_count (suc n) p k = k.0

pub top_there : (code : CodeView) (next : ℕ) (old rest : List Arguments) (a : Arguments) → old ≡ rest ++ a ∷ [] → AllThere code next (reverse old) → AreThere code next a × AllThere code next (reverse rest)
top_there code next old rest a e h = subst (AllThere code next) (ap reverse e ∙ turned rest a) h

-- whether a variable occurs in what is left to be looked at is the answer
pub record IsSearching (st : StoreView) (x : ℕ) (answer : Bool) (list : List Arguments) : Type 0 where
  pub same : occurs_in_any x (resolved_terms (substitution st) (pending_terms (text_in st) list)) ≡ answer
  pub there : AllThere (text_in st) st.now.next list

abbrev pub searching_work : StoreView → List Arguments → ℕ
searching_work st list = sizes (resolved_terms (substitution st) (pending_terms (text_in st) list))

pub search_starts : (st : StoreView) (x : ℕ) (a : Arguments) → AreThere (text_in st) st.now.next a → IsSearching st x (is_in_any st x a) (a ∷ [])
search_starts st x a h = record { same = ap (λ ts. occurs_in_any x (resolved_terms (substitution st) ts)) (append-nil (arguments_in (text_in st) a)); there = (h, tt) }

module _ (st : StoreView) (x : ℕ) (answer : Bool) (a : Arguments) (waiting : List Arguments) (h : IsSearching st x answer (a ∷ waiting)) where
  abbrev first : Term
  first = argument_meaning st a.base a.at

  listed : (others : List Arguments) → KeepsRest a waiting others → first ∷ resolved_terms (substitution st) (pending_terms (text_in st) others) ≡ resolved_terms (substitution st) (pending_terms (text_in st) (a ∷ waiting))
  listed others kept = ap (resolved_terms (substitution st)) (kept (text_in st) st.now.next h.there.0 h.there.1).terms

  pub search_ends : occurs x (first) ≡ true → true ≡ answer
  search_ends o =
      let r = other_arguments a waiting h.there.0.0 in
      sym (ap (λ b. b || occurs_in_any x (resolved_terms (substitution st) (pending_terms (text_in st) r.others))) o) ∙ (ap (occurs_in_any x) (listed r.others r.kept) ∙ h.same)

  pub search_goes_past : (others : List Arguments) → KeepsRest a waiting others → occurs x (first) ≡ false → IsSearching st x answer others × (searching_work st others < searching_work st (a ∷ waiting))
  search_goes_past others kept o = (
    record {
      same = sym (ap (λ b. b || occurs_in_any x (resolved_terms (substitution st) (pending_terms (text_in st) others))) o) ∙ (ap (occurs_in_any x) (listed others kept) ∙ h.same);
      there = (kept (text_in st) st.now.next h.there.0 h.there.1).there;
    },
    omega (arith, ap sizes (listed others kept), size_pos (first)),
  )

  pub search_goes_inside : (others : List Arguments) → KeepsRest a waiting others → (b : Arguments) → AreInside st x (first) b → IsSearching st x answer (b ∷ others) × (searching_work st (b ∷ others) < searching_work st (a ∷ waiting))
  search_goes_inside others kept b i =
      let inner = resolved_terms (substitution st) (arguments_in (text_in st) b) in
      let rest = resolved_terms (substitution st) (pending_terms (text_in st) others) in
      let all : resolved_terms (substitution st) (pending_terms (text_in st) (b ∷ others)) ≡ inner ++ rest = map-append (resolve (substitution st)) (arguments_in (text_in st) b) (pending_terms (text_in st) others) in (
        record {
          same = ap (occurs_in_any x) all ∙ (any_append x inner rest ∙ (ap (λ b. b || occurs_in_any x rest) i.same ∙ (ap (occurs_in_any x) (listed others kept) ∙ h.same)));
          there = (i.there, (kept (text_in st) st.now.next h.there.0 h.there.1).there);
        },
        omega (arith, ap sizes all, sizes_append inner rest, i.fewer, ap sizes (listed others kept)),
      )

pub search_over : (st : StoreView) (x : ℕ) (answer : Bool) → IsSearching st x answer [] → false ≡ answer
search_over st x answer h = h.same

-- of arguments that are looked at one after another
abbrev pub any_from : StoreView → ℕ → ℕ → ℕ → ℕ → Bool
any_from st x base n at = occurs_in_any x (resolved_terms (substitution st) (arguments_from (text_in st) base n at))

pub found_first : (st : StoreView) (x : ℕ) (a : Arguments) → 0 < a.count → occurs x (argument_meaning st a.base a.at) ≡ true → is_in_any st x a ≡ true
found_first st x a p o = by_count a.count p
  where
    by_count : (n : ℕ) → 0 < n → any_from st x a.base n a.at ≡ true
    by_count zero p = absurd (omega arith)
    by_count (suc n) p = ap (λ b. b || any_from st x a.base n (a.at + 1)) o

pub past_last : (st : StoreView) (x : ℕ) (a : Arguments) → a.count ≡ 1 → occurs x (argument_meaning st a.base a.at) ≡ false → is_in_any st x a ≡ false
past_last st x a e o = ap (λ n. any_from st x a.base n a.at) e ∙ ap (λ b. b || false) o

pub past_first : (st : StoreView) (x base n at : ℕ) (answer : Bool) → 1 < n → occurs x (argument_meaning st base at) ≡ false → any_from st x base n at ≡ answer → AreArguments (text_in st) st.now.next base n at → (any_from st x base (n - 1) (at + 1) ≡ answer) × (0 < n - 1) × AreArguments (text_in st) st.now.next base (n - 1) (at + 1)
past_first st x base zero at answer p o e h = absurd (omega arith)
past_first st x base (suc n) at answer p o e h =
    let one : n ≡ suc n - 1 = omega arith in (
      ap (λ m. any_from st x base m (at + 1)) (sym one) ∙ (sym (ap (λ b. b || any_from st x base n (at + 1)) o) ∙ e),
      omega arith,
      subst (λ m. AreArguments (text_in st) st.now.next base m (at + 1)) one h.1,
    )
