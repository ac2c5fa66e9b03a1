-- Lists read from their fronts.
use Rattle.std.proofs.Common.{◌≡◌, ℕ, suc, ◌+◌, ◌<◌, ◌&&◌, ◌==◌, Bool, true, false, cond, List, [], ◌∷◌, ◌++◌, refl, ap, ◌∙◌, arith}
use Rattle.std.specs.Prelude.{codes}
use Rattle.std.proofs.lemmas.Bool.Decides.{nat_tests}
use Rattle.au_term.specs.Term.{Term, VarTerm, IntTerm, AtomTerm, Compound, end, more, count, argument, argument_count}
use Rattle.au_term.specs.PrefixOrder.{top_of}
use Rattle.au_model.specs.Terms.Forms.{same_name}
use Rattle.au_model.specs.Terms.ListForms.{ListForm, ProperList, PartialList, NoList, item_before, list_form}
use Rattle.au_model.specs.Terms.ListCells.{opens_pair, ends_list, items_before}
use Rattle.au_model.specs.Terms.Unifier.{size}

pub no_two : (n : ℕ) → (suc (suc (suc n)) == 2) ≡ false
no_two n = grind (arith, nat_tests)

pub pair_opened : (t : Term) → opens_pair (top_of t) ≡ true → (argument_count t ≡ 2) × (list_form t ≡ item_before (argument 0 t) (list_form (argument 1 t))) × (size (argument 1 t) < size t)
pair_opened (VarTerm n) h = absurd cc
pair_opened (IntTerm z) h = absurd cc
pair_opened (AtomTerm a) h = absurd cc
pair_opened (Compound f end) h = absurd cc
pair_opened (Compound f (more a end)) h = absurd cc
pair_opened (Compound f (more a (more b end))) h = (refl, ap (λ c. cond c (item_before a (list_form b)) NoList) h, omega arith)
pair_opened (Compound f (more a (more b (more c ts)))) h = let no = ap (λ k. k && same_name f (codes ".")) (no_two (count ts)) in absurd cc

no_items : (ts : List Term) → items_before ts NoList ≡ NoList
no_items [] = refl
no_items (t ∷ ts) = ap (item_before t) (no_items ts)

proper_items : (ts : List Term) → items_before ts (ProperList []) ≡ ProperList ts
proper_items [] = refl
proper_items (t ∷ ts) = ap (item_before t) (proper_items ts)

partial_items : (ts : List Term) → items_before ts (PartialList []) ≡ PartialList ts
partial_items [] = refl
partial_items (t ∷ ts) = ap (item_before t) (partial_items ts)

pub list_ended : (t : Term) (ts : List Term) → opens_pair (top_of t) ≡ false → items_before ts (list_form t) ≡ ends_list (top_of t) ts
list_ended (VarTerm n) ts h = partial_items ts
list_ended (IntTerm z) ts h = no_items ts
list_ended (AtomTerm a) ts h = by (same_name a (codes "[]"))
  where
    by : (c : Bool) → items_before ts (cond c (ProperList []) NoList) ≡ cond c (ProperList ts) NoList
    by true = proper_items ts
    by false = no_items ts
list_ended (Compound f end) ts h = no_items ts
list_ended (Compound f (more a end)) ts h = no_items ts
list_ended (Compound f (more a (more b end))) ts h = ap (λ c. items_before ts (cond c (item_before a (list_form b)) NoList)) h ∙ no_items ts
list_ended (Compound f (more a (more b (more c us)))) ts h = no_items ts

pub items_before-push : (ts : List Term) (t : Term) (f : ListForm) → items_before (ts ++ t ∷ []) f ≡ items_before ts (item_before t f)
items_before-push [] t f = refl
items_before-push (u ∷ ts) t f = ap (item_before u) (items_before-push ts t f)
