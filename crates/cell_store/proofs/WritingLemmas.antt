-- Writing what values stand for.
use Rattle.std.proofs.Common.{zero, length, ◌≡◌, ℕ, suc, ◌+◌, ◌<◌, List, [], ◌∷◌, ◌++◌, reverse, refl, sym, ap, ap₂, ◌∙◌, subst, arith, append_assoc}
use Rattle.std.proofs.lemmas.List.{map-append}
use Rattle.au_term.specs.Term.{Term, Compound as CompoundTerm, Terms, count}
use Rattle.au_term.specs.PrefixOrder.{cells_of, all_cells, DueAfter, due_after}
use Rattle.au_term.specs.declared.cell.Cell.{Cell}
use Rattle.au_term.specs.declared.cell.Cell.TheVariants.{Functor as FunctorCell}
use Rattle.au_term.proofs.WholeTermLemmas.{DueAfter-due, DueAfter-term}
use Rattle.au_term.proofs.SubtermLemmas.{some_cell}
use Rattle.au_model.specs.Terms.Lists.{terms_from}
use Rattle.au_model.specs.Terms.Substitutions.{Substitution, apply_all, value_of, resolve}
use Rattle.au_model.specs.Terms.Unifier.{size, size_all}
use Rattle.clause_compile.specs.AtomNumbers.{name_at}
use Rattle.clause_compile.specs.Places.{CodeView}
use Rattle.binding_array.specs.Represented.{cell_term}
use Rattle.binding_array.specs.declared.cell.BindingCell.TheVariants.{Compound}
use Rattle.cell_store.specs.Arguments.{argument_at, arguments_from, HasFunctor, AllThere, pending_terms, resolved_terms, sizes, HasOpened, KeepsRest}
use Rattle.cell_store.specs.WrittenTerms.{cells_left, GoesOnWriting}
use Rattle.cell_store.specs.declared.arguments.Arguments.{Arguments}
use Rattle.cell_store.proofs.WalkLemmas.{resolved_list, size_list, sizes_append, turned, top_there}

all_cells_append : (ts us : List Term) → all_cells (terms_from (ts ++ us)) ≡ all_cells (terms_from ts) ++ all_cells (terms_from us)
all_cells_append [] us = refl
all_cells_append (t ∷ ts) us = ap (λ cs. cells_of t ++ cs) (all_cells_append ts us) ∙ sym (append_assoc (cells_of t) (all_cells (terms_from ts)) (all_cells (terms_from us)))

same_arguments : {f g : List ℕ} {ts us : Terms} → CompoundTerm f ts ≡ CompoundTerm g us → (f ≡ g) × (ts ≡ us)
same_arguments {f} {g} {ts} {us} e = let a : ts ≡ us = cc in let b : f ≡ g = cc in (b, a)

pub how_many : (s : Substitution) (code : CodeView) (base n at : ℕ) → count (apply_all (value_of s) (terms_from (arguments_from code base n at))) ≡ n
how_many s code base zero at = refl
how_many s code base (suc n) at = ap suc (how_many s code base n (at + 1))

-- a compound, whose functor is written
pub opened_writes : (s : Substitution) (code : CodeView) (next at base f n : ℕ) (t : Term) (before after : List Cell) (old new : List Arguments) → resolve s (cell_term code (Compound at base)) ≡ t → HasFunctor code next at base f n → HasOpened code next at base old new
    → after ≡ before ++ FunctorCell (name_at code.names f) n ∷ [] → GoesOnWriting s code next t before after old new
opened_writes s code next at base f n t before after old new e g h w =
    let args = terms_from (arguments_from code base n (at + 1)) in
    let ts = apply_all (value_of s) args in
    let whole : t ≡ CompoundTerm (name_at code.names f) ts = sym e ∙ ap (resolve s) g.term in
    let same : terms_from h.arguments ≡ args = (same_arguments (sym h.term ∙ g.term)).1 in
    let pending : resolved_terms s (pending_terms code new) ≡ resolved_terms s h.arguments ++ resolved_terms s (pending_terms code old) = ap (resolved_terms s) h.pending ∙ map-append (resolve s) h.arguments (pending_terms code old) in
    let resolved : terms_from (resolved_terms s h.arguments) ≡ ts = sym (resolved_list s h.arguments) ∙ ap (apply_all (value_of s)) same in
    let left : cells_left s code new ≡ all_cells ts ++ cells_left s code old =
    ap (λ us. all_cells (terms_from us)) pending ∙ (all_cells_append (resolved_terms s h.arguments) (resolved_terms s (pending_terms code old)) ∙ ap (λ us. all_cells us ++ cells_left s code old) resolved) in
    let cells : cells_of t ≡ FunctorCell (name_at code.names f) n ∷ all_cells ts = ap cells_of whole ∙ ap (λ k. FunctorCell (name_at code.names f) k ∷ all_cells ts) (how_many s code base n (at + 1)) in
    let number : sizes (resolved_terms s h.arguments) ≡ size_all ts = sym (size_list (resolved_terms s h.arguments)) ∙ ap size_all resolved in
    record {
      same = ap₂ (λ cs ds. cs ++ ds) w left ∙ (append_assoc before (FunctorCell (name_at code.names f) n ∷ []) (all_cells ts ++ cells_left s code old) ∙ ap (λ cs. before ++ (cs ++ cells_left s code old)) (sym cells));
      fewer = omega (arith, ap sizes pending, sizes_append (resolved_terms s h.arguments) (resolved_terms s (pending_terms code old)), number, ap size whole);
      there = h.there;
    }

-- what is left before an argument is taken
pub first_left : (s : Substitution) (code : CodeView) (next : ℕ) (old rest between : List Arguments) (a : Arguments) (t u : Term) → old ≡ rest ++ a ∷ [] → AllThere code next (reverse old) → KeepsRest a (reverse rest) (reverse between) → t ≡ argument_at code a.base a.at → resolve s t ≡ u
    → (u ∷ resolved_terms s (pending_terms code (reverse between)) ≡ resolved_terms s (pending_terms code (reverse old))) × AllThere code next (reverse between)
first_left s code next old rest between a t u e h k ta tu =
    let top = top_there code next old rest a e h in
    let r = k code next top.0 top.1 in
    (ap (λ v. v ∷ resolved_terms s (pending_terms code (reverse between))) (sym tu ∙ ap (resolve s) ta) ∙ (ap (resolved_terms s) r.terms ∙ ap (λ bs. resolved_terms s (pending_terms code bs)) (sym (ap reverse e ∙ turned rest a))), r.there)

pub written : (s : Substitution) (code : CodeView) (next : ℕ) (old rest between new : List Arguments) (a : Arguments) (t u v : Term) (before after : List Cell) → old ≡ rest ++ a ∷ [] → AllThere code next (reverse old) → KeepsRest a (reverse rest) (reverse between) → t ≡ argument_at code a.base a.at → resolve s t ≡ u
    → GoesOnWriting s code next u before after (reverse between) (reverse new) → before ++ cells_left s code (reverse old) ≡ cells_of v → (after ++ cells_left s code (reverse new) ≡ cells_of v) × (sizes (resolved_terms s (pending_terms code (reverse new))) < sizes (resolved_terms s (pending_terms code (reverse old)))) × AllThere code next (reverse new)
written s code next old rest between new a t u v before after e h k ta tu g w =
    let f = first_left s code next old rest between a t u e h k ta tu in
    (g.same ∙ (ap (λ ts. before ++ all_cells (terms_from ts)) f.0 ∙ w), omega (arith, g.fewer, ap sizes f.0), g.there f.1)

-- where cells of a term are left, something is due
pub still_due : (s : Substitution) (code : CodeView) (next : ℕ) (old rest between : List Arguments) (a : Arguments) (t u v : Term) (before : List Cell) → old ≡ rest ++ a ∷ [] → AllThere code next (reverse old) → KeepsRest a (reverse rest) (reverse between) → t ≡ argument_at code a.base a.at → resolve s t ≡ u
    → before ++ cells_left s code (reverse old) ≡ cells_of v → 0 < due_after 1 before
still_due s code next old rest between a t u v before e h k ta tu w =
    let f = first_left s code next old rest between a t u e h k ta tu in
    let left : before ++ (cells_of u ++ cells_left s code (reverse between)) ≡ cells_of v = ap (λ ts. before ++ all_cells (terms_from ts)) f.0 ∙ w in
    begins (cells_of u) (cells_left s code (reverse between)) (some_cell u) left
  where
    begins : (cs ds : List Cell) → 0 < length cs → before ++ (cs ++ ds) ≡ cells_of v → 0 < due_after 1 before
    begins [] ds p q = absurd (omega arith)
    begins (c ∷ cs) ds p q = DueAfter-due 1 0 before (cs ++ ds) c (subst (λ es. DueAfter 1 es 0) (sym q) (DueAfter-term v))
