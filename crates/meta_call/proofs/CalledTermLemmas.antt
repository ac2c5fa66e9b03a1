-- Terms with further arguments.
use Rattle.std.proofs.Common.{◌≡◌, ℕ, zero, suc, ◌+◌, ◌<◌, List, [], ◌∷◌, ◌++◌, append-nil, reverse, refl, sym, ap, ap₂, ◌∙◌, subst, arith}
use Rattle.au_term.specs.Term.{Term, AtomTerm, Compound, Terms, end, more, count, argument_count}
use Rattle.au_term.specs.PrefixOrder.{cells_of, all_cells, append_terms}
use Rattle.au_term.specs.declared.cell.Cell.{Cell}
use Rattle.au_term.specs.declared.cell.Cell.TheVariants.{Functor}
use Rattle.au_model.specs.Terms.Lists.{terms_from}
use Rattle.au_model.proofs.EquationsInTurnLemmas.{resolve-nothing}
use Rattle.run_model.specs.Goals.Control.{with_arguments}
use Rattle.clause_compile.specs.AtomNumbers.{name_at}
use Rattle.clause_compile.specs.Places.{CodeView}
use Rattle.binding_array.specs.declared.cell.BindingCell.{BindingCell}
use Rattle.cell_store.specs.Arguments.{arguments_in, arguments_from, pending_terms, resolved_terms}
use Rattle.cell_store.specs.StoreView.{StoreView, text_in, value_term}
use Rattle.cell_store.specs.declared.arguments.Arguments.{Arguments}
use Rattle.region_control.specs.GoalForms.{AreArgumentsIn}
use Rattle.meta_call.specs.CalledTerms.{further_terms, HasBegun, HasNameAndArguments, PutsArguments}

pub count_from : (code : CodeView) (base n at : ℕ) → count (terms_from (arguments_from code base n at)) ≡ n
count_from code base zero at = refl
count_from code base (suc n) at = ap suc (count_from code base n (at + 1))

atom_count : (a : List ℕ) (us : Terms) → argument_count (with_arguments (AtomTerm a) us) ≡ count us
atom_count a end = refl
atom_count a (more u us) = refl

pub own_count : (st : StoreView) (callee : BindingCell) (name : ℕ) (own : Arguments) → HasNameAndArguments st callee name own → argument_count (value_term st callee) ≡ own.count
own_count st callee name own h = ap argument_count h.term ∙ (atom_count _ (terms_from (arguments_in (text_in st) own)) ∙ count_from (text_in st) own.base own.count own.at)

listed-append : (ts us : List Term) → terms_from (ts ++ us) ≡ append_terms (terms_from ts) (terms_from us)
listed-append [] us = refl
listed-append (t ∷ ts) us = ap (more t) (listed-append ts us)

pub count-append : (ts us : Terms) → count (append_terms ts us) ≡ count ts + count us
count-append end us = omega arith
count-append (more t ts) us = omega (arith, count-append ts us)

nothing_resolved : (ts : List Term) → resolved_terms [] ts ≡ ts
nothing_resolved [] = refl
nothing_resolved (t ∷ ts) = ap₂ (λ u us. u ∷ us) (resolve-nothing t) (nothing_resolved ts)

-- an atom with arguments, and further ones
added_twice : (a : List ℕ) (us vs : Terms) → 0 < count vs → with_arguments (with_arguments (AtomTerm a) us) vs ≡ Compound a (append_terms us vs)
added_twice a us end lt = absurd (omega arith)
added_twice a end (more v vs) lt = refl
added_twice a (more u us) (more v vs) lt = refl

pub has_begun : (st : StoreView) (callee : BindingCell) (further own : Arguments) (name : ℕ) (built : List Cell) (first second third : List Arguments) → HasNameAndArguments st callee name own → AreArgumentsIn st further → 0 < further.count → first ≡ [] → PutsArguments further (reverse first) (reverse second) → PutsArguments own (reverse second) (reverse third)
    → built ≡ Functor (name_at (text_in st).names name) (own.count + further.count) ∷ [] → HasBegun st callee further built third
has_begun st callee further own name built first second third h f some none p q b =
    let code = text_in st in
    let a = name_at code.names name in
    let us = terms_from (arguments_in code own) in
    let vs = terms_from (arguments_in code further) in
    let one = subst (λ fs. PutsArguments further (reverse fs) (reverse second)) none p code st.now.next f.there tt in
    let two = q code st.now.next h.there one.there in
    let own_many : count us ≡ own.count = count_from code own.base own.count own.at in
    let many : count vs ≡ further.count = count_from code further.base further.count further.at in
    let pending : pending_terms code (reverse third) ≡ arguments_in code own ++ arguments_in code further = two.terms ∙ ap (λ ts. arguments_in code own ++ ts) (one.terms ∙ append-nil (arguments_in code further)) in
    let left : terms_from (resolved_terms [] (pending_terms code (reverse third))) ≡ append_terms us vs = ap terms_from (nothing_resolved (pending_terms code (reverse third)) ∙ pending) ∙ listed-append (arguments_in code own) (arguments_in code further) in
    let whole : with_arguments (value_term st callee) (further_terms st further) ≡ Compound a (append_terms us vs) = ap (λ t. with_arguments t vs) h.term ∙ added_twice a us vs (omega (arith, some, many)) in
    let all : count (append_terms us vs) ≡ own.count + further.count = omega (arith, count-append us vs, own_many, many) in
    record {
      same = ap₂ (λ cs ts. cs ++ all_cells ts) b left ∙ sym (ap cells_of whole ∙ ap (λ n. Functor a n ∷ all_cells (append_terms us vs)) all);
      there = two.there;
    }
