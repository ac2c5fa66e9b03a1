-- Terms without variables.
use Rattle.std.proofs.Common.{◌≡◌, ℕ, suc, max, ◌&&◌, ◌==◌, Bool, true, false, List, [], ◌∷◌, ◌++◌, refl, sym, ap, ◌∙◌, arith}
use Rattle.std.proofs.lemmas.Bool.Decides.{nat_tests}
use Rattle.std.proofs.lemmas.List.{map-append}
use Rattle.au_term.specs.Term.{Term, Compound as CompoundTerm, var_bound, all_bound}
use Rattle.au_model.specs.Terms.Lists.{terms_from}
use Rattle.au_model.specs.Terms.Substitutions.{resolve}
use Rattle.au_model.specs.Terms.Unifier.{size}
use Rattle.run_model.specs.Goals.TermTests.{is_ground}
use Rattle.binding_array.specs.declared.cell.BindingCell.{BindingCell}
use Rattle.binding_array.specs.declared.cell.BindingCell.TheVariants.{Compound}
use Rattle.cell_store.specs.Arguments.{HasOpened, pending_terms, resolved_terms, sizes}
use Rattle.cell_store.specs.StoreView.{StoreView, IsDereferenced, meaning, value_term, substitution, text_in}
use Rattle.cell_store.specs.declared.arguments.Arguments.{Arguments}
use Rattle.cell_store.proofs.WalkLemmas.{opened_term, size_list, sizes_append}
use Rattle.value_goals.specs.GroundTerms.{are_ground, terms_left, GoesPast}

both_none : (m n : ℕ) → (max m n == 0) ≡ ((m == 0) && (n == 0))
both_none m n = grind (arith, nat_tests)

all_ground : (ts : List Term) → (all_bound (terms_from ts) == 0) ≡ are_ground ts
all_ground [] = refl
all_ground (t ∷ ts) = both_none (var_bound t) (all_bound (terms_from ts)) ∙ ap (λ b. is_ground t && b) (all_ground ts)

and_assoc : (a b c : Bool) → ((a && b) && c) ≡ (a && (b && c))
and_assoc true b c = refl
and_assoc false b c = refl

ground_append : (ts us : List Term) → are_ground (ts ++ us) ≡ (are_ground ts && are_ground us)
ground_append [] us = refl
ground_append (t ∷ ts) us = ap (λ b. is_ground t && b) (ground_append ts us) ∙ sym (and_assoc (is_ground t) (are_ground ts) (are_ground us))

pub goes_inside : (st : StoreView) (value : BindingCell) (at base : ℕ) (old new : List Arguments) → IsDereferenced st value (Compound at base) → HasOpened (text_in st) st.now.next at base old new → GoesPast st (meaning st value) old new
goes_inside st value at base old new d h =
    let args = resolved_terms (substitution st) h.arguments in
    let whole : meaning st value ≡ CompoundTerm h.name (terms_from args) = sym d.same ∙ opened_term (substitution st) h.name h.arguments (value_term st (Compound at base)) h.term in
    let pending : terms_left st new ≡ args ++ terms_left st old = ap (resolved_terms (substitution st)) h.pending ∙ map-append (resolve (substitution st)) h.arguments (pending_terms (text_in st) old) in
    record {
      same = ap are_ground pending ∙ (ground_append args (terms_left st old) ∙ ap (λ b. b && are_ground (terms_left st old)) (sym (ap is_ground whole ∙ all_ground args)));
      fewer = omega (arith, ap sizes pending, sizes_append args (terms_left st old), ap size whole ∙ ap suc (size_list args));
      there = h.there;
    }
