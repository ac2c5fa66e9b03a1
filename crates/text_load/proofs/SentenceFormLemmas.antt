-- What a term is by its first cell.
use Rattle.std.proofs.Common.{◌≡◌, ℕ, suc, ◌<◌, Bool, true, false, not, ◌==◌, List, codes, Result, IfOk, subst, refl, sym, ap, ◌∙◌, arith}
use Rattle.std.proofs.lemmas.Bool.Decides.{nat_tests}
use Rattle.au_term.specs.Term.{Term, VarTerm, IntTerm, AtomTerm, Compound, end, more, count, argument_count}
use Rattle.au_term.specs.PrefixOrder.{top_of}
use Rattle.au_term.specs.declared.cell.Cell.{Cell}
use Rattle.au_term.specs.declared.cell.Cell.TheVariants.{Atom as AtomCell, Functor}
use Rattle.au_model.specs.Terms.Forms.{same_name}
use Rattle.run_model.specs.Goals.GoalOutcomes.{is_reserved}
use Rattle.au_model.specs.Terms.Named.{NamedVariable}
use Rattle.au_term.specs.declared.NoMemory.{NoMemory}
use Rattle.text_load.specs.LoadedSentences.{IsSentenceOf}
use Rattle.text_load.specs.declared.sentence.Sentence.{Sentence}
use Rattle.text_load.specs.Sentences as form
use Rattle.text_load.specs.Sentences.{may_head, sentence_of}
use Rattle.text_load.specs.SentenceForms.{compound_form, sentence_form_of_cell, sentence_written_as}
use Rattle.text_load.specs.declared.sentence.Form.{Form}
use Rattle.text_load.specs.declared.sentence.Form.TheVariants.{Query, Directive, Rule, Fact}

pub may_atom : (t : Term) (a name : List ℕ) (b : Bool) → top_of t ≡ AtomCell a → name ≡ a → b ≡ is_reserved name 0 → not b ≡ may_head t
may_atom (VarTerm n) a name b e k h = let f : ⊥ = cc in absurd f
may_atom (IntTerm z) a name b e k h = let f : ⊥ = cc in absurd f
may_atom (AtomTerm c) a name b e k h = let same : name ≡ c = cc in ap not (h ∙ ap (λ n. is_reserved n 0) same)
may_atom (Compound f ts) a name b e k h = let g : ⊥ = cc in absurd g

pub may_functor : (t : Term) (f name : List ℕ) (n : ℕ) (b : Bool) → top_of t ≡ Functor f n → name ≡ f → b ≡ is_reserved name n → not b ≡ may_head t
may_functor (VarTerm m) f name n b e k h = let g : ⊥ = cc in absurd g
may_functor (IntTerm z) f name n b e k h = let g : ⊥ = cc in absurd g
may_functor (AtomTerm c) f name n b e k h = let g : ⊥ = cc in absurd g
may_functor (Compound c ts) f name n b e k h =
    let same : name ≡ c = cc in
    let number : n ≡ count ts = cc in
    ap not (h ∙ (ap (λ m. is_reserved m n) same ∙ ap (is_reserved c) number))

-- compounds with one, two and more arguments
one_form : (names : List NamedVariable) (f : List ℕ) (t : Term) (asks rules : Bool) → same_name f (codes "?-") ≡ asks → same_name f (codes ":-") ≡ rules
    → sentence_of names (Compound f (more t end)) ≡ sentence_written_as (compound_form 1 asks rules) names (Compound f (more t end))
one_form names f t true rules e k = rw e refl
one_form names f t false true e k = rw e (rw k refl)
one_form names f t false false e k = rw e (rw k refl)

two_form : (names : List NamedVariable) (f : List ℕ) (t u : Term) (asks rules : Bool) → same_name f (codes ":-") ≡ rules
    → sentence_of names (Compound f (more t (more u end))) ≡ sentence_written_as (compound_form 2 asks rules) names (Compound f (more t (more u end)))
two_form names f t u asks true k = rw k refl
two_form names f t u asks false k = rw k refl

many : (n : ℕ) (asks rules : Bool) → compound_form (suc (suc (suc n))) asks rules ≡ Fact
many n asks rules =
    let one : (suc (suc (suc n)) == 1) ≡ false = grind (arith, nat_tests) in
    let two : (suc (suc (suc n)) == 2) ≡ false = grind (arith, nat_tests) in
    rw one (rw two refl)

pub sentence_as : (names : List NamedVariable) (t : Term) → sentence_of names t ≡ sentence_written_as (sentence_form_of_cell (top_of t)) names t
sentence_as names (VarTerm n) = refl
sentence_as names (IntTerm z) = refl
sentence_as names (AtomTerm a) = refl
sentence_as names (Compound f end) = refl
sentence_as names (Compound f (more t end)) = one_form names f t (same_name f (codes "?-")) (same_name f (codes ":-")) refl refl
sentence_as names (Compound f (more t (more u end))) = two_form names f t u (same_name f (codes "?-")) (same_name f (codes ":-")) refl
sentence_as names (Compound f (more t (more u (more v ts)))) = ap (λ k. sentence_written_as k names (Compound f (more t (more u (more v ts))))) (sym (many (count ts) (same_name f (codes "?-")) (same_name f (codes ":-"))))

-- how many arguments there are
pub query_has : (t : Term) → sentence_form_of_cell (top_of t) ≡ Query → 0 < argument_count t
query_has (VarTerm n) e = let f : ⊥ = cc in absurd f
query_has (IntTerm z) e = let f : ⊥ = cc in absurd f
query_has (AtomTerm a) e = let f : ⊥ = cc in absurd f
query_has (Compound f end) e = let g : ⊥ = cc in absurd g
query_has (Compound f (more t ts)) e = omega arith

pub directive_has : (t : Term) → sentence_form_of_cell (top_of t) ≡ Directive → 0 < argument_count t
directive_has (VarTerm n) e = let f : ⊥ = cc in absurd f
directive_has (IntTerm z) e = let f : ⊥ = cc in absurd f
directive_has (AtomTerm a) e = let f : ⊥ = cc in absurd f
directive_has (Compound f end) e = let g : ⊥ = cc in absurd g
directive_has (Compound f (more t ts)) e = omega arith

pub rule_has : (t : Term) → sentence_form_of_cell (top_of t) ≡ Rule → 1 < argument_count t
rule_has (VarTerm n) e = let f : ⊥ = cc in absurd f
rule_has (IntTerm z) e = let f : ⊥ = cc in absurd f
rule_has (AtomTerm a) e = let f : ⊥ = cc in absurd f
rule_has (Compound f end) e = let g : ⊥ = cc in absurd g
rule_has (Compound f (more t end)) e = no_rule (same_name f (codes "?-")) (same_name f (codes ":-")) e
  where
    no_rule : (asks rules : Bool) → compound_form 1 asks rules ≡ Rule → 1 < 1
    no_rule true rules e = let g : ⊥ = cc in absurd g
    no_rule false true e = let g : ⊥ = cc in absurd g
    no_rule false false e = let g : ⊥ = cc in absurd g
rule_has (Compound f (more t (more u ts))) e = omega arith

pub as_form : (names : List NamedVariable) (t : Term) (form : Form) (top : Cell) → form ≡ sentence_form_of_cell top → top ≡ top_of t → sentence_of names t ≡ sentence_written_as form names t
as_form names t form top e k = sentence_as names t ∙ sym (ap (λ f. sentence_written_as f names t) (e ∙ ap sentence_form_of_cell k))

pub form_is : (t : Term) (form : Form) (top : Cell) → form ≡ sentence_form_of_cell top → top ≡ top_of t → sentence_form_of_cell (top_of t) ≡ form
form_is t form top e k = sym (e ∙ ap sentence_form_of_cell k)

-- the same answer about the same sentence
pub same_sentence : (r : Result Sentence NoMemory) (s u : form.Sentence) → s ≡ u → IfOk r (IsSentenceOf s) → IfOk r (IsSentenceOf u)
same_sentence r s u e h = subst (λ (x : form.Sentence). IfOk r (IsSentenceOf x)) e h
