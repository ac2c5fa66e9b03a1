use Rattle.std.proofs.Common.{◌≡◌, ◌∙◌, ◌++◌, ◌∷◌, [], ℕ, List, IfOk, ap, sym, subst}
use Rattle.std.specs.Str.{chars}
use Rattle.std.proofs.lemmas.Str.{chars-nil}
use Rattle.au_term.specs.Term.{AtomTerm}
use Rattle.std_builtins.proofs.TextLemmas.{map_itself, taken_all, taken_more}
use Rattle.std_builtins.proofs.asked.atom_of.Goals as goal

pub loop-c-init : goal.loop-c-init
loop-c-init c = ap chars c.new-text.ensures.bytes ∙ chars-nil

pub loop-c-preserved : goal.loop-c-preserved
loop-c-preserved c =
    c.in_ok-put.ensures ∙ (ap (λ (xs : List ℕ). xs ++ c.c-item.result ∷ []) c.loop-c.invariant ∙ sym (taken_more (λ x. x) c.args.characters.now c.loop-c.c-index c.c-item.result c.loop-c-test.true c.c-item.is))

pub returns : goal.returns
returns c =
    let all = ap chars c.as_str.ensures.value ∙ (c.loop-c.invariant ∙ (taken_all (λ x. x) c.args.characters.now c.loop-c.c-index c.loop-c-test.false ∙ map_itself c.args.characters.now)) in
    subst (λ cs. IfOk c.atom_term.result (λ t. t ≡ AtomTerm cs)) all c.atom_term.ensures
