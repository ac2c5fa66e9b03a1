use Rattle.std.proofs.Common.{◌≡◌, ◌∙◌, [], ◌∷◌, ◌++◌, IfOk, ap, subst}
use Rattle.std.specs.Str.{chars}
use Rattle.std.proofs.lemmas.Str.{chars-nil}
use Rattle.au_term.specs.Term.{AtomTerm}
use Rattle.std_builtins.proofs.characters.character_term.Goals as goal

pub returns : goal.returns
returns c =
    let e = ap chars c.as_str.ensures.value ∙ (c.in_ok-put.ensures ∙ ap (λ ys. ys ++ c.args.c ∷ []) (ap chars c.new-text.ensures.bytes ∙ chars-nil)) in
    subst (λ ds. IfOk c.atom_term.result (λ t. t ≡ AtomTerm ds)) e c.atom_term.ensures
