use Rattle.std.proofs.Common.{◌≡◌, ◌∙◌, ◌++◌, IfOk, ap, subst}
use Rattle.std.specs.Str.{chars}
use Rattle.std.proofs.lemmas.Str.{chars-append}
use Rattle.au_term.specs.Term.{AtomTerm}
use Rattle.std_builtins.proofs.atom_concat.joined.Goals as goal

pub returns : goal.returns
returns c =
    let all = ap chars (c.as_str.ensures.value ∙ (c.in_ok-push_str.ensures.bytes ∙ ap (λ bs. bs ++ c.args.second.now) c.in_ok-text.ensures.ok)) ∙ chars-append c.args.first.now c.args.second.now c.utf8.first in
    subst (λ cs. IfOk c.atom_term.result (λ t. t ≡ AtomTerm cs)) all c.atom_term.ensures
