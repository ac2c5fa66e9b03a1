use Rattle.std.proofs.Common.{◌≡◌, ◌∙◌, ◌&&◌, Bool, true, false, ap, sym, refl}
use Rattle.std.proofs.lemmas.Bool.{eq-eqb}
use Rattle.std.specs.Str.{chars}
use Rattle.au_model.specs.Terms.Forms.{same_name}
use Rattle.au_term.proofs.TextLemmas.{by_chars}
use Rattle.std_builtins.proofs.table.is_row.Goals as goal

and_true : (b : Bool) → b ≡ (b && true)
and_true true = refl
and_true false = refl

pub returns-then-count-arity : goal.returns-then-count-arity
returns-then-count-arity c =
    let same = same_name (chars c.args.row.now) (chars c.args.name.now) in
    c.eq.ensures ∙ (by_chars c.args.row.now c.args.name.now c.utf8.row c.utf8.name ∙ (and_true same ∙ ap (λ b. same && b) (sym (eq-eqb c.args.count c.args.arity c.if-count-arity.true))))
