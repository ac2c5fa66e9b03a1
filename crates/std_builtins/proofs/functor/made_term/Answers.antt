use Rattle.std.proofs.Common.{◌∙◌, ap, sym, arith}
use Rattle.au_term.specs.Term.{Compound}
use Rattle.run_model.specs.Goals.TermParts.{new_variables}
use Rattle.std_builtins.proofs.PartLemmas.{made_found, same_solution}
use Rattle.std_builtins.proofs.functor.made_term.Goals as goal

pub returns-in_ok-copy-in-Atom : goal.returns-in_ok-copy-in-Atom
returns-in_ok-copy-in-Atom c =
    let some = c.if-count-eq0.false in
    made_found c.args.term.now c.args.name.now c.args.next c.args.count c.in-Atom.functor c.equal_with.result (sym c.top.ensures ∙ c.in-Atom.is) (omega arith)
    (same_solution c.in_ok-copy-in-Atom.field-0 c.args.term.now c.in_ok-made-in-Atom.made (Compound c.in-Atom.functor (new_variables c.args.next c.args.count)) c.from.result c.args.count c.equal_with.result
    c.in_ok-copy-in-Atom.ensures (c.in_ok-made-in-Atom.ensures ∙ ap (λ f. Compound f (new_variables c.args.next c.args.count)) c.in_ok-share-in-Atom.ensures) c.from.ensures c.equal_with.ensures)
