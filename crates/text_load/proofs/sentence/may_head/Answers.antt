use Rattle.std.proofs.Common.{◌∙◌, sym}
use Rattle.text_load.proofs.SentenceFormLemmas.{may_atom, may_functor}
use Rattle.text_load.proofs.sentence.may_head.Goals as goal

pub returns-in-Atom : goal.returns-in-Atom
returns-in-Atom c = may_atom c.args.head.now c.in-Atom.name _ c.is_reserved.result (sym c.top.ensures ∙ c.in-Atom.is) c.text.ensures c.is_reserved.ensures

pub returns-in-Functor : goal.returns-in-Functor
returns-in-Functor c =
    may_functor c.args.head.now c.in-Functor.name _ c.in-Functor.arity c.is_reserved-in-Functor.result (sym c.top.ensures ∙ c.in-Functor.is) c.text-in-Functor.ensures c.is_reserved-in-Functor.ensures
