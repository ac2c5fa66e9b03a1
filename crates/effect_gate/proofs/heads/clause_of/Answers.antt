use Rattle.std.proofs.Common.{codes}
use Rattle.std.specs.Arc.{arc_value}
use Rattle.au_model.specs.Terms.ErrorTerms.{type_error}
use Rattle.run_model.specs.Programs.Bodies.{body_of}
use Rattle.effect_gate.proofs.HeadLemmas.{made_without}
use Rattle.effect_gate.proofs.heads.clause_of.Goals as goal

pub returns-in-Ok : goal.returns-in-Ok
returns-in-Ok c =
    let made = c.in-Ok.ensures in
    (made_without c.args.head.now (body_of c.args.body.now) (type_error (codes "callable") c.args.body.now) (arc_value c.in-Ok.clause) made.0 made.1, made)
