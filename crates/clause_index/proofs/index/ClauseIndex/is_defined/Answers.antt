use Rattle.std.proofs.Common.{◌∙◌, IfSome, ap, subst}
use Rattle.std.specs.Option.{is_some}
use Rattle.clause_index.specs.declared.key.Class.TheVariants.{Procedure}
use Rattle.clause_index.specs.Classes.{is_of, is_head_of}
use Rattle.clause_index.specs.Chains.{AreFirstsIn}
use Rattle.clause_index.proofs.ClassLemmas.{head_test}
use Rattle.clause_index.proofs.NumberLemmas.{some_first}
use Rattle.clause_index.proofs.index.ClauseIndex.is_defined.Goals as goal

pub returns-in-Some : goal.returns-in-Some
returns-in-Some c =
    let entry = subst (λ o. IfSome o (λ f. AreFirstsIn c.args.self.now c.args.name c.args.arity f.now)) c.in-Some.is c.entry.ensures in
    c.is_some.ensures ∙ (ap is_some entry.all
    ∙ some_first 0 (is_of (Procedure c.args.name c.args.arity)) (is_head_of c.args.name c.args.arity) c.args.self.now (head_test c.args.name c.args.arity))

pub returns-in-None : goal.returns-in-None
returns-in-None c =
    c.is_some-in-None.ensures ∙ (ap is_some c.first.ensures
    ∙ some_first 0 (is_of (Procedure c.args.name c.args.arity)) (is_head_of c.args.name c.args.arity) c.args.self.now (head_test c.args.name c.args.arity))
