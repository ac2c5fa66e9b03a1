use Rattle.std.proofs.Common.{◌∙◌, List, map, ap, sym, subst}
use Rattle.std.specs.Arc.{arc_value}
use Rattle.au_term.specs.Term.{argument_count}
use Rattle.au_model.specs.Terms.Forms.{name_of}
use Rattle.run_model.specs.Programs.Clauses.{Clause}
use Rattle.text_load.specs.LoadedTexts.{Loading, is_declared}
use Rattle.text_load.specs.LoadingView.{AreByDeclaration}
use Rattle.text_load.proofs.ProcedureLemmas.{static_apart}
use Rattle.text_load.proofs.loading.Loading.with_static.Goals as goal

pub invariant_of-self : goal.invariant_of-self
invariant_of-self c =
    let clause = arc_value c.args.clause in
    let dynamics = map arc_value c.self.inside.dynamics.items in
    let other = ap (λ (l : Loading). is_declared l.declared (name_of clause.head) (argument_count clause.head)) c.self.view_is ∙ c.requires in
    subst (λ (cs : List Clause). AreByDeclaration c.self.inside.declared cs dynamics) (sym c.in_ok-self-inside.ensures)
    (static_apart c.self.inside.declared c.self.inside.statics dynamics c.self.invariant clause other)
