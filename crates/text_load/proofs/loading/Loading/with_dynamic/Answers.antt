use Rattle.std.proofs.Common.{◌∙◌, ◌∷◌, [], List, map, ap, sym, subst}
use Rattle.std.proofs.lemmas.List.{map-append}
use Rattle.std.specs.Arc.{arc_value}
use Rattle.au_term.specs.Term.{argument_count}
use Rattle.au_model.specs.Terms.Forms.{name_of}
use Rattle.run_model.specs.Programs.Clauses.{Clause}
use Rattle.text_load.specs.LoadedTexts.{Loading, is_declared}
use Rattle.text_load.specs.LoadingView.{AreByDeclaration}
use Rattle.text_load.proofs.ProcedureLemmas.{dynamic_apart}
use Rattle.text_load.proofs.loading.Loading.with_dynamic.Goals as goal

pub invariant_of-self : goal.invariant_of-self
invariant_of-self c =
    let clause = arc_value c.args.clause in
    let its = ap (λ (l : Loading). is_declared l.declared (name_of clause.head) (argument_count clause.head)) c.self.view_is ∙ c.requires in
    subst (λ (cs : List Clause). AreByDeclaration c.self.inside.declared c.self.inside.statics cs) (sym (ap (map arc_value) c.in_ok-push.ensures.items ∙ map-append arc_value c.self.inside.dynamics.items (c.args.clause ∷ [])))
    (dynamic_apart c.self.inside.declared c.self.inside.statics (map arc_value c.self.inside.dynamics.items) c.self.invariant clause its)
