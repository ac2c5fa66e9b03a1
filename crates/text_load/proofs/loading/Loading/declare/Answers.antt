use Rattle.std.proofs.Common.{◌≡◌, ◌∙◌, false, List, map, ap, sym, subst}
use Rattle.std.specs.Arc.{arc_value}
use Rattle.std.specs.List.{list_any}
use Rattle.run_model.specs.Programs.Clauses.{is_defined}
use Rattle.dyn_clauses.specs.declared.indicator.Indicator.{Indicator}
use Rattle.text_load.specs.LoadedTexts.{Loading}
use Rattle.text_load.specs.LoadingView.{AreByDeclaration}
use Rattle.text_load.proofs.ProcedureLemmas.{declared_apart}
use Rattle.text_load.proofs.loading.Loading.declare.Goals as goal

pub invariant_of-self : goal.invariant_of-self
invariant_of-self c =
    let dynamics = map arc_value c.self.inside.dynamics.items in
    let given = c.args.procedures.items in
    let none : list_any (λ i. is_defined c.self.inside.statics i.name i.arity) given ≡ false
    = ap (λ (l : Loading). list_any (λ i. is_defined l.statics i.name i.arity) given) c.self.view_is
    ∙ (ap (λ (is : List Indicator). list_any (λ i. is_defined c.args.self.statics i.name i.arity) is) (sym c.deref.ensures.value) ∙ (sym c.has_static.ensures ∙ c.if-has_static.false)) in
    subst (λ (is : List Indicator). AreByDeclaration is c.self.inside.statics dynamics) (sym c.in_ok-self-inside.ensures) (declared_apart c.self.inside.declared c.self.inside.statics dynamics c.self.invariant given none)
