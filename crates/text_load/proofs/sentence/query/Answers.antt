use Rattle.std.proofs.Common.{◌∙◌, sym, subst, ap, ap₂, max, map, refl, List}
use Rattle.run_model.specs.Programs.Jobs.{names_bound}
use Rattle.au_model.specs.declared.types.VarName.{VarName}
use Rattle.au_term.specs.Term.{var_bound}
use Rattle.au_model.specs.Terms.Named.{variable_meant}
use Rattle.text_load.specs.Sentences as form
use Rattle.text_load.specs.LoadedSentences.{IsSentenceOf}
use Rattle.text_load.specs.declared.sentence.Sentence.TheVariants.{Query}
use Rattle.text_load.proofs.GoalBoundLemmas.{made_of, made_kept, query_kept}
use Rattle.text_load.proofs.sentence.query.Goals as goal

pub new-requires : goal.new-requires
new-requires c =
    let bound = c.bound-in-Ok.ensures ∙ ap var_bound c.in_ok-to_term-in-Ok.ensures in
    let names = c.in_ok-names_bound-in-Ok.ensures ∙ ap (λ (vs : List VarName). names_bound (map variable_meant vs)) c.deref.ensures.value in
    made_kept c.args.body.now c.in-Ok.goals c.args.names.items c.max-vars.result (made_of c.args.body.now c.in-Ok.goals c.empty.result c.empty.ensures c.in-Ok.ensures) (c.max-vars.ensures ∙ ap₂ max bound names)

pub returns-in-Ok : goal.returns-in-Ok
returns-in-Ok c =
    let is = query_kept c.args.body.now c.in-Ok.goals c.args.names.items c.new.result (made_of c.args.body.now c.in-Ok.goals c.empty.result c.empty.ensures c.in-Ok.ensures) c.new.ensures in
    subst (λ (s : form.Sentence). IsSentenceOf s (Query c.new.result)) (sym is) refl
