use Rattle.std.proofs.Common.{refl, ap, sym, ◌∙◌, ◌++◌, ◌∷◌, [], List, subst}
use Rattle.au_term.specs.Term.{VarTerm}
use Rattle.au_term.specs.PrefixOrder.{cells_of, due_after, AreDue}
use Rattle.au_term.specs.declared.cell.Cell.TheVariants.{Functor}
use Rattle.au_term.proofs.WholeTermLemmas.{cells_are_due}
use Rattle.run_model.specs.Programs.Bodies.{body_of, call_of}
use Rattle.binding_array.specs.declared.cell.BindingCell.{BindingCell}
use Rattle.cell_store.specs.StoreView.{meaning}
use Rattle.meta_call.proofs.BodyLemmas.{keeps_one, keeps_sides}
use Rattle.meta_call.proofs.bodies.keep_part.Goals as goal

pub push_all-requires-clause-due : goal.push_all-requires-clause-due
push_all-requires-clause-due c =
    subst (AreDue (due_after 1 c.args.builder.now)) (sym c.cells.ensures.cells) (cells_are_due c.in_ok-goal-in-Goal.goal (due_after 1 c.args.builder.now) c.requires.due)

pub returns-in_ok-push_call-in-Variable : goal.returns-in_ok-push_call-in-Variable
returns-in_ok-push_call-in-Variable c =
    keeps_one c.args.store.now c.args.value (call_of (VarTerm c.in-Variable.number)) c.args.builder.now c.push_call.new.builder c.args.pending.now.items c.args.pending.now.items
    (ap body_of c.in-Variable.ensures.0) c.in_ok-push_call-in-Variable.ensures refl

pub returns-in_ok-push-in-Junction-3 : goal.returns-in_ok-push-in-Junction-3
returns-in_ok-push-in-Junction-3 c =
    let left = c.in-Junction.left in
    keeps_sides c.args.store.now c.args.value c.in-Junction.name left c.in-Junction.right c.args.builder.now c.push.new.self c.args.pending.now.items c.push-in-Junction-2.new.self.items c.in-Junction.ensures
    (c.in_ok-push-in-Junction.ensures.ok ∙ ap (λ f. c.args.builder.now ++ Functor f 2 ∷ []) (c.in_ok-share-in-Junction.ensures ∙ c.name.ensures))
    (c.in_ok-push-in-Junction-3.ensures.items ∙ ap (λ (vs : List BindingCell). vs ++ left ∷ []) c.in_ok-push-in-Junction-2.ensures.items)

pub returns-in_ok-push_all-in-Goal : goal.returns-in_ok-push_all-in-Goal
returns-in_ok-push_all-in-Goal c =
    let st = c.args.store.now in
    keeps_one st c.args.value (meaning st c.args.value) c.args.builder.now c.push_all.new.self c.args.pending.now.items c.args.pending.now.items
    c.in-Goal.ensures (c.in_ok-push_all-in-Goal.ensures.ok ∙ ap (λ cs. c.args.builder.now ++ cs) (c.cells.ensures.cells ∙ ap cells_of c.in_ok-goal-in-Goal.ensures)) refl
