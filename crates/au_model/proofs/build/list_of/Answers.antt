use Rattle.std.proofs.Common.{◌≡◌, ◌≤◌, ◌+◌, ◌++◌, ◌∷◌, [], drop, length, ap, sym, ◌∙◌, subst}
use Rattle.std.proofs.lemmas.List.{drop_more, drop_all}
use Rattle.au_term.specs.PrefixOrder.{cells_of, AreDue, due_after}
use Rattle.au_term.specs.declared.cell.Cell.TheVariants.{Functor}
use Rattle.au_model.specs.Terms.Forms.{list_term}
use Rattle.au_model.proofs.ListBuildingLemmas.{list_due, list_item_due, list_further, nil_due, list_whole, list_built}
use Rattle.au_model.proofs.build.list_of.Goals as goal
use Rattle.au_model.proofs.build.list_of.Goals.{After-loop-item, After-item-item}

read : (c : After-item-item) → c.loop-item.builder ++ cells_of (list_term (c.item-item.result ∷ drop (c.loop-item.item-index + 1) c.args.items.now)) ≡ cells_of (list_term c.args.items.now)
read c =
    let xs = c.args.items.now in
    let i = c.loop-item.item-index in
    let here = drop_more xs i c.item-item.result c.loop-item-test.true ∙ ap (λ y. y ∷ drop (i + 1) xs) (sym c.item-item.is) in
    ap (λ ys. c.loop-item.builder ++ cells_of (list_term ys)) (sym here) ∙ c.loop-item.invariant

over : (c : After-loop-item) → length c.args.items.now ≤ c.loop-item.item-index → c.loop-item.builder ++ cells_of (list_term []) ≡ cells_of (list_term c.args.items.now)
over c le = ap (λ ys. c.loop-item.builder ++ cells_of (list_term ys)) (sym (drop_all c.loop-item.item-index c.args.items.now le)) ∙ c.loop-item.invariant

pub push-requires-clause-due : goal.push-requires-clause-due
push-requires-clause-due c = list_due (list_term c.args.items.now) c.item-item.result (drop (c.loop-item.item-index + 1) c.args.items.now) c.loop-item.builder (read (goal.at.push-requires-clause-due c).After-item-item)

pub push_all-requires-clause-due : goal.push_all-requires-clause-due
push_all-requires-clause-due c =
    subst (AreDue (due_after 1 c.push.new.self)) (sym c.cells.ensures.cells)
    (list_item_due (list_term c.args.items.now) c.item-item.result (drop (c.loop-item.item-index + 1) c.args.items.now) c.loop-item.builder c.push.new.self (read (goal.at.push_all-requires-clause-due c).After-item-item)
    (c.in_ok-push.ensures.ok ∙ ap (λ f. c.loop-item.builder ++ Functor f 2 ∷ []) c.in_ok-ascii.ensures))

pub loop-item-preserved : goal.loop-item-preserved
loop-item-preserved c =
    list_further (list_term c.args.items.now) c.item-item.result (drop (c.loop-item.item-index + 1) c.args.items.now) c.loop-item.builder c.push.new.self c.push_all.new.self (read (goal.at.loop-item-preserved c).After-item-item)
    (c.in_ok-push.ensures.ok ∙ ap (λ f. c.loop-item.builder ++ Functor f 2 ∷ []) c.in_ok-ascii.ensures) (c.in_ok-push_all.ensures.ok ∙ ap (λ cs. c.push.new.self ++ cs) c.cells.ensures.cells)

pub push_all-requires-2-clause-due : goal.push_all-requires-2-clause-due
push_all-requires-2-clause-due c =
    subst (AreDue (due_after 1 c.loop-item.builder)) (sym c.cells-2.ensures.cells) (nil_due (list_term c.args.items.now) c.in_ok-nil.nil c.loop-item.builder (over (goal.at.push_all-requires-2-clause-due c).After-loop-item c.loop-item-test.false) c.in_ok-nil.ensures)

pub finish-requires : goal.finish-requires
finish-requires c =
    list_whole (list_term c.args.items.now) c.in_ok-nil.nil c.loop-item.builder c.push_all-2.new.self (over (goal.at.finish-requires c).After-loop-item c.loop-item-test.false) c.in_ok-nil.ensures
    (c.in_ok-push_all-2.ensures.ok ∙ ap (λ cs. c.loop-item.builder ++ cs) c.cells-2.ensures.cells)

pub returns : goal.returns
returns c =
    list_built c.finish.result (list_term c.args.items.now) c.in_ok-nil.nil c.loop-item.builder c.push_all-2.new.self (over (goal.at.returns c).After-loop-item c.loop-item-test.false) c.in_ok-nil.ensures
    (c.in_ok-push_all-2.ensures.ok ∙ ap (λ cs. c.loop-item.builder ++ cs) c.cells-2.ensures.cells) c.finish.ensures.cells
