use Rattle.std.proofs.Common.{◌∷◌, [], ◌++◌, ◌∙◌, ap, sym, subst, arith, get_or}
use Rattle.au_term.specs.Term.{count}
use Rattle.au_term.specs.PrefixOrder.{subterm, due_after, AreDue}
use Rattle.au_term.proofs.WholeTermLemmas.{first_cell, cells_are_due}
use Rattle.clause_compile.specs.BodyCells.{opens_junction}
use Rattle.clause_compile.proofs.NormalBodyLemmas.{stands_first, junction_sides, keeps_junction, keeps_goal, own_body, variable_body}
use Rattle.clause_compile.proofs.body.normalize_goal.Goals as goal

pub returns-then-is_junction_cell : goal.returns-then-is_junction_cell
returns-then-is_junction_cell c =
    let t = c.args.body.now in
    let top = c.index-goal-0.is ∙ (ap (λ cs. get_or cs 0 c.index-goal-0.result) c.subterm-goal.ensures.cells ∙ first_cell (subterm c.args.at t) c.index-goal-0.result) in
    keeps_junction t c.args.at c.term_end-end.result c.args.builder.now c.push.new.self (record { end = c.term_end-end.ensures.end; rest = c.term_end-end.ensures.rest; within = c.term_end-end.ensures.within }) c.requires.due
    (junction_sides (subterm c.args.at t) (ap opens_junction (sym top) ∙ (sym c.is_junction_cell.ensures ∙ c.if-is_junction_cell.true)))
    (c.in_ok-push.ensures.ok ∙ ap (λ d. c.args.builder.now ++ d ∷ []) (c.in_ok-share.ensures ∙ top))

pub push_all-requires-clause-due : goal.push_all-requires-clause-due
push_all-requires-clause-due c =
    let t = c.args.body.now in
    let first = stands_first t c.args.at c.term_end-end.result (record { end = c.term_end-end.ensures.end; rest = c.term_end-end.ensures.rest; within = c.term_end-end.ensures.within }) in
    subst (AreDue (due_after 1 c.args.builder.now)) (sym c.subterm-goal.ensures.cells) (cells_are_due (subterm c.args.at t) (due_after 1 c.args.builder.now) (omega (arith, c.requires.due, ap count first)))

pub returns-in_ok-push_call-in-Var : goal.returns-in_ok-push_call-in-Var
returns-in_ok-push_call-in-Var c =
    let t = c.args.body.now in
    let top = c.index-goal-0.is ∙ (ap (λ cs. get_or cs 0 c.index-goal-0.result) c.subterm-goal.ensures.cells ∙ first_cell (subterm c.args.at t) c.index-goal-0.result) in
    keeps_goal t c.args.at c.term_end-end.result c.args.builder.now c.push_call.new.builder _ (record { end = c.term_end-end.ensures.end; rest = c.term_end-end.ensures.rest; within = c.term_end-end.ensures.within }) c.requires.due
    (variable_body (subterm c.args.at t) c.in-Var.number (sym top ∙ c.in-Var.is)) c.in_ok-push_call-in-Var.ensures

pub returns-in_ok-push_all-in_default : goal.returns-in_ok-push_all-in_default
returns-in_ok-push_all-in_default c =
    let t = c.args.body.now in
    let top = c.index-goal-0.is ∙ (ap (λ cs. get_or cs 0 c.index-goal-0.result) c.subterm-goal.ensures.cells ∙ first_cell (subterm c.args.at t) c.index-goal-0.result) in
    keeps_goal t c.args.at c.term_end-end.result c.args.builder.now c.push_all.new.self (subterm c.args.at t) (record { end = c.term_end-end.ensures.end; rest = c.term_end-end.ensures.rest; within = c.term_end-end.ensures.within }) c.requires.due
    (own_body (subterm c.args.at t) (ap opens_junction (sym top) ∙ (sym c.is_junction_cell.ensures ∙ c.if-is_junction_cell.false)) (λ n e. c.in_default.not-Var n (top ∙ e)) (λ z e. c.in_default.not-Int z (top ∙ e))) (c.in_ok-push_all-in_default.ensures.ok ∙ ap (λ cs. c.args.builder.now ++ cs) c.subterm-goal.ensures.cells)
