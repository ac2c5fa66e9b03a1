use Rattle.std.proofs.Common.{[], ◌∷◌, reverse, subst}
use Rattle.cell_store.specs.StoreView.{text_in}
use Rattle.cell_store.specs.Arguments.{argument_meaning}
use Rattle.cell_store.specs.UnificationSteps.{TakesRule, equations_left}
use Rattle.cell_store.proofs.WalkLemmas.{first_there}
use Rattle.cell_store.proofs.SolvingLemmas.{begins, first_older, clashes, goes_on, all_solved}
use Rattle.cell_store.proofs.solve.solve.Goals as goal

pub loop-pending-init : goal.loop-pending-init
loop-pending-init c = begins c.args.store.now c.args.fresh (c.args.first ∷ reverse c.args.pending.now.items) c.requires.there c.requires.older c.requires.young

pub arguments_go-requires-clause-left : goal.arguments_go-requires-clause-left
arguments_go-requires-clause-left c =
    let st = c.loop-pending.store in
    first_there (text_in st) st.now.next c.loop-pending.open.left c.loop-pending.invariant.there.0.left

pub arguments_go-requires-clause-right : goal.arguments_go-requires-clause-right
arguments_go-requires-clause-right c =
    let st = c.loop-pending.store in
    first_there (text_in st) st.now.next c.loop-pending.open.right c.loop-pending.invariant.there.0.right

pub arguments_go-requires-clause-older : goal.arguments_go-requires-clause-older
arguments_go-requires-clause-older c = first_older (equations_left c.args.store.now (c.args.first ∷ reverse c.args.pending.now.items)) c.args.store.now c.loop-pending.store c.loop-pending.fresh c.loop-pending.open (reverse c.loop-pending.pending.items) c.loop-pending.invariant

pub returns-in-Clash-clause-solved : goal.returns-in-Clash-clause-solved
returns-in-Clash-clause-solved c =
    let st = c.loop-pending.store in
    let left = argument_meaning st c.loop-pending.open.left.base c.loop-pending.open.left.at in
    let right = argument_meaning st c.loop-pending.open.right.base c.loop-pending.open.right.at in
    clashes (equations_left c.args.store.now (c.args.first ∷ reverse c.args.pending.now.items)) c.args.store.now st c.loop-pending.fresh c.loop-pending.open (reverse c.loop-pending.pending.items) c.loop-pending.invariant
    (subst (TakesRule st c.arguments_go.new.store left right) c.in-Clash.is c.in_ok-arguments_go.ensures.goes)

pub loop-pending-smaller-in-Some : goal.loop-pending-smaller-in-Some
loop-pending-smaller-in-Some c =
    let st = c.loop-pending.store in
    let new = c.arguments_go.new.store in
    let left = argument_meaning st c.loop-pending.open.left.base c.loop-pending.open.left.at in
    let right = argument_meaning st c.loop-pending.open.right.base c.loop-pending.open.right.at in
    let follows = subst (TakesRule st new left right) c.in-Solved.is c.in_ok-arguments_go.ensures.goes in
    (goes_on (equations_left c.args.store.now (c.args.first ∷ reverse c.args.pending.now.items)) c.args.store.now st c.loop-pending.fresh c.loop-pending.open (reverse c.loop-pending.pending.items) c.loop-pending.invariant (c.in-Some.next ∷ reverse c.next_equations.new.pending.items)
    c.in-Some.ensures new c.arguments_go.new.fresh [] follows c.in_ok-arguments_go.ensures.kept.others c.in_ok-arguments_go.ensures.stays).1

pub loop-pending-preserved-in-Some : goal.loop-pending-preserved-in-Some
loop-pending-preserved-in-Some c =
    let st = c.loop-pending.store in
    let new = c.arguments_go.new.store in
    let left = argument_meaning st c.loop-pending.open.left.base c.loop-pending.open.left.at in
    let right = argument_meaning st c.loop-pending.open.right.base c.loop-pending.open.right.at in
    let follows = subst (TakesRule st new left right) c.in-Solved.is c.in_ok-arguments_go.ensures.goes in
    (goes_on (equations_left c.args.store.now (c.args.first ∷ reverse c.args.pending.now.items)) c.args.store.now st c.loop-pending.fresh c.loop-pending.open (reverse c.loop-pending.pending.items) c.loop-pending.invariant (c.in-Some.next ∷ reverse c.next_equations.new.pending.items)
    c.in-Some.ensures new c.arguments_go.new.fresh [] follows c.in_ok-arguments_go.ensures.kept.others c.in_ok-arguments_go.ensures.stays).0

pub loop-pending-smaller : goal.loop-pending-smaller
loop-pending-smaller c =
    let st = c.loop-pending.store in
    let new = c.arguments_go.new.store in
    let left = argument_meaning st c.loop-pending.open.left.base c.loop-pending.open.left.at in
    let right = argument_meaning st c.loop-pending.open.right.base c.loop-pending.open.right.at in
    let follows = subst (TakesRule st new left right) c.in-Inside.is c.in_ok-arguments_go.ensures.goes in
    (goes_on (equations_left c.args.store.now (c.args.first ∷ reverse c.args.pending.now.items)) c.args.store.now st c.loop-pending.fresh c.loop-pending.open (reverse c.loop-pending.pending.items) c.loop-pending.invariant (reverse c.push_rest.new.pending.items)
    c.in_ok-push_rest-in-Inside.ensures new c.arguments_go.new.fresh (c.in-Inside.inner ∷ []) follows c.in_ok-arguments_go.ensures.kept.others c.in_ok-arguments_go.ensures.stays).1

pub loop-pending-preserved : goal.loop-pending-preserved
loop-pending-preserved c =
    let st = c.loop-pending.store in
    let new = c.arguments_go.new.store in
    let left = argument_meaning st c.loop-pending.open.left.base c.loop-pending.open.left.at in
    let right = argument_meaning st c.loop-pending.open.right.base c.loop-pending.open.right.at in
    let follows = subst (TakesRule st new left right) c.in-Inside.is c.in_ok-arguments_go.ensures.goes in
    (goes_on (equations_left c.args.store.now (c.args.first ∷ reverse c.args.pending.now.items)) c.args.store.now st c.loop-pending.fresh c.loop-pending.open (reverse c.loop-pending.pending.items) c.loop-pending.invariant (reverse c.push_rest.new.pending.items)
    c.in_ok-push_rest-in-Inside.ensures new c.arguments_go.new.fresh (c.in-Inside.inner ∷ []) follows c.in_ok-arguments_go.ensures.kept.others c.in_ok-arguments_go.ensures.stays).0

pub returns-in-None-clause-solved : goal.returns-in-None-clause-solved
returns-in-None-clause-solved c =
    let st = c.loop-pending.store in
    let new = c.arguments_go.new.store in
    let left = argument_meaning st c.loop-pending.open.left.base c.loop-pending.open.left.at in
    let right = argument_meaning st c.loop-pending.open.right.base c.loop-pending.open.right.at in
    let follows = subst (TakesRule st new left right) c.in-Solved.is c.in_ok-arguments_go.ensures.goes in
    all_solved (c.args.first ∷ reverse c.args.pending.now.items) c.args.store.now new c.arguments_go.new.fresh (goes_on (equations_left c.args.store.now (c.args.first ∷ reverse c.args.pending.now.items)) c.args.store.now st c.loop-pending.fresh c.loop-pending.open (reverse c.loop-pending.pending.items) c.loop-pending.invariant []
    c.in-None.ensures new c.arguments_go.new.fresh [] follows c.in_ok-arguments_go.ensures.kept.others c.in_ok-arguments_go.ensures.stays).0
