use Rattle.std.proofs.Common.{◌≡◌, ◌≤◌, [], ◌∷◌, length, sym, ap, ◌∙◌, arith, length-append}
use Rattle.au_term.specs.PrefixOrder.{due_after}
use Rattle.au_term.proofs.WholeTermLemmas.{due_after-is, IsStarted-push}
use Rattle.au_term.proofs.builder.TermBuilder.push.Goals as goal

pub overflow_sub-self-inside : goal.overflow_sub-self-inside
overflow_sub-self-inside c =
    let is : c.self.inside.due ≡ due_after 1 c.args.self.now = sym (due_after-is 1 c.self.inside.cells.items c.self.inside.due c.self.invariant.0.leaves) ∙ ap (due_after 1) c.self.view_is in
    omega (arith, c.requires.due)

pub invariant_of-self-2 : goal.invariant_of-self-2
invariant_of-self-2 c =
    let is : c.self.inside.due ≡ due_after 1 c.args.self.now = sym (due_after-is 1 c.self.inside.cells.items c.self.inside.due c.self.invariant.0.leaves) ∙ ap (due_after 1) c.self.view_is in
    let items = c.in_ok-push-2.ensures.items in
    let sum = c.in-Some.ensures in
    let places : length c.push-2.new.self.items ≤ length c.push.new.self.items =
    omega (arith, ap length items, ap length c.in_ok-push.ensures.items, length-append c.self.inside.cells.items (c.args.cell ∷ []), length-append c.self.inside.sizes.items (0 ∷ []), c.self.invariant.1) in
    (rw items (IsStarted-push c.self.inside.cells.items c.self.inside.due c.in-Some.due c.args.cell c.self.invariant.0 (omega (arith, c.requires.due)) c.requires.sound (omega (arith, c.from.ensures, c.arity.ensures))), places)
