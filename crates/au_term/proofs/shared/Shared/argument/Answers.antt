use Rattle.std.proofs.Common.{◌≡◌, ◌<◌, ap, ◌∙◌, sym, subst, arith}
use Rattle.au_term.specs.PrefixOrder.{subterm}
use Rattle.au_term.specs.Shifted.{shifted, IsShiftablePlace}
use Rattle.au_term.specs.Term.{argument, argument_count, var_bound}
use Rattle.au_term.proofs.ShiftLemmas.{argument_count-shifted, argument-shifted, argument-bound}
use Rattle.au_term.proofs.shared.Shared.argument.Goals as goal
use Rattle.au_term.proofs.shared.Shared.argument.Goals.{After-deref}

few : (c : After-deref) → c.args.i < argument_count (subterm c.self.inside.at c.deref.result.now)
few c =
    let number : argument_count c.args.self.now ≡ argument_count (subterm c.self.inside.at c.deref.result.now) =
    sym (ap argument_count c.self.view_is) ∙ (argument_count-shifted c.self.inside.base _ ∙ ap (λ t. argument_count (subterm c.self.inside.at t)) (sym c.deref.ensures)) in
    subst (λ n. c.args.i < n) number c.requires

pub arg_start-requires-clause-argument : goal.arg_start-requires-clause-argument
arg_start-requires-clause-argument c = few c

pub invariant_of-result : goal.invariant_of-result
invariant_of-result c =
    let t = c.deref.result.now in
    let less = argument-bound c.args.i (subterm c.self.inside.at t) (few (goal.at.invariant_of-result c).After-deref) in
    let place : IsShiftablePlace t c.arg_start.result c.self.inside.base = record {
      within = c.arg_start.ensures.within;
      fits = omega (arith, ap var_bound c.arg_start.ensures.is, less, ap (λ u. var_bound (subterm c.self.inside.at u)) c.deref.ensures, c.self.invariant.fits);
    } in
    subst (λ u. IsShiftablePlace u c.arg_start.result c.self.inside.base) (c.deref.ensures ∙ sym c.in_ok-clone.ensures.cases) place

pub returns : goal.returns
returns c =
    let base = c.self.inside.base in
    let at = c.self.inside.at in
    ap (λ t. shifted base (subterm c.arg_start.result t)) (c.in_ok-clone.ensures.cases ∙ sym c.deref.ensures)
    ∙ (ap (shifted base) c.arg_start.ensures.is
    ∙ (sym (argument-shifted base c.args.i (subterm at c.deref.result.now) (few (goal.at.returns c).After-deref))
    ∙ (ap (λ t. argument c.args.i (shifted base (subterm at t))) c.deref.ensures ∙ ap (argument c.args.i) c.self.view_is)))
