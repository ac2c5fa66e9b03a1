use Rattle.std.proofs.Common.{◌≡◌, refl, sym, ap, ◌∙◌, subst}
use Rattle.au_term.specs.Term.{Term, VarTerm}
use Rattle.au_model.specs.Terms.Substitutions.{resolve}
use Rattle.au_model.specs.Terms.Unifier.{Replaced, rule}
use Rattle.au_term.specs.Shifted.{shifted}
use Rattle.clause_compile.specs.Places.{meaning_in}
use Rattle.cell_store.specs.FreshVariables.{IsOlder}
use Rattle.cell_store.specs.Arguments.{argument_meaning}
use Rattle.cell_store.specs.StoreView.{meaning, substitution, text_in}
use Rattle.cell_store.proofs.FreshLemmas.{fresh_apart, fresh_young, falls_below, rule_fresh, binding_stays}
use Rattle.cell_store.proofs.RuleLemmas.{variable_binding}
use Rattle.cell_store.proofs.unify.arguments_go.Goals as goal

pub bind_young-requires-clause-can : goal.bind_young-requires-clause-can
bind_young-requires-clause-can c =
    let st = c.args.store.now in
    let v = c.in-Some.variable in
    let d = c.reached-value in
    let f = c.in-Some.ensures in
    let older = subst (IsOlder c.args.fresh.now) (sym d.ensures.reached.same) c.requires.older in
    record {
      there = f.there;
      free = f.free;
      value = d.ensures.reached.there;
      falling = falls_below st v c.args.fresh.now d.result f.fresh d.ensures.reached.unbound older;
      apart = fresh_apart v c.args.fresh.now (meaning st d.result) f.fresh older;
    }

pub bind_young-requires-clause-young : goal.bind_young-requires-clause-young
bind_young-requires-clause-young c = fresh_young c.args.store.now c.in-Some.variable c.args.fresh.now c.requires.young c.in-Some.ensures.fresh

pub returns-in-Some-clause-goes : goal.returns-in-Some-clause-goes
returns-in-Some-clause-goes c =
    let st = c.args.store.now in
    let v = c.in-Some.variable in
    let d = c.reached-value in
    let f = c.in-Some.ensures in
    let taken = meaning st d.result in
    let left = argument_meaning st c.args.left.base c.args.left.at in
    let right = argument_meaning st c.args.right.base c.args.right.at in
    let older = subst (IsOlder c.args.fresh.now) (sym d.ensures.reached.same) c.requires.older in
    let by_rule = rule_fresh st v c.args.fresh.now d.result f.fresh d.ensures.reached.unbound d.ensures.reached.there older in
    let is : VarTerm v ≡ right =
    sym f.free ∙ (ap (resolve (substitution st)) (sym f.is) ∙ ap (λ p. resolve (substitution st) (shifted c.args.right.base (meaning_in (text_in st) p))) (sym c.argument_place-place.ensures.place)) in
    let both = subst (λ (b : Term). rule taken b ≡ Replaced v taken) is by_rule in
    variable_binding st c.bind_young.new.self left right taken taken v (subst (λ (a : Term). rule a right ≡ Replaced v taken) d.ensures.reached.same both) refl c.bind_young.ensures

pub returns-in-Some-clause-stays : goal.returns-in-Some-clause-stays
returns-in-Some-clause-stays c =
    let st = c.args.store.now in
    let d = c.reached-value in
    binding_stays st c.bind_young.new.self c.args.fresh.now c.in-Some.variable (meaning st d.result) c.bind_young.ensures (subst (IsOlder c.args.fresh.now) (sym d.ensures.reached.same) c.requires.older)
