use Rattle.std.proofs.Common.{◌≡◌, true, sym, ap, ◌∙◌, subst}
use Rattle.au_term.specs.Term.{var_bound}
use Rattle.clause_compile.specs.Places.{IsPlaceOf, is_ground_place}
use Rattle.cell_store.specs.Arguments.{code_place, argument_at}
use Rattle.cell_store.specs.HeapView.{heap_text}
use Rattle.cell_store.specs.StoreView.{text_in}
use Rattle.cell_store.proofs.ArgumentLemmas.{place_read, ground_argument, other_ground}
use Rattle.cell_store.proofs.store.Store.argument_unless_ground.Goals as goal

pub returns-in_default-clause-argument : goal.returns-in_default-clause-argument
returns-in_default-clause-argument c =
    let code = heap_text c.self.inside.heap in
    let at = c.args.at in
    let there = subst (λ st. IsPlaceOf (text_in st) (code_place (text_in st) at)) (sym c.self.view_is) c.requires.place in
    let read = place_read code at c.place-place.result c.place-place.ensures in
    let says : is_ground_place (code_place code at) ≡ true = ap is_ground_place read ∙ other_ground code c.place-place.result (subst (IsPlaceOf code) read there) c.in_default.not-Var c.in_default.not-Sub in
    subst (λ st. var_bound (argument_at (text_in st) c.args.base at) ≡ 0) c.self.view_is (ground_argument code c.args.base at c.self.invariant.now.text there says)
