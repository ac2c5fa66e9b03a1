use Rattle.std.proofs.Common.{ℕ, length, sym, subst, arith}
use Rattle.binding_array.specs.declared.cell.BindingCell.TheVariants.{Compound}
use Rattle.clause_compile.specs.Places.{IsPlaceOf}
use Rattle.clause_compile.specs.declared.place.Place.TheVariants.{Sub}
use Rattle.cell_store.specs.HeapView.{heap_text}
use Rattle.cell_store.specs.StoreView.{IsValueIn, text_in}
use Rattle.cell_store.specs.Arguments.{HasFunctor}
use Rattle.cell_store.proofs.ArgumentLemmas.{opened, arguments_within}
use Rattle.cell_store.proofs.store.Store.functor.Goals as goal

pub returns-clause-functor : goal.returns-clause-functor
returns-clause-functor c =
    subst (λ st. (base : ℕ) → IsValueIn st (Compound c.args.at base) → HasFunctor (text_in st) st.now.next c.args.at base c.in-Functor.name c.in-Functor.count) c.self.view_is
    (opened (heap_text c.self.inside.heap) (length c.self.inside.cells) c.args.at c.in-Functor.name c.in-Functor.count c.self.invariant.now.text c.in-Functor.ensures)

pub returns-clause-short : goal.returns-clause-short
returns-clause-short c =
    let there = subst (λ st. IsPlaceOf (text_in st) (Sub c.args.at)) (sym c.self.view_is) c.requires in
    omega (arith, arguments_within (heap_text c.self.inside.heap) c.args.at c.in-Functor.name c.in-Functor.count there c.in-Functor.ensures, c.self.invariant.places)
