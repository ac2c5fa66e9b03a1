use Rattle.std.proofs.Common.{◌≡◌, ◌+◌, ◌∷◌, [], ◌++◌, length, length-append, take, reverse, ap, ◌∙◌, arith}
use Rattle.std.proofs.lemmas.Result.{on_ok_weaker}
use Rattle.std.specs.Arc.{arc_value}
use Rattle.clause_compile.specs.Places.{compound_place}
use Rattle.clause_compile.specs.declared.place.Place.TheVariants.{Functor}
use Rattle.cell_store.specs.HeapView.{HeapView, PlacesView, heap_text}
use Rattle.cell_store.proofs.HeapGrowthLemmas.{heap_of, places_counted, compound_adds, compound_grows}
use Rattle.cell_store.proofs.heap.Heap.push_compound.Goals as goal

pub returns-clause-added : goal.returns-clause-added
returns-clause-added c =
    let s = c.self.inside in
    let h = c.args.self.now in
    let named = c.number.new.self in
    let program = arc_value s.program in
    let f = c.in_ok-number.number in
    let k = c.in_ok-number.ensures.numbered in
    let block = Functor f c.args.count ∷ take c.args.count (reverse c.args.stack.now.items) in
    let now = heap_of program s.names c.push_block.new.self.made in
    let now_is : now ≡ heap_of named.program named.names (named.made ++ block) = ap (λ (p : PlacesView). heap_of program s.names p.made) c.in_ok-push_block.ensures.block ∙ ap (λ (g : HeapView). heap_of g.program g.names (g.made ++ block)) c.self.view_is in
    let counted = places_counted h named c.args.name.now f k program s.names s.places.made c.self.view_is in
    let at = c.len-at.result in
    let length_is : at ≡ length program.places + length s.places.made = c.len-at.ensures ∙ (length-append s.places.program s.places.made ∙ ap (λ ps. length ps + length s.places.made) c.self.invariant) in
    let place : at ≡ length (heap_text h).places = omega (arith, counted, length_is) in
    let args = take c.args.count (reverse c.args.stack.now.items) in
    let put : c.compound_place-place.result ≡ compound_place at args = c.compound_place-place.ensures ∙ ap (λ ps. compound_place at (take c.args.count (reverse ps))) c.deref.ensures.value in
    on_ok_weaker c.put.result (λ (a : c.put.new.stack.items ≡ c.push_block.new.stack.items ++ c.compound_place-place.result ∷ []).
    compound_adds h named now c.args.name.now f c.args.count at c.args.stack.now.items c.push_block.new.stack.items c.put.new.stack.items c.requires.heap c.in_ok-number.ensures.grown k c.requires.arity c.requires.stand c.requires.enough now_is c.in_ok-push_block.ensures.left
    (a ∙ ap (λ p. c.push_block.new.stack.items ++ p ∷ []) put) place) c.put.ensures

pub returns-clause-grown : goal.returns-clause-grown
returns-clause-grown c =
    let s = c.self.inside in
    let h = c.args.self.now in
    let named = c.number.new.self in
    let program = arc_value s.program in
    let f = c.in_ok-number.number in
    let k = c.in_ok-number.ensures.numbered in
    let block = Functor f c.args.count ∷ take c.args.count (reverse c.args.stack.now.items) in
    let now = heap_of program s.names c.push_block.new.self.made in
    let now_is : now ≡ heap_of named.program named.names (named.made ++ block) = ap (λ (p : PlacesView). heap_of program s.names p.made) c.in_ok-push_block.ensures.block ∙ ap (λ (g : HeapView). heap_of g.program g.names (g.made ++ block)) c.self.view_is in
    let counted = places_counted h named c.args.name.now f k program s.names s.places.made c.self.view_is in
    let at = c.len-at.result in
    let length_is : at ≡ length program.places + length s.places.made = c.len-at.ensures ∙ (length-append s.places.program s.places.made ∙ ap (λ ps. length ps + length s.places.made) c.self.invariant) in
    compound_grows h named now c.args.name.now f c.args.count at c.args.stack.now.items c.push_block.new.stack.items c.put.new.stack.items c.requires.heap c.in_ok-number.ensures.grown k c.requires.arity c.requires.stand c.requires.enough now_is
    (omega (arith, counted, length_is, c.if-at-count.false))
