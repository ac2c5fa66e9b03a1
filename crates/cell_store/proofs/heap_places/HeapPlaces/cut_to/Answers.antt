use Rattle.std.proofs.Common.{◌≡◌, ◌+◌, ◌∙◌, List, take, drop, ap, ap₂, arith}
use Rattle.std.proofs.lemmas.List.{drop-take}
use Rattle.clause_compile.specs.declared.place.Place.{Place}
use Rattle.cell_store.specs.HeapView.{PlacesView}
use Rattle.cell_store.proofs.UndoingLemmas.{take_within}
use Rattle.cell_store.proofs.heap_places.HeapPlaces.cut_to.Goals as goal

abbrev places_of : List Place → List Place → PlacesView
places_of program made = record { program = program; made = made }

pub returns-then-made : goal.returns-then-made
returns-then-made c =
    let s = c.self.inside in
    let kept : c.truncate.new.self.items ≡ take (s.program + c.args.made) s.all.items = c.truncate.ensures.items in
    ap₂ places_of (ap (take s.program) kept ∙ take_within s.program (s.program + c.args.made) s.all.items (omega arith)) (ap (drop s.program) kept ∙ drop-take s.program c.args.made s.all.items)
    ∙ ap (λ (p : PlacesView). places_of p.program (take c.args.made p.made)) c.self.view_is
