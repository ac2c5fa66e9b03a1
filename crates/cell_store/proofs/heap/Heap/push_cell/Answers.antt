use Rattle.std.proofs.Common.{◌≡◌, ◌+◌, ◌∷◌, [], ◌++◌, refl, ap}
use Rattle.std.proofs.lemmas.Result.{on_ok_weaker}
use Rattle.au_term.specs.Shifted.{shifted_cell}
use Rattle.clause_compile.specs.Places.{CodeView}
use Rattle.clause_compile.specs.declared.place.Place.TheVariants.{Var, Atom}
use Rattle.clause_compile.proofs.CodeLemmas.{adds_variable, adds_integer, adds_atom}
use Rattle.cell_store.specs.HeapView.{heap_text}
use Rattle.cell_store.proofs.HeapGrowthLemmas.{grows_same}
use Rattle.cell_store.proofs.heap.Heap.push_cell.Goals as goal

pub returns-in-Var-clause-added : goal.returns-in-Var-clause-added
returns-in-Var-clause-added c =
    let text = heap_text c.args.self.now in
    let n = c.args.base + c.in-Var.number in
    on_ok_weaker c.put.result (λ (h : c.put.new.stack.items ≡ c.args.stack.now.items ++ Var n ∷ []). adds_variable text text (shifted_cell c.args.base c.args.cell.now) n (Var n) c.args.stack.now.items c.put.new.stack.items (ap (shifted_cell c.args.base) c.in-Var.is) refl refl c.requires.stand h) c.put.ensures

pub returns-in-Var-clause-grown : goal.returns-in-Var-clause-grown
returns-in-Var-clause-grown c = grows_same c.args.self.now c.requires.heap

pub returns-in-Int-clause-added : goal.returns-in-Int-clause-added
returns-in-Int-clause-added c =
    let text = heap_text c.args.self.now in
    on_ok_weaker c.put-in-Int.result (λ (h : c.put-in-Int.new.stack.items ≡ c.args.stack.now.items ++ c.integer.result ∷ []). adds_integer text text (shifted_cell c.args.base c.args.cell.now) c.in-Int.value c.integer.result c.args.stack.now.items c.put-in-Int.new.stack.items (ap (shifted_cell c.args.base) c.in-Int.is) refl c.integer.ensures c.requires.stand h) c.put-in-Int.ensures

pub returns-in-Int-clause-grown : goal.returns-in-Int-clause-grown
returns-in-Int-clause-grown c = grows_same c.args.self.now c.requires.heap

pub returns-in_ok-number-in-Atom-clause-added : goal.returns-in_ok-number-in-Atom-clause-added
returns-in_ok-number-in-Atom-clause-added c =
    let old = heap_text c.args.self.now in
    let new = heap_text c.number.new.self in
    let k = c.in_ok-number-in-Atom.ensures.numbered in
    let f = c.in_ok-number-in-Atom.number in
    let same : new ≡ record { names = new.names; places = old.places } = ap (λ ps. (let c : CodeView = record { names = new.names; places = ps } in c)) k.places in
    on_ok_weaker c.put-in-Atom.result (λ (h : c.put-in-Atom.new.stack.items ≡ c.args.stack.now.items ++ Atom f ∷ []). adds_atom old.names new.names old.places old new (shifted_cell c.args.base c.args.cell.now) c.in-Atom.name f (Atom f) c.args.stack.now.items c.put-in-Atom.new.stack.items refl same c.requires.heap.text k.numbered (ap (shifted_cell c.args.base) c.in-Atom.is) refl c.requires.stand h) c.put-in-Atom.ensures
