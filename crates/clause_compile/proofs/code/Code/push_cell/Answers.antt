use Rattle.std.proofs.Common.{◌≡◌, ◌∷◌, [], ◌++◌, refl}
use Rattle.clause_compile.proofs.CodeLemmas.{adds_variable, adds_integer, adds_atom}
use Rattle.clause_compile.specs.declared.place.Place.TheVariants.{Var, Atom}
use Rattle.std.proofs.lemmas.Result.{on_ok_weaker}
use Rattle.clause_compile.proofs.code.Code.push_cell.Goals as goal

pub returns-in-Var : goal.returns-in-Var
returns-in-Var c =
    on_ok_weaker c.put.result (λ (h : c.put.new.stack.items ≡ c.args.stack.now.items ++ Var c.in-Var.number ∷ []). adds_variable c.args.self.now c.args.self.now c.args.cell.now c.in-Var.number (Var c.in-Var.number) c.args.stack.now.items c.put.new.stack.items c.in-Var.is refl refl c.requires.stand h) c.put.ensures

pub returns-in-Int : goal.returns-in-Int
returns-in-Int c =
    on_ok_weaker c.put-in-Int.result (λ (h : c.put-in-Int.new.stack.items ≡ c.args.stack.now.items ++ c.integer.result ∷ []). adds_integer c.args.self.now c.args.self.now c.args.cell.now c.in-Int.value c.integer.result c.args.stack.now.items c.put-in-Int.new.stack.items c.in-Int.is refl c.integer.ensures c.requires.stand h) c.put-in-Int.ensures

pub returns-in_ok-number-in-Atom : goal.returns-in_ok-number-in-Atom
returns-in_ok-number-in-Atom c =
    on_ok_weaker c.put-in-Atom.result (λ (h : c.put-in-Atom.new.stack.items ≡ c.args.stack.now.items ++ Atom c.in_ok-number-in-Atom.number ∷ []).
    adds_atom c.self.inside.names c.number.new.self c.self.inside.places.items c.args.self.now (record { names = c.number.new.self; places = c.self.inside.places.items }) c.args.cell.now c.in-Atom.name c.in_ok-number-in-Atom.number (Atom c.in_ok-number-in-Atom.number) c.args.stack.now.items c.put-in-Atom.new.stack.items
    c.self.view_is refl c.self.invariant c.in_ok-number-in-Atom.ensures.ok c.in-Atom.is refl c.requires.stand h) c.put-in-Atom.ensures
