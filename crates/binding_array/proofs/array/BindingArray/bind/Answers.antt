use Rattle.binding_array.proofs.SpareCellLemmas.{set_shown}
use Rattle.binding_array.proofs.array.BindingArray.bind.Goals as goal

pub returns : goal.returns
returns c = set_shown c.self.inside.count c.self.inside.cells.items c.args.self.now c.args.variable c.args.value c.self.invariant c.self.view_is c.requires.there
