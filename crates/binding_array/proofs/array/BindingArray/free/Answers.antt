use Rattle.binding_array.specs.declared.cell.BindingCell.TheVariants.{Free}
use Rattle.binding_array.proofs.SpareCellLemmas.{set_shown}
use Rattle.binding_array.proofs.array.BindingArray.free.Goals as goal

pub returns : goal.returns
returns c = set_shown c.self.inside.count c.self.inside.cells.items c.args.self.now c.args.variable Free c.self.invariant c.self.view_is c.requires
