use Rattle.std.proofs.Common.{◌∙◌, ap, take}
use Rattle.binding_array.proofs.SpareCellLemmas.{cut_shown}
use Rattle.binding_array.proofs.array.BindingArray.cut_to.Goals as goal

pub returns-then-count-self : goal.returns-then-count-self
returns-then-count-self c = cut_shown c.args.count c.self.inside.count c.self.inside.cells.items c.free_between.new.cells.items c.if-count-self.true c.self.invariant c.free_between.ensures ∙ ap (take c.args.count) c.self.view_is
