use Rattle.std.proofs.Common.{arith}
use Rattle.std.proofs.lemmas.List.{nil_from_length}
use Rattle.store_tests.proofs.cells.floor.Goals as goal

pub set_floor-requires : goal.set_floor-requires
set_floor-requires g c = nil_from_length c.args.store.now.marks (let m = c.marks.ensures in omega (arith, m))
