use Rattle.std.proofs.Common.{◌≡◌, ◌∷◌, ◌++◌, reverse, take, drop}
use Rattle.clause_compile.specs.declared.place.Place.TheVariants.{Functor}
use Rattle.clause_compile.proofs.code.push_block.Given as goal

abbrev pub invariant-loop-argument : goal.invariant-loop-argument
invariant-loop-argument l = record {
  block : l.places.items ≡ l.fn.places.items ++ Functor l.number l.count ∷ take l._argument (reverse l.fn.stack.items);
  left : reverse l.stack.items ≡ drop l._argument (reverse l.fn.stack.items);
}
