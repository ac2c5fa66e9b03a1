use Rattle.std.proofs.Common.{◌≡◌, ◌<◌, length}
use Rattle.au_model.specs.Terms.Substitutions.{Substitution, value_of}
use Rattle.clause_compile.specs.Places.{CodeView}
use Rattle.binding_array.specs.Represented.{Represents}
use Rattle.binding_array.proofs.array.BindingArray.follow.Given as goal

abbrev pub invariant-loop-next : goal.invariant-loop-next
invariant-loop-next l = record {
  within : l.at < length l.self;
  same : (code : CodeView) (s : Substitution) → Represents code l.self s → value_of s l.variable ≡ value_of s l.at;
}

abbrev pub decreases-loop-next : goal.decreases-loop-next
decreases-loop-next l = l.at
