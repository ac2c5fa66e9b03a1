use Rattle.std.proofs.Common.{rules, sym, subst}
use Rattle.cell_store.specs.StoreView.{CanBeBound}
use Rattle.cell_store.proofs.FreshLemmas.{falls}
use Rattle.cell_store.proofs.unify.bind_checked.Goals as goal

pub bind-requires : goal.bind-requires
bind-requires c =
    subst (λ st. CanBeBound st c.args.variable c.args.value) (sym c.is_inside.ensures.kept)
    (record {
      there = c.requires.there;
      free = c.requires.free;
      value = c.requires.value;
      falling = falls c.args.variable c.args.value c.requires.no_variable;
      apart = search rules;
    })
