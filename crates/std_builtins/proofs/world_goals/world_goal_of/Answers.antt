use Rattle.std.proofs.Common.{◌∷◌, [], List, refl, sym, ℕ}
use Rattle.std.specs.Prelude.{codes}
use Rattle.std.specs.Str.{chars}
use Rattle.au_model.specs.declared.types.Style.TheVariants.{Plain, Quoted, Canonical}
use Rattle.run_model.specs.Goals.Worlds.{is_world_construct, is_world_goal, world_constructs}
use Rattle.run_model.proofs.ReservedNameLemmas.{found_any}
use Rattle.std_builtins.specs.WorldGoals.{IsWorldGoal}
use Rattle.std_builtins.specs.declared.world_goals.WorldGoal.{WorldGoal}
use Rattle.std_builtins.specs.declared.world_goals.WorldGoal.TheVariants.{Write, Nl, PutChar, Asserta, Assertz, Retract, Abolish, Clause, Op, CurrentOp, Halt, HaltWith}
use Rattle.std_builtins.proofs.ControlLemmas.{found_kind}
use Rattle.std_builtins.proofs.world_goals.world_goal_of.Goals as goal

-- the rows, read
abbrev rows : List (List ℕ × ℕ × WorldGoal)
rows = (codes "write", 1, Write Plain) ∷ (codes "writeq", 1, Write Quoted) ∷ (codes "write_canonical", 1, Write Canonical) ∷ (codes "nl", 0, Nl) ∷ (codes "put_char", 1, PutChar)
    ∷ (codes "asserta", 1, Asserta) ∷ (codes "assertz", 1, Assertz) ∷ (codes "retract", 1, Retract) ∷ (codes "abolish", 1, Abolish) ∷ (codes "clause", 2, Clause)
    ∷ (codes "op", 3, Op) ∷ (codes "current_op", 3, CurrentOp) ∷ (codes "halt", 0, Halt) ∷ (codes "halt", 1, HaltWith) ∷ []

pub returns : goal.returns
unfolding chars
returns c =
    let name = chars c.args.name.now in
    let arity = c.args.arity in
    found_kind IsWorldGoal name arity name rows c.world_goal_among.result (is_world_goal name arity) c.world_goal_among.ensures refl
    ((refl, refl), ((refl, refl), ((refl, refl), ((refl, refl), ((refl, refl), ((refl, refl), ((refl, refl), ((refl, refl), ((refl, refl), ((refl, refl), ((refl, refl), ((refl, refl), ((refl, refl), ((refl, refl), tt))))))))))))))
    (sym (found_any (is_world_construct name arity) world_constructs))
