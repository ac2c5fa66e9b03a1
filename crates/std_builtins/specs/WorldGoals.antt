-- Which goals look at the world or change it, by name and number of arguments.
use Rattle.std.specs.Prelude.{◌≡◌, ℕ, List, codes}
use Rattle.au_model.specs.declared.types.Style.{Style}
use Rattle.au_model.specs.declared.types.Style.TheVariants.{Plain, Quoted, Canonical}
use Rattle.std_builtins.specs.declared.world_goals.WorldGoal.{WorldGoal}
use Rattle.std_builtins.specs.declared.world_goals.WorldGoal.TheVariants as world_goal

-- the goal that writes in a style
abbrev pub writing_name : Style → List ℕ
writing_name Plain = codes "write"
writing_name Quoted = codes "writeq"
writing_name Canonical = codes "write_canonical"

abbrev pub IsWorldGoal : WorldGoal → List ℕ → ℕ → Type 0
IsWorldGoal (world_goal.Write style) name arity = (name ≡ writing_name style) × (arity ≡ 1)
IsWorldGoal world_goal.Nl name arity = (name ≡ codes "nl") × (arity ≡ 0)
IsWorldGoal world_goal.PutChar name arity = (name ≡ codes "put_char") × (arity ≡ 1)
IsWorldGoal world_goal.Asserta name arity = (name ≡ codes "asserta") × (arity ≡ 1)
IsWorldGoal world_goal.Assertz name arity = (name ≡ codes "assertz") × (arity ≡ 1)
IsWorldGoal world_goal.Retract name arity = (name ≡ codes "retract") × (arity ≡ 1)
IsWorldGoal world_goal.Abolish name arity = (name ≡ codes "abolish") × (arity ≡ 1)
IsWorldGoal world_goal.Clause name arity = (name ≡ codes "clause") × (arity ≡ 2)
IsWorldGoal world_goal.Op name arity = (name ≡ codes "op") × (arity ≡ 3)
IsWorldGoal world_goal.CurrentOp name arity = (name ≡ codes "current_op") × (arity ≡ 3)
IsWorldGoal world_goal.Halt name arity = (name ≡ codes "halt") × (arity ≡ 0)
IsWorldGoal world_goal.HaltWith name arity = (name ≡ codes "halt") × (arity ≡ 1)
