-- The first end of a catch in a list of goals.
use Rattle.std.specs.Prelude.{List, [], ◌∷◌, Option, Some, None}
use Rattle.clause_compile.specs.declared.item.Scope.{Scope}
use Rattle.clause_compile.specs.declared.item.Item.{Item}
use Rattle.clause_compile.specs.declared.item.Item.TheVariants.{Goal, CatchEnd, Collect, Remove, End}

abbrev pub first_catch : List Item → Option Scope
first_catch [] = None
first_catch (CatchEnd scope ∷ items) = Some scope
first_catch (Goal term cut ∷ items) = first_catch items
first_catch (Collect template scope ∷ items) = first_catch items
first_catch (Remove id ∷ items) = first_catch items
first_catch (End ball ∷ items) = first_catch items
