use Rattle.std.proofs.Common.{◌≡◌, map, drop, take}
use Rattle.std.specs.Str.{chars}
use Rattle.std.specs.String.{string_bytes}
use Rattle.run_model.specs.Goals.BuiltinAnswers.{Answer}
use Rattle.run_model.specs.Goals.AtomGoals.{with_each, code_of}
use Rattle.std_builtins.specs.Texts.{item_test, item_error}
use Rattle.std_builtins.proofs.spelling.text_of.Given as goal

abbrev pub invariant-loop-item : goal.invariant-loop-item
invariant-loop-item l = record {
  passed : (a : Answer) → with_each (item_test l.by) (item_error l.by) l.items a ≡ with_each (item_test l.by) (item_error l.by) (drop l.item-index l.items) a;
  text : chars (string_bytes l.text) ≡ map code_of (take l.item-index l.items);
}
