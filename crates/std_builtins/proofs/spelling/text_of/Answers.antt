use Rattle.std.proofs.Common.{◌∙◌, ◌++◌, ◌∷◌, [], sym, ap, ap₂, Err, rules}
use Rattle.std.specs.Str.{chars}
use Rattle.std.proofs.lemmas.Str.{chars-nil}
use Rattle.run_model.specs.Goals.AtomGoals.{code_of}
use Rattle.std_builtins.specs.Texts.{item_test, item_error}
use Rattle.std_builtins.proofs.CheckLemmas.{each_passes, each_fails, each_over}
use Rattle.std_builtins.proofs.TextLemmas.{taken_more, taken_all}
use Rattle.std_builtins.proofs.spelling.text_of.Goals as goal

pub loop-item-init : goal.loop-item-init
loop-item-init c = record {
  passed = λ a. search rules;
  text = ap chars c.new-text.ensures.bytes ∙ chars-nil;
}

pub returns-in-None : goal.returns-in-None
returns-in-None c = λ a.
    c.loop-item.invariant.passed a
    ∙ (each_fails (item_test c.args.by) (item_error c.args.by) c.args.items.now c.loop-item.item-index c.item-item.result a c.loop-item-test.true c.item-item.is c.in-None.ensures ∙ ap Err c.in_ok-fault-in-None.ensures)

pub loop-item-preserved : goal.loop-item-preserved
loop-item-preserved c = record {
  passed = λ a. c.loop-item.invariant.passed a
      ∙ each_passes (item_test c.args.by) (item_error c.args.by) c.args.items.now c.loop-item.item-index c.item-item.result a c.loop-item-test.true c.item-item.is c.in-Some.ensures.0;
  text = c.in_ok-put-in-Some.ensures ∙ (ap₂ (λ xs x. xs ++ x ∷ []) c.loop-item.invariant.text (sym c.in-Some.ensures.1)
      ∙ sym (taken_more code_of c.args.items.now c.loop-item.item-index c.item-item.result c.loop-item-test.true c.item-item.is));
}

pub returns : goal.returns
returns c = (
  λ a. c.loop-item.invariant.passed a ∙ each_over (item_test c.args.by) (item_error c.args.by) c.args.items.now c.loop-item.item-index a c.loop-item-test.false,
  c.loop-item.invariant.text ∙ taken_all code_of c.args.items.now c.loop-item.item-index c.loop-item-test.false,
)
