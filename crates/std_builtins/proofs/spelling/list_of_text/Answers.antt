use Rattle.std.proofs.Common.{◌≡◌, ◌∙◌, IfOk, map, sym, ap, subst}
use Rattle.std.proofs.lemmas.Iterator.{YieldsList-from_chars}
use Rattle.std.proofs.lemmas.Iterator.Consumers.{YieldsList-end}
use Rattle.au_model.specs.Terms.Forms.{list_term}
use Rattle.run_model.specs.Goals.AtomGoals.{item_for}
use Rattle.std_builtins.specs.Meanings.{spelling_meant}
use Rattle.std_builtins.proofs.TextLemmas.{map_itself}
use Rattle.std_builtins.proofs.spelling.list_of_text.Goals as goal

pub returns : goal.returns
returns c =
    let xs = c.loop-c.yielded in
    let t = YieldsList-end (YieldsList-from_chars c.args.text.now c.utf8.text cc) xs _ c.loop-c.yielded_by _ _ c.in-None.is c.next.ensures.steps in
    let all = c.deref.ensures.value ∙ (c.loop-c.invariant ∙ ap (map (item_for (spelling_meant c.args.by))) (sym (map_itself xs) ∙ t.0)) in
    subst (λ is. IfOk c.list_of.result (λ u. u ≡ list_term is)) all c.list_of.ensures
