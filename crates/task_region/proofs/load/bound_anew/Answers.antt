use Rattle.std.proofs.Common.{◌++◌, [], length, map, reverse, sym, ap, ◌∙◌, subst, arith}
use Rattle.std.proofs.lemmas.List.{append-nil}
use Rattle.std.specs.Arc.{arc_value}
use Rattle.au_model.specs.Terms.Each.{Each}
use Rattle.region_split.specs.QueryEnds.{IsEnd}
use Rattle.tree_model.specs.EventViews.{place_view}
use Rattle.tree_model.specs.declared.places.AltRef.{AltRef}
use Rattle.task_region.specs.PlacesUp.{AreNumbersOf}
use Rattle.task_region.specs.TaskLoads.{IsBoundOver}
use Rattle.task_region.proofs.BelowLemmas.{numbers_pushed}
use Rattle.task_region.proofs.load.bound_anew.Goals as goal

pub returns : goal.returns
returns c =
    let rows = c.args.nodes.now.rows in
    let xs = c.in_ok-places.places.items in
    let r = c.in_ok-region.region in
    let bound = subst (λ ys. IsBoundOver rows (map place_view ys) (arc_value c.args.text) r) c.deref-2.ensures.value c.in_ok-region.ensures in
    let pushed = c.in_ok-push_numbers.ensures ∙ ap (λ ys. c.new-numbers.result.items ++ reverse (map (λ (a : AltRef). a.node) ys)) c.deref.ensures.value in
    let numbers : AreNumbersOf (map place_view xs) c.push_numbers.new.numbers.items =
    subst (λ ps. AreNumbersOf ps c.push_numbers.new.numbers.items) (append-nil (map place_view xs))
    (numbers_pushed c.new-numbers.result.items c.push_numbers.new.numbers.items xs [] c.new-numbers.ensures.items pushed) in
    record {
      places = map place_view xs;
      up = c.in_ok-places.ensures;
      numbers_are = numbers;
      bound = bound.bound;
      ends = subst (Each (λ k. IsEnd k.alternatives)) (sym bound.no_choice) tt;
      few = let none = ap length bound.no_choice in omega (arith, none);
      text_is = bound.text_is;
    }
