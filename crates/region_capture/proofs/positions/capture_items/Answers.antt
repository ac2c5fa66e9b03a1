use Rattle.std.proofs.Common.{◌≡◌, ℕ, ◌++◌, ◌∷◌, [], List, append_assoc, map, sym, ap, ◌∙◌, subst}
use Rattle.std.proofs.lemmas.List.{map-append}
use Rattle.run_model.specs.Machine.Items.{Item}
use Rattle.region_capture.specs.CapturedItems.{HasItems, captured_item}
use Rattle.region_capture.proofs.ItemLemmas.{items_kept, added_twice, same_items}
use Rattle.region_capture.proofs.positions.capture_items.Goals as goal

pub loop-item-preserved : goal.loop-item-preserved
loop-item-preserved c =
    let before = c.in_ok-number.ensures.before in
    let k = c.loop-item.invariant in
    let item = captured_item c.in-Some.item in
    let same : before.rest ≡ k.done = same_items c.push.new.self c.loop-item.number before.rest k.done before.follows (items_kept c.loop-item.items c.push.new.self c.loop-item.number k.done c.in_ok-number.ensures.adds k.has) in
    record {
      done = item ∷ k.done;
      has = subst (λ (xs : List (Item ℕ)). HasItems c.push.new.self c.in_ok-number.number (item ∷ xs)) same before.items;
      whole =
          sym (append_assoc (map captured_item c.pop.new.self.items) (item ∷ []) k.done)
          ∙ (ap (λ xs. xs ++ k.done) (sym (ap (map captured_item) c.in-Some.ensures.items ∙ map-append captured_item c.pop.new.self.items (c.in-Some.item ∷ []))) ∙ k.whole);
      adds = added_twice c.args.items.now c.loop-item.items c.push.new.self k.adds c.in_ok-number.ensures.adds;
    }
