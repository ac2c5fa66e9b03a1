use Rattle.std.proofs.Common.{◌≡◌, ◌++◌, ℕ, Bool, List, false, nat_cmp, ap, ◌∙◌, arith}
use Rattle.std.specs.BTreeSet.{contains}
use Rattle.std.specs.BTreeMap.{is_at}
use Rattle.std.specs.List.{list_any}
use Rattle.region_capture.specs.SeenVariables.{told_below}
use Rattle.region_capture.proofs.SeenTableLemmas.{none_seen}
use Rattle.region_capture.proofs.seen.SeenVariables.new.Goals as goal

pub returns : goal.returns
returns c =
    let first = c.min-first.result in
    let older = contains nat_cmp c.new-older.result in
    let none : (q : ℕ) → older q ≡ false = λ q. ap (λ (keys : List ℕ). list_any (is_at (nat_cmp q)) keys) c.new-older.ensures.empty in
    let least = c.min-first.ensures in
    ap (λ (xs : List Bool). told_below older first ++ xs) (c.in_ok-later.ensures.items_if_clones_equal (λ y e. e))
    ∙ none_seen older first none c.args.next (grind (arith, least))
