use Rattle.std.proofs.Common.{rules, ◌≡◌, ℕ, suc, ◌+◌, ◌<◌, ◌≤◌, List, [], ◌∷◌, ◌++◌, length, length-append, drop, slice_get, Option, None, Some, Bor, false, refl, sym, ap, ◌∙◌, subst, arith}
use Rattle.std.specs.Option.{is_some, option_copied}
use Rattle.clause_compile.specs.declared.item.Item.{Item}
use Rattle.task_publishing.proofs.TableLemmas.{more_hold, drop_next, none_left, some_left}
use Rattle.task_publishing.proofs.goals.tails_of.Goals as goal

none_first : {A : Type 0} (xs : List A) (o : Option (Bor A)) → is_some o ≡ false → option_copied o ≡ slice_get xs 0 → xs ≡ []
none_first [] o e f = refl
none_first (x ∷ xs) None e f = absurd cc
none_first (x ∷ xs) (Some y) e f = absurd cc

pub loop-left-preserved : goal.loop-left-preserved
loop-left-preserved c =
    let g = c.args.goals.now in
    let t = c.loop-left.tails.items in
    let more : c.push.new.self.items ≡ t ++ c.loop-left.left ∷ [] = c.in_ok-push.ensures.items in
    let long : length c.push.new.self.items ≡ length t + 1 = ap (λ (xs : List (List Item)). length xs) more
    ∙ length-append t (c.loop-left.left ∷ []) in
    let left : c.loop-left.left ≡ drop (length t) g = c.loop-left.invariant.left in
    let some : 0 < length c.loop-left.left = search rules in
    let behind : length t < length g = some_left (length t) g (subst (λ (xs : List Item). 0 < length xs) left some) in
    record {
      left = c.in_ok-rest.ensures ∙ (ap (λ (xs : List Item). drop 1 xs) left ∙ (drop_next (length t) g
          ∙ ap (λ n. drop n g) (let e : suc (length t) ≡ length c.push.new.self.items = omega (arith, long) in e)));
      within = omega (arith, long, behind);
      each = subst (λ (xs : List (List Item)). (n : ℕ) → n < length xs → slice_get xs n ≡ Some (drop n g)) (sym more)
          (more_hold (λ n o. o ≡ Some (drop n g)) t c.loop-left.left c.loop-left.invariant.each (ap Some left));
    }

pub returns : goal.returns
returns c =
    let g = c.args.goals.now in
    let t = c.loop-left.tails.items in
    let more : c.push-2.new.self.items ≡ t ++ c.loop-left.left ∷ [] = c.in_ok-push-2.ensures.items in
    let long : length c.push-2.new.self.items ≡ length t + 1 = ap (λ (xs : List (List Item)). length xs) more
    ∙ length-append t (c.loop-left.left ∷ []) in
    let left : c.loop-left.left ≡ drop (length t) g = c.loop-left.invariant.left in
    let none : c.loop-left.left ≡ [] = none_first c.loop-left.left c.first.result (sym c.is_some.ensures ∙ c.loop-left-test.false) c.first.ensures in
    let behind : length g ≤ length t = none_left (length t) g (sym left ∙ none) in
    let within : length t ≤ length g = c.loop-left.invariant.within in
    record {
      many = omega (arith, long, behind, within);
      each = subst (λ (xs : List (List Item)). (n : ℕ) → n < length xs → slice_get xs n ≡ Some (drop n g)) (sym more)
          (more_hold (λ n o. o ≡ Some (drop n g)) t c.loop-left.left c.loop-left.invariant.each (ap Some left));
    }
