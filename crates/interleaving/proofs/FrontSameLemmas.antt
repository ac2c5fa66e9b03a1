-- Two segments that are the same entries over a floor are so after any front that names nothing of theirs.
use Rattle.std.proofs.Common.{◌≡◌, inl, inr, ◌-◌, Bool, List, [], ◌∷◌, ◌++◌, map, length, refl, sym, ap, ◌∙◌, arith}
use Rattle.au_model.specs.Terms.Each.{Each}
use Rattle.run_model.specs.Machine.Items.{Item, GoalItem, CatchMark, CollectMark, RemovalItem, Continuation}
use Rattle.run_model.specs.Machine.Entries.{PlainEntry, CatchEntry, FindallEntry, EndEntry}
use Rattle.tree_model.specs.Elements.{Name, Record, Element, Credit, Plain, EndOf, Catch, Findall, End}
use Rattle.interleaving.specs.HeightMachine.{HeightCredit, HeightEntry}
use Rattle.interleaving.specs.Erased.{from, element_count, height, continuation_heights, record_height, erased}
use Rattle.interleaving.specs.Views.{IsApart, IsItemApart, IsRecordApart, IsBlind}
use Rattle.interleaving.specs.Sound.{names}
use Rattle.interleaving.specs.FloorLaws.{FloorIsEnough, FrontIsSame}
use Rattle.interleaving.proofs.NamingLemmas.{length-erased, same-heights}
use Rattle.interleaving.proofs.SeamLemmas.{Seam, seam}
use Rattle.interleaving.proofs.SoundEarlyLemmas.{from-inner}
use Rattle.interleaving.proofs.ReadableLemmas.{sound_readable}
use Rattle.interleaving.proofs.FloorLemmas.{count-append, readable_enough}

pub floor_is_enough : FloorIsEnough
floor_is_enough floor zs b c first tells i j e = readable_enough floor zs b c first tells (sound_readable (b ++ floor) i)
    (sound_readable (c ++ floor) j) e

-- anything in front
module _ (inside : Name → Bool) (ys ws zs : List Element) (old : (s : Name) → IsApart inside s → from ys s ≡ from zs s)
    (new : (s : Name) → IsApart inside s → from ws s ≡ from zs s) (same : erased ys ≡ erased ws) where
  count-same : element_count ys ≡ element_count ws
  count-same = sym (length-erased ys) ∙ ap length same ∙ length-erased ws

  height-same : (xs : List Element) (s : Name) → IsApart inside s → height (xs ++ ys) s ≡ height (xs ++ ws) s
  height-same xs s a = go (seam xs s)
    where
      go : Seam xs s → height (xs ++ ys) s ≡ height (xs ++ ws) s
      go (inl k) = ap element_count (k.2 ys) ∙ omega (arith, count-same, count-append k.0 ys, count-append k.0 ws)
          ∙ sym (ap element_count (k.2 ws))
      go (inr k) = ap element_count (k ys ∙ old s a ∙ sym (new s a)) ∙ sym (ap element_count (k ws))

  all-same : (xs : List Element) (items : List (Item Name)) → Each (IsItemApart inside) items
      → Each (λ s. height (xs ++ ys) s ≡ height (xs ++ ws) s) (names items)
  all-same xs [] h = tt
  all-same xs (GoalItem t s ∷ items) h = (height-same xs s h.0, all-same xs items h.1)
  all-same xs (CatchMark s ∷ items) h = (height-same xs s h.0, all-same xs items h.1)
  all-same xs (CollectMark t s ∷ items) h = (height-same xs s h.0, all-same xs items h.1)
  all-same xs (RemovalItem n ∷ items) h = all-same xs items h.1

  cont-same : (xs : List Element) (f : Continuation Name) → Each (IsItemApart inside) f.items → continuation_heights (height (xs ++ ys)) f
      ≡ continuation_heights (height (xs ++ ws)) f
  cont-same xs f h = same-heights (height (xs ++ ys)) (height (xs ++ ws)) f (all-same xs f.items h)

  records-same : (xs : List Element) (rs : List Record) → Each (IsRecordApart inside) rs → map (record_height (xs ++ ys)) rs
      ≡ map (record_height (xs ++ ws)) rs
  records-same xs [] h = refl
  records-same xs (r ∷ rs) h = ap (λ n. (n - 1, r.1) ∷ map (record_height (xs ++ ys)) rs) (height-same xs r.0 h.0)
      ∙ ap (λ l. record_height (xs ++ ws) r ∷ l) (records-same xs rs h.1)

  front-same : (pre : List Element) → Each (IsBlind inside) pre → erased (pre ++ ys) ≡ erased (pre ++ ws)
  front-same [] b = same
  front-same (EndOf e ∷ xs) b = front-same xs b.1
  front-same (Credit k rs ∷ xs) b = ap (λ l. HeightCredit k l ∷ erased (xs ++ ys)) (records-same xs rs b.0)
      ∙ ap (λ l. HeightCredit k (map (record_height (xs ++ ws)) rs) ∷ l) (front-same xs b.1)
  front-same (Plain p f ∷ xs) b = ap (λ k. HeightEntry (PlainEntry k) ∷ erased (xs ++ ys)) (cont-same xs f b.0.1)
      ∙ ap (λ l. HeightEntry (PlainEntry (continuation_heights (height (xs ++ ws)) f)) ∷ l) (front-same xs b.1)
  front-same (Catch s u c r p f ∷ xs) b = ap (λ k. HeightEntry (CatchEntry c r k) ∷ erased (xs ++ ys)) (cont-same xs f b.0.3)
      ∙ ap (λ l. HeightEntry (CatchEntry c r (continuation_heights (height (xs ++ ws)) f)) ∷ l) (front-same xs b.1)
  front-same (Findall s u results list p f ∷ xs) b = ap (λ k. HeightEntry (FindallEntry results list k) ∷ erased (xs ++ ys))
      (cont-same xs f b.0.3) ∙ ap (λ l. HeightEntry (FindallEntry results list (continuation_heights (height (xs ++ ws)) f)) ∷ l)
      (front-same xs b.1)
  front-same (End p t ∷ xs) b = ap (λ l. HeightEntry (EndEntry t) ∷ l) (front-same xs b.1)

pub front_is_same : FrontIsSame
front_is_same inside pre b c zs front own other e = front-same inside (b ++ zs) (c ++ zs) zs (λ s a. from-inner inside b zs s own a)
    (λ s a. from-inner inside c zs s other a) e pre front
