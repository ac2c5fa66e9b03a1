-- The entries of a private run name whole heights.
use Rattle.std.proofs.Common.{◌≡◌, ◌⊎◌, inl, inr, ℕ, suc, ◌+◌, ◌≤◌, Bool, true, List, [], ◌∷◌, length, arith}
use Rattle.au_model.specs.Terms.Each.{Each}
use Rattle.run_model.specs.Machine.Items.{Item, GoalItem, CatchMark, CollectMark, RemovalItem}
use Rattle.run_model.specs.Machine.Entries.{Entry, PlainEntry, CatchEntry, FindallEntry, EndEntry}
use Rattle.tree_model.specs.Nodes.{CatchNode, FindallNode}
use Rattle.tree_model.specs.PendingLists.{Way}
use Rattle.tree_model.specs.Ways.{is_on, way_from, way_above, AreScoped}
use Rattle.interleaving.proofs.WayLemmas.{reach-on, through-on}
use Rattle.interleaving.proofs.RoundtripLemmas.{part_from, part_above}
use Rattle.interleaving.proofs.CollapseLemmas.{AreSeen, as_scopes}
use Rattle.interleaving.proofs.StackLemmas.{IsCounted, stack_way, length-stack, counted_stack, IsOver, AreOver}
use Rattle.interleaving.proofs.PlacedSoundLemmas.{IsSeen}
use Rattle.interleaving.proofs.PlacedNameLemmas.{ItemsMeasured, EntryMeasured, AreMeasured}
use Rattle.interleaving.proofs.RunMeasuredLemmas.{GuardAt, counted_on, catch_guards, findall_guards, HasStep, has_through, has_from}
use Rattle.interleaving.proofs.RunMeasuredLemmas.{has_above, step_guard}

-- what is known of a way
record IsRanged (Whole : ℕ → Type 0) (q : ℕ) (way : Way) : Type 0 where
  on : (s : ℕ) → is_on way s ≡ true → (1 ≤ s) × (s ≤ q)
  catches : (h : ℕ) → HasStep CatchNode way (suc h) → Whole (suc h)
  findalls : (h : ℕ) → HasStep FindallNode way (suc h) → Whole (suc h)

ranged_from : (Whole : ℕ → Type 0) (q : ℕ) (way : Way) (s : ℕ) → IsRanged Whole q way → IsRanged Whole q (way_from way s)
ranged_from Whole q way s r = record {
  on = λ n h. r.on n (part_from way s n h);
  catches = λ h k. r.catches h (has_from CatchNode way s (suc h) k);
  findalls = λ h k.
      r.findalls h (has_from FindallNode way s (suc h) k);
}

ranged_above : (Whole : ℕ → Type 0) (q : ℕ) (way : Way) (s : ℕ) → IsRanged Whole q way → IsRanged Whole q (way_above way s)
ranged_above Whole q way s r = record {
  on = λ n h. r.on n (part_above way s n h);
  catches = λ h k. r.catches h (has_above CatchNode way s (suc h) k);
  findalls = λ h k.
      r.findalls h (has_above FindallNode way s (suc h) k);
}

items_measured : (Whole : ℕ → Type 0) (seen : ℕ → Bool) → ((h : ℕ) → seen h ≡ true → Whole h)
    → (q : ℕ) (way : Way) (items : List (Item ℕ)) → IsRanged Whole q way → AreSeen seen items → AreScoped way (as_scopes items)
    → ItemsMeasured Whole q items
items_measured Whole seen w q way [] r v h = tt
items_measured Whole seen w q way (GoalItem t s ∷ items) r v h =
    let l = r.on s (reach-on way s h.0) in
    ((w s v.0, l.0, l.1), items_measured Whole seen w q (way_from way s) items (ranged_from Whole q way s r) v.1 h.1)
items_measured Whole seen w q way (CatchMark s ∷ items) r v h = (
  (r.catches s (has_through CatchNode way (suc s) h.0), (r.on (suc s) (through-on CatchNode way (suc s) h.0)).1),
  items_measured
      Whole seen w q (way_above way (suc s)) items (ranged_above Whole q way (suc s) r) v h.1,
)
items_measured Whole seen w q way (CollectMark t s ∷ items) r v h = (
  (r.findalls s (has_through FindallNode way (suc s) h.0), (r.on (suc s) (through-on FindallNode way (suc s) h.0)).1),
  items_measured
      Whole seen w q (way_above way (suc s)) items (ranged_above Whole q way (suc s) r) v h.1,
)
items_measured Whole seen w q way (RemovalItem n ∷ items) r v h = items_measured Whole seen w q way items r v h

entry_measured : (Whole : ℕ → Type 0) (seen : ℕ → Bool) → ((h : ℕ) → seen h ≡ true → Whole h) → (q : ℕ) (way : Way) (e : Entry)
    → IsRanged Whole q way → IsSeen seen e → IsOver way e → EntryMeasured Whole q e
entry_measured Whole seen w q way (PlainEntry f) r v h = items_measured Whole seen w q way f.items r v h.scoped
entry_measured Whole seen w q way (CatchEntry c x f) r v h = items_measured Whole seen w q way f.items r v h.scoped
entry_measured Whole seen w q way (FindallEntry results l f) r v h = items_measured Whole seen w q way f.items r v h.scoped
entry_measured Whole seen w q way (EndEntry b) r v h = tt

-- of own entries over a counted way
pub are_measured : (Whole : ℕ → Type 0) (seen : ℕ → Bool) (w : Way) → IsCounted w → ((h : ℕ) → seen h ≡ true → Whole h)
    → ((h : ℕ) → suc h ≤ length w → Whole (suc h)) →
    (es : List Entry) → ((h : ℕ) → GuardAt (length w) es h → Whole (suc h)) → Each (IsSeen seen) es → AreOver w es
    → AreMeasured Whole (length w) es
are_measured Whole seen w c cuts low [] guards v h = tt
are_measured Whole seen w c cuts low (e ∷ es) guards v h = (
  entry_measured Whole seen cuts (length es + length w) (stack_way es w) e ranged v.0 h.0,
  are_measured Whole seen w c cuts low es
      (λ n g. guards n (inr g)) v.1 h.1,
)
  where
    marked : (h : ℕ) → (suc h ≤ length w) ⊎ GuardAt (length w) es h → Whole (suc h)
    marked h (inl k) = low h k
    marked h (inr k) = guards h (inr k)

    ranged : IsRanged Whole (length es + length w) (stack_way es w)
    ranged = record {
      on = λ s k. (let l = counted_on (stack_way es w) s (counted_stack es w c) k in (l.0, omega (arith, l.1, length-stack es w)));
      catches = λ n k. marked n (step_guard CatchNode catch_guards w es n c k);
      findalls = λ n k. marked n (step_guard FindallNode findall_guards w es n c k);
    }
