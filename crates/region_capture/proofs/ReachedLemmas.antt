-- What was tried over a choice point of its own, written down and undone.
use Rattle.std.proofs.Common.{◌≡◌, ℕ, List, [], ◌∷◌, ◌++◌, length, Option, Some, None, sym, ap, ◌∙◌, subst, arith}
use Rattle.std.specs.Option.{option_to_list}
use Rattle.au_model.specs.Terms.Each.{Each}
use Rattle.au_model.specs.Terms.Named.{NamedTerm}
use Rattle.run_model.specs.Machine.Entries.{Entry}
use Rattle.cell_store.specs.StoreView.{Moment}
use Rattle.branch_bindings.specs.Extensions.{ExtendsBy}
use Rattle.region_split.specs.ClauseTrials.{entries_at, IsOptionalPosition}
use Rattle.region_split.specs.Regions.{RegionView, heights_of, items_here, IsPositionOver}
use Rattle.region_split.specs.declared.frame.Position.{Position}
use Rattle.region_split.specs.declared.choice.ChoicePoint.{ChoicePoint}
use Rattle.region_capture.specs.CapturedItems.{ItemLists, AddsItems, IsItemOver}
use Rattle.region_capture.specs.CapturedMeanings.{MeantAlternative, MeansAlternative, captured_bindings}
use Rattle.region_capture.specs.CaptureSteps.{CapturesPosition, CapturesReached, CapturesUpTo, ComesBack, HasMarkAt, IsMarkedOver}
use Rattle.region_capture.specs.declared.captured.CapturedAlternative.{CapturedAlternative}
use Rattle.region_capture.specs.declared.captured.CapturedKind.TheVariants.{Choice}
use Rattle.region_capture.proofs.ItemLemmas.{nothing_added}
use Rattle.region_capture.proofs.MeantLemmas.{AgreeUpTo, same_entry}
use Rattle.region_capture.proofs.PositionLemmas.{items_over, items_marked, older_marks}

-- what is left at a position
abbrev pub left_at : RegionView → Position → MeantAlternative
left_at r p = record { items = items_here r p; bound = r.store.now.bound; next = r.store.now.next }

-- it was written down with the bindings since a mark
pub position_means : (r : RegionView) (mark cut : ℕ) (p : Position) (old new : ItemLists) (a : CapturedAlternative) (m : Moment) → IsMarkedOver r.store mark m → IsPositionOver r cut p → CapturesPosition r mark p old new a
    → MeansAlternative new m.bound m.next cut a (left_at r p)
position_means r mark cut p old new a m marked there c =
    let made = c.bindings m marked in
    record {
      items = c.items;
      extends = subst (λ n. ExtendsBy m.bound r.store.now.bound n (captured_bindings a.bindings)) (sym c.next) made.0;
      next = sym c.next;
      more = let le = made.1 in let e = c.next in omega (arith, le, e);
      over = subst (λ n. Each (IsItemOver n cut) (items_here r p)) (sym c.next) (items_over r cut p there);
    }

module _ (r r2 r3 : RegionView) (cut : ℕ) (count : cut ≡ length r.choices) (many : length r.store.marks ≡ length r.choices) (marked : r2.store.marks ≡ r.store.marks ++ r.store.now ∷ []) (top : ChoicePoint) (choices : r2.choices ≡ r.choices ++ top ∷ [])
    (agree : (named : List NamedTerm) → AgreeUpTo (length r.choices) (heights_of named r2) (heights_of named r)) (back : ComesBack r r3) (own left all : List NamedTerm → List Entry) (whole : (named : List NamedTerm) → all named ≡ own named ++ left named) where
  mark : IsMarkedOver r2.store cut r.store.now
  mark = record { before = r.store.marks; after = []; are = marked; over = count ∙ sym many }

  marks : (p : Position) (next : ℕ) → IsPositionOver r2 (length r.choices) p → Each (IsItemOver next (length r.choices)) (items_here r2 p) → Each (HasMarkAt r.choices) (items_here r2 p)
  marks p next over o = older_marks next r.choices (top ∷ []) (items_here r2 p) o (subst (λ (cs : List ChoicePoint). Each (HasMarkAt cs) (items_here r2 p)) choices (items_marked r2 (length r.choices) p over))

  pub reached_captures : (reached : Option Position) (o : Option CapturedAlternative) (lists more : ItemLists) → IsOptionalPosition r2 cut reached → ((named : List NamedTerm) → own named ≡ entries_at named r2 reached) → CapturesReached r2 cut reached lists more o
      → CapturesUpTo Choice r r3 lists more all left (option_to_list o)
  reached_captures None None lists more there entries c = record {
    meant = [];
    are = tt;
    marked = tt;
    entries = λ named. whole named ∙ ap (λ es. es ++ left named) (entries named);
    adds = subst (AddsItems lists) (sym c) (nothing_added lists);
    back = back;
  }
  reached_captures None (Some a) lists more there entries c = absurd c
  reached_captures (Some p) None lists more there entries c = absurd c
  reached_captures (Some p) (Some a) lists more there entries c =
      let over : IsPositionOver r2 (length r.choices) p = subst (λ n. IsPositionOver r2 n p) count there in
      let m = left_at r2 p in
      let means = position_means r2 cut (length r.choices) p lists more a r.store.now mark over c in
      record {
        meant = m ∷ [];
        are = (means, tt);
        marked = (marks p a.next over means.over, tt);
        entries = λ named.
            whole named
            ∙ ap (λ es. es ++ left named) (entries named ∙ ap (λ e. e ∷ []) (same_entry a.next (length r.choices) (heights_of named r2) (heights_of named r) (agree named) Choice named m means.over));
        adds = c.adds;
        back = back;
      }
