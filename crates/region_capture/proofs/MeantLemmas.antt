-- Alternatives that were written down one after another.
use Rattle.std.proofs.Common.{◌≡◌, ℕ, ◌≤◌, List, [], ◌∷◌, ◌++◌, append_assoc, length, map, refl, sym, ap, ap₂, ◌∙◌, subst, arith}
use Rattle.std.proofs.lemmas.List.{map-append}
use Rattle.au_model.specs.Terms.Each.{Each}
use Rattle.au_model.proofs.EachLemmas.{each-append}
use Rattle.au_model.specs.Terms.Named.{NamedTerm}
use Rattle.au_model.specs.Terms.Substitutions.{Substitution, resolve}
use Rattle.run_model.specs.Machine.Items.{Item, GoalItem, CatchMark, CollectMark, RemovalItem, resolve_continuation}
use Rattle.run_model.specs.Machine.Entries.{Entry, PlainEntry, CatchEntry, FindallEntry}
use Rattle.cell_store.specs.StoreView.{Moment}
use Rattle.region_split.specs.ChoicePoints.{height_of_cut, by_height}
use Rattle.region_split.specs.Regions.{RegionView, heights_of}
use Rattle.region_split.specs.declared.choice.ChoicePoint.{ChoicePoint}
use Rattle.region_capture.specs.CapturedItems.{ItemLists, AddsItems, IsItemOver}
use Rattle.region_capture.specs.CapturedMeanings.{MeantAlternative, meant_continuation, meant_entry, AreMeant}
use Rattle.region_capture.specs.CaptureSteps.{CapturesUpTo, HasMarksAt}
use Rattle.region_capture.specs.declared.captured.CapturedAlternative.{CapturedAlternative}
use Rattle.region_capture.specs.declared.captured.CapturedKind.{CapturedKind}
use Rattle.region_capture.specs.declared.captured.CapturedKind.TheVariants.{Choice, Catch, Findall}
use Rattle.region_capture.proofs.ItemLemmas.{items_kept, nothing_added, added_twice}
use Rattle.region_capture.proofs.ComesBackLemmas.{comes_back_twice, stays_there}

-- heights that agree for so many choice points
abbrev pub AgreeUpTo : ℕ → List ℕ → List ℕ → Type 0
AgreeUpTo cut hs ks = (n : ℕ) → n ≤ cut → height_of_cut hs n ≡ height_of_cut ks n

module _ (next cut : ℕ) (hs ks : List ℕ) (agree : AgreeUpTo cut hs ks) where
  same_item : (i : Item ℕ) → IsItemOver next cut i → by_height hs i ≡ by_height ks i
  same_item (GoalItem t c) o = ap (GoalItem t) (agree c o.1)
  same_item (CatchMark over) o = ap CatchMark (agree over (omega (arith, o)))
  same_item (CollectMark t over) o = ap (CollectMark t) (agree over (let lt = o.1 in omega (arith, lt)))
  same_item (RemovalItem number) o = refl

  pub same_heights : (items : List (Item ℕ)) → Each (IsItemOver next cut) items → map (by_height hs) items ≡ map (by_height ks) items
  same_heights [] o = refl
  same_heights (i ∷ items) o = ap₂ (λ j js. j ∷ js) (same_item i o.0) (same_heights items o.1)

  pub same_continuation : (named : List NamedTerm) (m : MeantAlternative) → Each (IsItemOver next cut) m.items → meant_continuation hs named m ≡ meant_continuation ks named m
  same_continuation named m o = ap (λ items. resolve_continuation m.bound (record { items = items; named = named; next = m.next })) (same_heights m.items o)

  pub same_entry : (kind : CapturedKind) (named : List NamedTerm) (m : MeantAlternative) → Each (IsItemOver next cut) m.items → meant_entry kind hs named m ≡ meant_entry kind ks named m
  same_entry Choice named m o = ap PlainEntry (same_continuation named m o)
  same_entry (Catch catcher recovery) named m o = ap (CatchEntry (resolve m.bound catcher) (resolve m.bound recovery)) (same_continuation named m o)
  same_entry (Findall list results) named m o = ap (FindallEntry (map (resolve m.bound) results.items) (resolve m.bound list)) (same_continuation named m o)

module _ (lists : ItemLists) (before : Substitution) (first cut : ℕ) where
  pub same_entries : (kind : CapturedKind) (hs ks : List ℕ) (named : List NamedTerm) (taken : List CapturedAlternative) (ms : List MeantAlternative) → AgreeUpTo cut hs ks → AreMeant lists before first cut taken ms → map (meant_entry kind hs named) ms ≡ map (meant_entry kind ks named) ms
  same_entries kind hs ks named [] [] agree are = refl
  same_entries kind hs ks named [] (m ∷ ms) agree are = absurd are
  same_entries kind hs ks named (a ∷ taken) [] agree are = absurd are
  same_entries kind hs ks named (a ∷ taken) (m ∷ ms) agree are = ap₂ (λ e es. e ∷ es) (same_entry a.next cut hs ks agree kind named m are.0.over) (same_entries kind hs ks named taken ms agree are.1)

  pub more_meant : (more : ItemLists) (taken : List CapturedAlternative) (ms : List MeantAlternative) → AddsItems lists more → AreMeant lists before first cut taken ms → AreMeant more before first cut taken ms
  more_meant more [] [] adds are = tt
  more_meant more [] (m ∷ ms) adds are = absurd are
  more_meant more (a ∷ taken) [] adds are = absurd are
  more_meant more (a ∷ taken) (m ∷ ms) adds are =
      (record { items = items_kept lists more a.first m.items adds are.0.items; extends = are.0.extends; next = are.0.next; more = are.0.more; over = are.0.over }, more_meant more taken ms adds are.1)

  pub meant-append : (xs ys : List CapturedAlternative) (ms ns : List MeantAlternative) → AreMeant lists before first cut xs ms → AreMeant lists before first cut ys ns → AreMeant lists before first cut (xs ++ ys) (ms ++ ns)
  meant-append [] ys [] ns p q = q
  meant-append [] ys (m ∷ ms) ns p q = absurd p
  meant-append (x ∷ xs) ys [] ns p q = absurd p
  meant-append (x ∷ xs) ys (m ∷ ms) ns p q = (p.0, meant-append xs ys ms ns p.1 q)

-- some were written down, and then others
pub captures_on : (kind : CapturedKind) (a b c : RegionView) (l1 l2 l3 : ItemLists) (all mid left : List NamedTerm → List Entry) (taken others : List CapturedAlternative)
    → CapturesUpTo kind a b l1 l2 all mid taken → CapturesUpTo kind b c l2 l3 mid left others → CapturesUpTo kind a c l1 l3 all left (taken ++ others)
captures_on kind a b c l1 l2 l3 all mid left taken others p q =
    let now : b.store.now ≡ a.store.now = p.back.now in
    let long : length b.choices ≡ length a.choices = ap (λ (cs : List ChoicePoint). length cs) p.back.choices in
    let own : AreMeant l3 a.store.now.bound a.store.now.next (length a.choices) others q.meant
    = subst (λ n. AreMeant l3 a.store.now.bound a.store.now.next n others q.meant) long (subst (λ (m : Moment). AreMeant l3 m.bound m.next (length b.choices) others q.meant) now q.are) in
    record {
      meant = p.meant ++ q.meant;
      are = meant-append l3 a.store.now.bound a.store.now.next (length a.choices) taken others p.meant q.meant (more_meant l2 a.store.now.bound a.store.now.next (length a.choices) l3 taken p.meant q.adds p.are) own;
      entries = λ named.
          p.entries named
          ∙ (ap (λ es. map (meant_entry kind (heights_of named a) named) p.meant ++ es) (q.entries named ∙ ap (λ es. es ++ left named) (same_entries l3 a.store.now.bound a.store.now.next (length a.choices) kind (heights_of named b) (heights_of named a) named others q.meant (p.back.heights named) own))
          ∙ (sym (append_assoc (map (meant_entry kind (heights_of named a) named) p.meant) (map (meant_entry kind (heights_of named a) named) q.meant) (left named))
          ∙ ap (λ es. es ++ left named) (sym (map-append (meant_entry kind (heights_of named a) named) p.meant q.meant))));
      marked = each-append (HasMarksAt a.choices) p.meant q.meant p.marked (subst (λ (cs : List ChoicePoint). Each (HasMarksAt cs) q.meant) p.back.choices q.marked);
      adds = added_twice l1 l2 l3 p.adds q.adds;
      back = comes_back_twice a b c p.back q.back;
    }

-- nothing was written down yet
pub captures_none : (kind : CapturedKind) (r : RegionView) (lists : ItemLists) (all : List NamedTerm → List Entry) → CapturesUpTo kind r r lists lists all all []
captures_none kind r lists all = record { meant = []; are = tt; entries = λ named. refl; marked = tt; adds = nothing_added lists; back = stays_there r }

-- what is left is said in another way
pub left_otherwise : (kind : CapturedKind) (a b : RegionView) (lists more : ItemLists) (all left others : List NamedTerm → List Entry) (taken : List CapturedAlternative) → ((named : List NamedTerm) → left named ≡ others named)
    → CapturesUpTo kind a b lists more all left taken → CapturesUpTo kind a b lists more all others taken
left_otherwise kind a b lists more all left others taken same p = record {
  meant = p.meant;
  are = p.are;
  entries = λ named. p.entries named ∙ ap (λ es. map (meant_entry kind (heights_of named a) named) p.meant ++ es) (same named);
  marked = p.marked;
  adds = p.adds;
  back = p.back;
}
