-- Choice points of which what was seen is kept mean the same with what is bound of it.
use Rattle.std.proofs.Common.{◌≡◌, ◌⊎◌, inl, inr, ℕ, ◌+◌, ◌<◌, ◌≤◌, Bool, true, false, List, [], ◌∷◌, ◌++◌, length, length-append, map, nat_lt, refl, sym, ap, ap₂, ◌∙◌, subst, arith}
use Rattle.std.proofs.lemmas.List.{map-append}
use Rattle.std.proofs.lemmas.Bool.{eqb-true}
use Rattle.std.proofs.lemmas.Bool.Decides.{nat_tests}
use Rattle.au_term.specs.Term.{Term, VarTerm}
use Rattle.au_model.specs.Terms.Each.{Each}
use Rattle.au_model.specs.Terms.Named.{NamedTerm}
use Rattle.au_model.specs.Terms.Substitutions.{Substitution, value_of, resolve, occurs}
use Rattle.au_model.proofs.EachLemmas.{each-more}
use Rattle.run_model.specs.Laws.Numbering.{IsNamedBelow}
use Rattle.run_model.specs.Machine.Items.{Item, GoalItem, CatchMark, CollectMark, RemovalItem, Continuation, resolve_item, resolve_named}
use Rattle.run_model.specs.Machine.Entries.{Entry, PlainEntry, CatchEntry, FindallEntry}
use Rattle.cell_store.proofs.OccurrenceLemmas.{agreed, occurs_below}
use Rattle.branch_bindings.specs.Extensions.{ExtendsBy}
use Rattle.branch_bindings.specs.ExtensionLaws.{IsFinal}
use Rattle.region_split.specs.ChoicePoints.{by_height, height_of_cut}
use Rattle.region_split.specs.ResultLists.{IsNumberedFrom}
use Rattle.region_capture.specs.CapturedItems.{ItemLists}
use Rattle.region_capture.specs.CapturedMeanings.{captured_bindings, MeantAlternative, MeansAlternative, AreMeant, meant_continuation, meant_entry}
use Rattle.region_capture.specs.CapturedChoices.{BoundThen, MeantChoice, CapturesChoice, CaptureChoices, bound_under, group_entries, meant_entries, AreHeightsOf, IsAloneOf, IsGuardOver, MarksGuard, MarkGuards}
use Rattle.region_capture.specs.KeptLevels.{AreReachedIn, IsItemReached, AreBindingsReached, IsKindReached, HasResultsFrom, KeepsLevel, KeepsChoice}
use Rattle.region_capture.specs.declared.captured.CapturedAlternative.{CapturedAlternative}
use Rattle.region_capture.specs.declared.captured.CapturedChoice.{CapturedChoice}
use Rattle.region_capture.specs.declared.captured.CapturedKind.{CapturedKind}
use Rattle.region_capture.specs.declared.captured.CapturedKind.TheVariants.{Choice, Catch, Findall}
use Rattle.region_capture.proofs.ChoiceLemmas.{KeepChoices, under_more}
use Rattle.region_capture.proofs.KeptLemmas.{kept_to, keep_of, keep_with, stays, free_stays, left_free, numbered_from, keeps_older, level_extends, own_extends, own_stays, own_older}

-- entries of items and names of which two substitutions make the same
module _ (s t : Substitution) where
  item_same : (heights : List ℕ) (i : Item ℕ) → resolve_item s i ≡ resolve_item t i → resolve_item t (by_height heights i) ≡ resolve_item s (by_height heights i)
  item_same heights (GoalItem u c) e = let same : resolve s u ≡ resolve t u = cc in ap (λ x. GoalItem x (height_of_cut heights c)) (sym same)
  item_same heights (CatchMark over) e = refl
  item_same heights (CollectMark u over) e = let same : resolve s u ≡ resolve t u = cc in ap (λ x. CollectMark x (height_of_cut heights over)) (sym same)
  item_same heights (RemovalItem number) e = refl

  items_same : (heights : List ℕ) (items : List (Item ℕ)) → Each (λ i. resolve_item s i ≡ resolve_item t i) items → map (resolve_item t) (map (by_height heights) items) ≡ map (resolve_item s) (map (by_height heights) items)
  items_same heights [] e = refl
  items_same heights (i ∷ items) e = ap₂ (λ (x : Item ℕ) xs. x ∷ xs) (item_same heights i e.0) (items_same heights items e.1)

  named_same : (next : ℕ) → ((v : ℕ) → v < next → value_of s v ≡ value_of t v) → (n : NamedTerm) → IsNamedBelow next n → resolve_named t n ≡ resolve_named s n
  named_same next older n b =
      ap (λ u. (let m : NamedTerm = record { name = n.name; term = u } in m))
      (agreed (value_of t) (value_of s) n.term (λ w o. sym (older w (let lt = occurs_below w n.term o in omega (arith, lt, b)))))

  names_same : (next : ℕ) → ((v : ℕ) → v < next → value_of s v ≡ value_of t v) → (named : List NamedTerm) → Each (IsNamedBelow next) named → map (resolve_named t) named ≡ map (resolve_named s) named
  names_same next older [] b = refl
  names_same next older (n ∷ named) b = ap₂ (λ (x : NamedTerm) xs. x ∷ xs) (named_same next older n b.0) (names_same next older named b.1)

  pub continuation_same : (next start : ℕ) (heights : List ℕ) (named : List NamedTerm) (items : List (Item ℕ)) → Each (λ i. resolve_item s i ≡ resolve_item t i) items → ((v : ℕ) → v < start → value_of s v ≡ value_of t v) → Each (IsNamedBelow start) named
      → meant_continuation heights named (record { items = items; bound = t; next = next }) ≡ meant_continuation heights named (record { items = items; bound = s; next = next })
  continuation_same next start heights named items same older below =
      ap₂ (λ (is : List (Item ℕ)) (ns : List NamedTerm). (let k : Continuation ℕ = record { items = is; named = ns; next = next } in k)) (items_same heights items same) (names_same start older named below)

-- what is kept
abbrev pub kept_then : ℕ → List Bool → BoundThen → BoundThen
kept_then start seen b = record { bound = kept_to (keep_of start seen) b.bound b.next; next = b.next }

abbrev pub kept_alternative : ℕ → List Bool → ℕ → MeantAlternative → MeantAlternative
kept_alternative start seen next a = record { items = a.items; bound = kept_to (keep_with (keep_of start seen) next) a.bound a.next; next = a.next }

abbrev pub kept_choice : ℕ → List Bool → MeantChoice → MeantChoice
kept_choice start seen m = record { kind = m.kind; came = kept_then start seen m.came; alternatives = map (kept_alternative start seen m.came.next) m.alternatives }

-- alternatives over what was bound when their choice point came
module _ (start : ℕ) (seen : List Bool) (came : BoundThen) (new : (v : ℕ) → came.next ≤ v → value_of came.bound v ≡ VarTerm v) (final : IsFinal came.bound) (lists : ItemLists) (cut : ℕ) where
  module _ (a : CapturedAlternative) (m : MeantAlternative) (k : MeansAlternative lists came.bound came.next cut a m) (reached : AreBindingsReached came.next seen a) where
    extends : ExtendsBy came.bound m.bound m.next (captured_bindings a.bindings)
    extends = subst (λ n. ExtendsBy came.bound m.bound n (captured_bindings a.bindings)) (sym k.next) k.extends

    le : came.next ≤ m.next
    le = let l = k.more in let e = k.next in omega (arith, l, e)

    pub alternative_kept : MeansAlternative lists (kept_then start seen came).bound came.next cut a (kept_alternative start seen came.next m)
    alternative_kept = record {
      items = k.items;
      extends = subst (λ n. ExtendsBy (kept_then start seen came).bound (kept_alternative start seen came.next m).bound n (captured_bindings a.bindings)) k.next (own_extends start seen came new final m.bound m.next a.bindings extends le reached);
      next = k.next;
      more = k.more;
      over = k.over;
    }

    term_same : (t : Term) → AreReachedIn came.next seen t → resolve (kept_alternative start seen came.next m).bound t ≡ resolve m.bound t
    term_same t r = own_stays start seen came new final m.bound m.next a.bindings extends le reached t r

    item_stays : (i : Item ℕ) → IsItemReached came.next seen i → resolve_item (kept_alternative start seen came.next m).bound i ≡ resolve_item m.bound i
    item_stays (GoalItem t c) r = ap (λ u. GoalItem u c) (term_same t r)
    item_stays (CatchMark over) r = refl
    item_stays (CollectMark t over) r = ap (λ u. CollectMark u over) (term_same t r)
    item_stays (RemovalItem number) r = refl

    continues : (heights : List ℕ) (named : List NamedTerm) → Each (IsItemReached came.next seen) m.items → Each (IsNamedBelow start) named
        → meant_continuation heights named m ≡ meant_continuation heights named (kept_alternative start seen came.next m)
    continues heights named items below =
        continuation_same (kept_alternative start seen came.next m).bound m.bound m.next start heights named m.items
        (each-more (IsItemReached came.next seen) (λ i. resolve_item (kept_alternative start seen came.next m).bound i ≡ resolve_item m.bound i) item_stays m.items items)
        (own_older start seen came new final m.bound m.next a.bindings extends le reached) below

    results_same : (ts : List Term) → Each (IsNumberedFrom came.next) ts → map (resolve m.bound) ts ≡ map (resolve (kept_alternative start seen came.next m).bound) ts
    results_same [] h = refl
    results_same (t ∷ ts) h = ap₂ (λ (u : Term) us. u ∷ us) (sym (term_same t (λ v o. inl (numbered_from came.next t h.0 v o)))) (results_same ts h.1)

    pub entry_same : (kind : CapturedKind) (heights : List ℕ) (named : List NamedTerm) → IsKindReached came.next seen kind → HasResultsFrom came.next kind → Each (IsItemReached came.next seen) m.items → Each (IsNamedBelow start) named
        → meant_entry kind heights named m ≡ meant_entry kind heights named (kept_alternative start seen came.next m)
    entry_same Choice heights named g r items below = ap PlainEntry (continues heights named items below)
    entry_same (Catch catcher recovery) heights named g r items below =
        ap₂ (λ t u. CatchEntry t u (meant_continuation heights named m)) (sym (term_same catcher g.0)) (sym (term_same recovery g.1))
        ∙ ap (CatchEntry (resolve (kept_alternative start seen came.next m).bound catcher) (resolve (kept_alternative start seen came.next m).bound recovery)) (continues heights named items below)
    entry_same (Findall list results) heights named g r items below =
        ap₂ (λ ts t. FindallEntry ts t (meant_continuation heights named m)) (results_same results.items r) (sym (term_same list g))
        ∙ ap (FindallEntry (map (resolve (kept_alternative start seen came.next m).bound) results.items) (resolve (kept_alternative start seen came.next m).bound list)) (continues heights named items below)

  pub alternatives_kept : (taken : List CapturedAlternative) (ms : List MeantAlternative) → AreMeant lists came.bound came.next cut taken ms → Each (AreBindingsReached came.next seen) taken
      → AreMeant lists (kept_then start seen came).bound came.next cut taken (map (kept_alternative start seen came.next) ms)
  alternatives_kept [] [] k r = tt
  alternatives_kept [] (m ∷ ms) k r = absurd k
  alternatives_kept (a ∷ taken) [] k r = absurd k
  alternatives_kept (a ∷ taken) (m ∷ ms) k r = (alternative_kept a m k.0 r.0, alternatives_kept taken ms k.1 r.1)

  pub entries_same : (kind : CapturedKind) (heights : List ℕ) (named : List NamedTerm) → IsKindReached came.next seen kind → HasResultsFrom came.next kind → Each (IsNamedBelow start) named → (taken : List CapturedAlternative) (ms : List MeantAlternative)
      → AreMeant lists came.bound came.next cut taken ms → Each (AreBindingsReached came.next seen) taken → Each (λ (x : MeantAlternative). Each (IsItemReached came.next seen) x.items) ms
      → map (meant_entry kind heights named) ms ≡ map (meant_entry kind heights named) (map (kept_alternative start seen came.next) ms)
  entries_same kind heights named g r below [] [] k b i = refl
  entries_same kind heights named g r below [] (m ∷ ms) k b i = absurd k
  entries_same kind heights named g r below (a ∷ taken) [] k b i = absurd k
  entries_same kind heights named g r below (a ∷ taken) (m ∷ ms) k b i = ap₂ (λ (e : Entry) es. e ∷ es) (entry_same a m k.0 b.0 kind heights named g r i.0 below) (entries_same kind heights named g r below taken ms k.1 b.1 i.1)

pub map_long : {A B : Type 0} (f : A → B) (xs : List A) → length (map f xs) ≡ length xs
map_long f [] = refl
map_long f (x ∷ xs) = let e = map_long f xs in omega (arith, e)

-- over the start, and over an older one
module _ (lists : ItemLists) (start : BoundThen) (cut : ℕ) (seen : List Bool) where
  abbrev kept_of : MeantChoice → MeantChoice
  kept_of = kept_choice start.next seen

  abbrev keep_all : ℕ → Bool
  keep_all = keep_of start.next seen

  pub under_next : (ms : List MeantChoice) → (bound_under start (map kept_of ms)).next ≡ (bound_under start ms).next
  under_next [] = refl
  under_next (m ∷ ms) = refl

  pub under_is : (ms : List MeantChoice) → ((v : ℕ) → (bound_under start ms).next ≤ v → value_of (bound_under start ms).bound v ≡ VarTerm v) → (v : ℕ)
      → value_of (bound_under start (map kept_of ms)).bound v ≡ value_of (kept_to keep_all (bound_under start ms).bound (bound_under start ms).next) v
  under_is (m ∷ ms) unbound v = refl
  under_is [] unbound v = by_test (nat_lt v start.next) refl
    where
      by_test : (b : Bool) → nat_lt v start.next ≡ b → value_of start.bound v ≡ value_of (kept_to keep_all start.bound start.next) v
      by_test true e = let lt : v < start.next = grind (arith, nat_tests) in sym (stays keep_all start.bound start.next unbound v (keeps_older start.next seen v lt))
      by_test false e = let le : start.next ≤ v = grind (arith, nat_tests) in unbound v le ∙ sym (free_stays keep_all start.bound start.next unbound v (unbound v le))

  pub settled : (cs : List CapturedChoice) (ms : List MeantChoice) (now : BoundThen) (bs : List _) → KeepChoices lists start cut seen cs ms → KeepsLevel (bound_under start ms) now seen bs → (v w : ℕ) → occurs w (value_of (bound_under start ms).bound v) ≡ true
      → (keep_all w ≡ true) ⊎ (value_of (bound_under start ms).bound w ≡ VarTerm w)
  settled [] [] now bs k l v w o = by_test (nat_lt v start.next) refl
    where
      by_test : (b : Bool) → nat_lt v start.next ≡ b → (keep_all w ≡ true) ⊎ (value_of start.bound w ≡ VarTerm w)
      by_test true e =
          let lt : v < start.next = grind (arith, nat_tests) in
          let less : w < start.next = let a = occurs_below w (value_of start.bound v) o in let b = l.keeps.below v lt in omega (arith, a, b) in
          inl (keeps_older start.next seen w less)
      by_test false e =
          let past : start.next ≤ v = grind (arith, nat_tests) in
          let same : w ≡ v = eqb-true w v (subst (λ t. occurs w t ≡ true) (l.keeps.unbound v past) o) in
          inr (subst (λ x. value_of start.bound x ≡ VarTerm x) (sym same) (l.keeps.unbound v past))
  settled [] (m ∷ ms) now bs k l v w o = absurd k
  settled (c ∷ cs) [] now bs k l v w o = absurd k
  settled (c ∷ cs) (m ∷ ms) now bs k l v w o = inr (left_free (value_of m.came.bound) (value_of m.came.bound v) (k.0.final v) w o)

  -- what was bound at a later moment was made of what is kept
  pub level_kept : (cs : List CapturedChoice) (ms : List MeantChoice) (now : BoundThen) (bs : List _) → KeepChoices lists start cut seen cs ms → KeepsLevel (bound_under start ms) now seen bs
      → ExtendsBy (bound_under start (map kept_of ms)).bound (kept_then start.next seen now).bound now.next (captured_bindings bs)
  level_kept cs ms now bs k l =
      level_extends start.next seen (bound_under start ms) now bs l (under_more lists start cut seen cs ms k) (bound_under start (map kept_of ms)).bound (under_is ms l.keeps.unbound) (settled cs ms now bs k l)

  choice_kept : (cs : List CapturedChoice) (ms : List MeantChoice) (c : CapturedChoice) (m : MeantChoice) → KeepChoices lists start cut seen cs ms → KeepsChoice lists (bound_under start ms) (cut + length ms) seen c m
      → CapturesChoice lists (bound_under start (map kept_of ms)) (cut + length (map kept_of ms)) c (kept_of m)
  choice_kept cs ms c m k own = record {
    kind = own.kind;
    below = subst (λ n. ExtendsBy (bound_under start (map kept_of ms)).bound (kept_then start.next seen m.came).bound n (captured_bindings c.below)) own.next (level_kept cs ms m.came c.below k own.level);
    next = own.next;
    more = let l = own.level.keeps.later in let e = own.next in let u = under_next ms in omega (arith, l, e, u);
    alternatives =
        subst (λ n. AreMeant lists (kept_then start.next seen m.came).bound c.next n c.alternatives.items (kept_of m).alternatives) (ap (λ n. cut + n) (sym (map_long kept_of ms)))
        (subst (λ n. AreMeant lists (kept_then start.next seen m.came).bound n (cut + length ms) c.alternatives.items (kept_of m).alternatives) own.next
        (alternatives_kept start.next seen m.came own.level.keeps.new own.final lists (cut + length ms) c.alternatives.items m.alternatives (subst (λ n. AreMeant lists m.came.bound n (cut + length ms) c.alternatives.items m.alternatives) (sym own.next) own.alternatives)
        (subst (λ n. Each (AreBindingsReached n seen) c.alternatives.items) (sym own.next) own.bindings)));
    alone = subst (IsAloneOf m.kind) (sym (map_long (kept_alternative start.next seen m.came.next) m.alternatives)) own.alone;
    terms = own.terms;
  }

  pub choices_kept : (cs : List CapturedChoice) (ms : List MeantChoice) → KeepChoices lists start cut seen cs ms → CaptureChoices lists start cut cs (map kept_of ms)
  choices_kept [] [] k = tt
  choices_kept [] (m ∷ ms) k = absurd k
  choices_kept (c ∷ cs) [] k = absurd k
  choices_kept (c ∷ cs) (m ∷ ms) k = (choice_kept cs ms c m k.1 k.0, choices_kept cs ms k.1)

  -- their entries
  group_same : (heights : List ℕ) (named : List NamedTerm) (under : BoundThen) (over : ℕ) (c : CapturedChoice) (m : MeantChoice) → Each (IsNamedBelow start.next) named → KeepsChoice lists under over seen c m → group_entries heights named m ≡ group_entries heights named (kept_of m)
  group_same heights named under over c m below k =
      entries_same start.next seen m.came k.level.keeps.new k.final lists over m.kind heights named (subst (λ n. IsKindReached n seen m.kind) (sym k.next) k.guard) (subst (λ n. HasResultsFrom n m.kind) (sym k.next) k.results) below c.alternatives.items m.alternatives
      (subst (λ n. AreMeant lists m.came.bound n over c.alternatives.items m.alternatives) (sym k.next) k.alternatives) (subst (λ n. Each (AreBindingsReached n seen) c.alternatives.items) (sym k.next) k.bindings)
      (subst (λ n. Each (λ (x : MeantAlternative). Each (IsItemReached n seen) x.items) m.alternatives) (sym k.next) k.items)

  pub meant_same : (heights : List ℕ) (named : List NamedTerm) → Each (IsNamedBelow start.next) named → (cs : List CapturedChoice) (ms : List MeantChoice) → KeepChoices lists start cut seen cs ms → meant_entries heights named ms ≡ meant_entries heights named (map kept_of ms)
  meant_same heights named below [] [] k = refl
  meant_same heights named below [] (m ∷ ms) k = absurd k
  meant_same heights named below (c ∷ cs) [] k = absurd k
  meant_same heights named below (c ∷ cs) (m ∷ ms) k = ap₂ (λ (es fs : List Entry). es ++ fs) (group_same heights named (bound_under start ms) (cut + length ms) c m below k.0) (meant_same heights named below cs ms k.1)

  -- and their heights
  meant_long : (heights : List ℕ) (named : List NamedTerm) (ms : List MeantChoice) → length (meant_entries heights named (map kept_of ms)) ≡ length (meant_entries heights named ms)
  meant_long heights named [] = refl
  meant_long heights named (m ∷ ms) =
      let rest = meant_long heights named ms in
      let own : length (group_entries heights named (kept_of m)) ≡ length (group_entries heights named m)
      = map_long (meant_entry m.kind heights named) (map (kept_alternative start.next seen m.came.next) m.alternatives) ∙ (map_long (kept_alternative start.next seen m.came.next) m.alternatives ∙ sym (map_long (meant_entry m.kind heights named) m.alternatives)) in
      omega (arith, rest, own, length-append (group_entries heights named (kept_of m)) (meant_entries heights named (map kept_of ms)), length-append (group_entries heights named m) (meant_entries heights named ms))

  pub heights_same : (heights : List ℕ) (named : List NamedTerm) (others : ℕ) (ms : List MeantChoice) → AreHeightsOf heights named cut others ms → AreHeightsOf heights named cut others (map kept_of ms)
  heights_same heights named others [] h = h
  heights_same heights named others (m ∷ ms) h =
      let l : cut + length (m ∷ ms) ≡ cut + length (map kept_of (m ∷ ms)) = ap (λ n. cut + n) (sym (map_long kept_of (m ∷ ms))) in (
        ap (height_of_cut heights) (sym l) ∙ (h.0 ∙ ap (λ n. n + others) (sym (meant_long heights named (m ∷ ms)))),
        heights_same heights named others ms h.1,
      )

  -- and what is marked
  guard_kept : (ms : List MeantChoice) (over : ℕ) → IsGuardOver cut ms over → IsGuardOver cut (map kept_of ms) over
  guard_kept ms over g = record {
    newer = map kept_of g.newer;
    guard = kept_of g.guard;
    older = map kept_of g.older;
    are = ap (map kept_of) g.are ∙ map-append kept_of g.newer (g.guard ∷ g.older);
    place = let p = g.place in let l = map_long kept_of g.older in omega (arith, p, l);
    alone = map_long (kept_alternative start.next seen g.guard.came.next) g.guard.alternatives ∙ g.alone;
  }

  mark_kept : (ms : List MeantChoice) (i : Item ℕ) → MarksGuard cut ms i → MarksGuard cut (map kept_of ms) i
  mark_kept ms (GoalItem t c) m = tt
  mark_kept ms (CatchMark over) (inl lt) = inl lt
  mark_kept ms (CatchMark over) (inr g) = inr (guard_kept ms over g)
  mark_kept ms (CollectMark t over) (inl lt) = inl lt
  mark_kept ms (CollectMark t over) (inr g) = inr (guard_kept ms over g)
  mark_kept ms (RemovalItem number) m = tt

  pub marks_kept : (ms : List MeantChoice) (items : List (Item ℕ)) → Each (MarksGuard cut ms) items → Each (MarksGuard cut (map kept_of ms)) items
  marks_kept ms items m = each-more (MarksGuard cut ms) (MarksGuard cut (map kept_of ms)) (mark_kept ms) items m

  pub each_marks_kept : (all : List MeantChoice) (ms : List MeantChoice) → Each (λ (m : MeantChoice). Each (MarkGuards cut all) m.alternatives) ms → Each (λ (m : MeantChoice). Each (MarkGuards cut (map kept_of all)) m.alternatives) (map kept_of ms)
  each_marks_kept all [] h = tt
  each_marks_kept all (m ∷ ms) h = (by_alternative m.came.next m.alternatives h.0, each_marks_kept all ms h.1)
    where
      by_alternative : (n : ℕ) (xs : List MeantAlternative) → Each (MarkGuards cut all) xs → Each (MarkGuards cut (map kept_of all)) (map (kept_alternative start.next seen n) xs)
      by_alternative n [] k = tt
      by_alternative n (x ∷ xs) k = (marks_kept all x.items k.0, by_alternative n xs k.1)
