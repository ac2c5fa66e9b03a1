-- Choice points with alternatives, one after another.
use Rattle.std.proofs.Common.{◌≡◌, ℕ, suc, ◌<◌, ◌≤◌, List, [], ◌∷◌, ◌++◌, append_assoc, append-nil, length, refl, sym, ap, ◌∙◌, subst, arith}
use Rattle.std.proofs.lemmas.List.{map-append}
use Rattle.au_term.specs.declared.segment.Binding.{Binding}
use Rattle.branch_bindings.specs.Extensions.{ExtendsBy}
use Rattle.branch_bindings.specs.ExtensionLaws.{StandsForOlder}
use Rattle.branch_bindings.proofs.ExtensionLemmas.{extensions_compose, extensions_stay_older, extensions_are_final, nothing_extends}
use Rattle.region_capture.specs.CapturedItems.{ItemLists}
use Rattle.region_capture.specs.CapturedMeanings.{captured_bindings, MeantAlternative, AreMeant}
use Rattle.region_capture.specs.CapturedChoices.{BoundThen, MeantChoice, CapturesChoice}
use Rattle.region_capture.specs.declared.captured.CapturedAlternative.{CapturedAlternative}
use Rattle.region_capture.specs.declared.captured.CapturedChoice.{CapturedChoice}
use Rattle.task_publishing.specs.declared.steps.Lead.{Lead}
use Rattle.task_publishing.specs.declared.steps.LiveChoice.{LiveChoice}
use Rattle.task_publishing.specs.declared.steps.LiveChoices.{LiveChoices}
use Rattle.task_publishing.specs.LiveChoices.{ChoicesMean, live_before, live_meant, LeadsFrom, MeansLive, MeanLive, LiveMean, IsBoundAtStart, AreLive, AddsLiveChoice}

-- bindings after others
pub joined_lead : (lead : Lead) (newest under now : BoundThen) (bs all : List Binding) → StandsForOlder newest.bound → LeadsFrom lead newest under
    → ExtendsBy under.bound now.bound now.next (captured_bindings bs) → under.next ≤ now.next → lead.bindings ++ bs ≡ all
    → (base : ℕ) → base ≡ lead.base → ExtendsBy newest.bound now.bound now.next (captured_bindings all) × (base ≡ newest.next) ×
    (newest.next ≤ now.next)
joined_lead lead newest under now bs all older l e more is base same =
    let both = extensions_compose newest.bound under.bound now.bound under.next now.next (captured_bindings lead.bindings) (captured_bindings bs)
    older
    l.extends e more in (
      subst (λ xs. ExtendsBy newest.bound now.bound now.next xs) (sym (map-append (λ (b : Binding). (b.var, b.value)) lead.bindings bs)
          ∙ ap captured_bindings is) both,
      same ∙ l.base,
      let m = l.more in omega (arith, m, more),
    )

none_meant : (lists : ItemLists) (s : _) (n cut : ℕ) (taken : List CapturedAlternative) (ms : List MeantAlternative) → AreMeant lists s n cut taken ms
    → length taken ≡ 0 → ms ≡ []
none_meant lists s n cut [] [] k e = refl
none_meant lists s n cut [] (m ∷ ms) k e = elim k [ ]
none_meant lists s n cut (a ∷ taken) ms k e = absurd (omega (arith, e))

some_meant : (lists : ItemLists) (s : _) (n cut : ℕ) (taken : List CapturedAlternative) (c : MeantChoice)
    → AreMeant lists s n cut taken c.alternatives
    → 0 < length taken
    → live_before c.alternatives c [] ≡ c ∷ []
some_meant lists s n cut taken c k lt = by_case taken c.alternatives k lt
  where
    by_case : (taken : List CapturedAlternative) (ms : List MeantAlternative) → AreMeant lists s n cut taken ms → 0 < length taken
        → live_before ms c [] ≡ c ∷ []
    by_case [] ms k lt = absurd (omega (arith, lt))
    by_case (a ∷ taken) [] k lt = elim k [ ]
    by_case (a ∷ taken) (m ∷ ms) k lt = refl

mean_next : (lists : ItemLists) (under newest : BoundThen) (cs : List LiveChoice) (ms : List MeantChoice) (c : LiveChoice) (m : MeantChoice)
    → MeanLive lists under cs ms newest
    → MeansLive lists newest c m → MeanLive lists under (cs ++ c ∷ []) (ms ++ m ∷ []) m.came
mean_next lists under newest [] [] c m k h = (subst (λ u. MeansLive lists u c m) (sym k) h, refl)
mean_next lists under newest [] (n ∷ ms) c m k h = elim k [ ]
mean_next lists under newest (d ∷ cs) [] c m k h = elim k [ ]
mean_next lists under newest (d ∷ cs) (n ∷ ms) c m k h = (k.0, mean_next lists n.came newest cs ms c m k.1 h)

-- the extension of a choice point, by its own next number
below_of : (lists : ItemLists) (under : BoundThen) (cut : ℕ) (c : CapturedChoice) (m : MeantChoice) → CapturesChoice lists under cut c m
    → ExtendsBy under.bound m.came.bound m.came.next (captured_bindings c.below) × (under.next ≤ m.came.next)
below_of lists under cut c m k = (
  subst (λ n. ExtendsBy under.bound m.came.bound n (captured_bindings c.below)) (sym k.next) k.below,
  let e = k.next in let f = k.more in omega
      (arith, e, f),
)

-- one with no alternative
pub adds_empty : (before live : LiveChoices) (c : CapturedChoice) → length c.alternatives.items ≡ 0 → live.choices ≡ before.choices
    → live.since.base ≡ before.since.base
    → before.since.bindings ++ c.below ≡ live.since.bindings → AddsLiveChoice before c live
adds_empty before live c none same base joined lists start end cut ms m k h =
    let e = below_of lists end cut c m h in
    let j = joined_lead before.since k.newest end m.came c.below live.since.bindings k.older k.since e.0 e.1 joined live.since.base base in
    let gone = none_meant lists m.came.bound c.next cut c.alternatives.items m.alternatives h.alternatives none in
    record {
      newest = k.newest;
      choices = subst (λ xs. MeanLive lists start live.choices.items xs k.newest) (sym (append-nil ms)
          ∙ ap (λ (xs : List MeantAlternative). ms ++ live_before xs m []) (sym gone))
          (subst (λ (xs : _). MeanLive lists start xs ms k.newest) (sym (ap (λ x. x.items) same)) k.choices);
      since = record { base = j.1; more = j.2; extends = j.0 };
      older = k.older;
    }

-- one with some
pub adds_live : (before live : LiveChoices) (c : CapturedChoice) (l : LiveChoice) → 0 < length c.alternatives.items
    → live.choices.items ≡ before.choices.items ++ l ∷ []
    → l.kind ≡ c.kind → l.next ≡ c.next → l.alternatives ≡ c.alternatives → l.lead.base ≡ before.since.base
    → before.since.bindings ++ c.below ≡ l.lead.bindings
    → live.since.base ≡ c.next → live.since.bindings ≡ [] → AddsLiveChoice before c live
adds_live before live c l some more kind next alternatives base joined from none lists start end cut ms m k h =
    let e = below_of lists end cut c m h in
    let j = joined_lead before.since k.newest end m.came c.below l.lead.bindings k.older k.since e.0 e.1 joined l.lead.base base in
    let is = some_meant lists m.came.bound c.next cut c.alternatives.items m h.alternatives some in
    let older = extensions_stay_older k.newest.bound m.came.bound m.came.next (captured_bindings l.lead.bindings) k.older j.0 in
    let own : MeansLive lists k.newest l m = record {
      kind = kind ∙ h.kind;
      next = next ∙ sym h.next;
      lead = record { base = j.1; more = j.2; extends = j.0 };
      cut = cut;
      alternatives = subst (λ n. AreMeant lists m.came.bound n cut l.alternatives.items m.alternatives) (sym h.next)
          (subst (λ (xs : List CapturedAlternative). AreMeant lists m.came.bound c.next cut xs m.alternatives) (sym (ap (λ x. x.items) alternatives))
          h.alternatives);
      alone = h.alone;
    } in
    record {
      newest = m.came;
      choices = subst (λ xs. MeanLive lists start live.choices.items xs m.came) (ap (λ xs. ms ++ xs) (sym is))
          (subst (λ (xs : List LiveChoice). MeanLive lists start xs (ms ++ m ∷ []) m.came) (sym more)
          (mean_next lists start k.newest before.choices.items ms l m k.choices own));
      since = record {
        base = from ∙ sym h.next;
        more = omega arith;
        extends = subst (λ (xs : List Binding). ExtendsBy m.came.bound m.came.bound m.came.next (captured_bindings xs)) (sym none)
            (nothing_extends m.came.bound m.came.next (extensions_are_final k.newest.bound m.came.bound m.came.next
            (captured_bindings l.lead.bindings)
            k.older j.0));
      };
      older = older;
    }

-- those before the ones that are left
pub record LiveUpTo (lists : ItemLists) (start end : BoundThen) (left : List CapturedChoice) (all : List MeantChoice) (live : LiveChoices) : Type 0
  where
    pub done : List MeantChoice
    pub ms : List MeantChoice
    pub mid : BoundThen
    pub cut : ℕ
    pub rest : ChoicesMean lists mid cut left ms end
    pub mean : LiveMean lists start live done mid
    pub whole : live_meant all ≡ done ++ live_meant ms

abbrev pub AreLiveUpTo : ℕ → List CapturedChoice → List CapturedChoice → LiveChoices → Type 0
AreLiveUpTo base all left live = (lists : ItemLists) (start end : BoundThen) (cut : ℕ) (ms : List MeantChoice) → IsBoundAtStart base start
    → ChoicesMean lists start cut all ms end → LiveUpTo lists start end left ms live

pub none_live : (base : ℕ) (all : List CapturedChoice) (live : LiveChoices) → live.choices.items ≡ [] → live.since.base ≡ base
    → live.since.bindings ≡ [] → AreLiveUpTo base all all live
none_live base all live none from free lists start end cut ms s k = record {
  done = [];
  ms = ms;
  mid = start;
  cut = cut;
  rest = k;
  mean = record {
    newest = start;
    choices = subst (λ (xs : List LiveChoice). MeanLive lists start xs [] start) (sym none) refl;
    since = record {
      base = from ∙ sym s.number;
      more = omega arith;
      extends = subst (λ (xs : List Binding). ExtendsBy start.bound start.bound start.next (captured_bindings xs)) (sym free)
          (nothing_extends start.bound start.next s.applied);
    };
    older = s.older;
  };
  whole = refl;
}

live_split : (m : MeantChoice) (xs : List MeantAlternative) (ms : List MeantChoice) → live_before xs m ms ≡ live_before xs m [] ++ ms
live_split m [] ms = refl
live_split m (a ∷ xs) ms = refl

pub one_live : (base : ℕ) (all left : List CapturedChoice) (c : CapturedChoice) (before live : LiveChoices) → AreLiveUpTo base all (c ∷ left) before
    → AddsLiveChoice before c live
    → AreLiveUpTo base all left live
one_live base all left c before live k h lists start end cut ms s g = with_one (k lists start end cut ms s g)
  where
    by_case : (u : LiveUpTo lists start end (c ∷ left) ms before) (rest : List MeantChoice) → ChoicesMean lists u.mid u.cut (c ∷ left) rest end
        → live_meant ms ≡ u.done ++ live_meant rest
        → LiveUpTo lists start end left ms live
    by_case u [] r w = elim r [ ]
    by_case u (m ∷ rest) r w = record {
      done = u.done ++ live_before m.alternatives m [];
      ms = rest;
      mid = m.came;
      cut = suc u.cut;
      rest = r.1;
      mean = h lists start u.mid u.cut u.done m u.mean r.0;
      whole = w ∙ (ap (λ xs. u.done ++ xs) (live_split m m.alternatives (live_meant rest))
          ∙ sym (append_assoc u.done (live_before m.alternatives m []) (live_meant rest)));
    }

    with_one : LiveUpTo lists start end (c ∷ left) ms before → LiveUpTo lists start end left ms live
    with_one u = by_case u u.ms u.rest u.whole

pub all_live : (base : ℕ) (all : List CapturedChoice) (live : LiveChoices) → AreLiveUpTo base all [] live → AreLive base all live
all_live base all live k lists start end cut ms s g = with_all (k lists start end cut ms s g)
  where
    by_case : (u : LiveUpTo lists start end [] ms live) (rest : List MeantChoice) → ChoicesMean lists u.mid u.cut [] rest end
        → live_meant ms ≡ u.done ++ live_meant rest
        → LiveMean lists start live (live_meant ms) end
    by_case u (m ∷ rest) r w = elim r [ ]
    by_case u [] r w = subst (λ x. LiveMean lists start live (live_meant ms) x) r
        (subst (λ xs. LiveMean lists start live xs u.mid) (sym (append-nil u.done) ∙ sym w) u.mean)

    with_all : LiveUpTo lists start end [] ms live → LiveMean lists start live (live_meant ms) end
    with_all u = by_case u u.ms u.rest u.whole
