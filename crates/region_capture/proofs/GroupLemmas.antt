-- Choice points that were taken off, and written down.
use Rattle.std.proofs.Common.{◌≡◌, ℕ, Vec, ◌+◌, ◌<◌, ◌≤◌, Bool, List, [], ◌∷◌, ◌++◌, append-nil, length, length-append, map, refl, sym, ap, ap₂, ◌∙◌, subst, arith}
use Rattle.std.proofs.lemmas.List.{same_from_push}
use Rattle.std.specs.Global.{Global}
use Rattle.au_term.specs.Term.{Term, var_bound}
use Rattle.au_model.specs.Terms.Named.{NamedTerm}
use Rattle.au_model.specs.Terms.Substitutions.{Substitution, resolve}
use Rattle.au_model.proofs.EachLemmas.{each-more}
use Rattle.run_model.specs.Machine.Items.{Item, GoalItem, CatchMark, CollectMark, RemovalItem, Continuation}
use Rattle.run_model.specs.Machine.Entries.{PlainEntry, CatchEntry, FindallEntry}
use Rattle.binding_array.specs.declared.cell.BindingCell.{BindingCell}
use Rattle.cell_store.specs.StoreView.{Moment, IsValidStore, value_term, IsValueIn, text_in}
use Rattle.branch_bindings.specs.Extensions.{ExtendsBy}
use Rattle.branch_bindings.specs.ExtensionLaws.{NothingExtends}
use Rattle.region_split.specs.QueryEnds.{IsEnd}
use Rattle.region_split.specs.Regions.{RegionView, heights_of, items_here, IsPositionIn, AreAlternativesIn}
use Rattle.region_split.specs.StackOperations.{TakesNewest}
use Rattle.region_split.specs.ResultLists.{ResultsView, IsNumberedFrom}
use Rattle.region_split.specs.declared.choice.Alternatives.{Alternatives}
use Rattle.region_split.specs.declared.choice.Alternatives.TheVariants.{Elsewhere, Catch as CatchOf, Findall as FindallOf}
use Rattle.region_split.specs.declared.choice.ChoicePoint.{ChoicePoint}
use Rattle.region_split.specs.declared.frame.Position.{Position}
use Rattle.cell_store.proofs.CellMeaningLemmas.{term_below}
use Rattle.au_model.specs.Terms.Each.{Each}
use Rattle.region_capture.specs.CapturedItems.{ItemLists, IsItemOver}
use Rattle.region_capture.specs.CapturedMeanings.{MeantAlternative, MeansAlternative, AreMeant, meant_entry, meant_continuation, captured_bindings}
use Rattle.region_capture.specs.CapturedChoices.{MeantChoice, group_entries, IsAloneOf}
use Rattle.region_capture.specs.CapturedRegions.{bound_at}
use Rattle.region_capture.specs.KeptLevels.{IsItemReached, AreBindingsReached, IsKindReached, HasResultsFrom, ReachesAlternative, KeepsLevel, KeepsChoice}
use Rattle.region_capture.specs.NeededBindings.{KeepsSince}
use Rattle.region_capture.specs.CaptureSteps.{CapturesFollowing, CapturesUpTo, CapturesGroup, CapturesNewest, HasOwnOnTop, entries_here, no_entries, HasMarksAt}
use Rattle.region_capture.specs.declared.captured.CapturedAlternative.{CapturedAlternative}
use Rattle.region_capture.specs.declared.captured.CapturedChoice.{CapturedChoice}
use Rattle.region_capture.specs.declared.captured.CapturedKind.{CapturedKind}
use Rattle.region_capture.specs.declared.captured.CapturedKind.TheVariants.{Choice, Catch, Findall}
use Rattle.region_capture.proofs.ComesBackLemmas.{stays_there}
use Rattle.region_capture.proofs.ItemLemmas.{has_within}
use Rattle.region_capture.proofs.MeantLemmas.{same_entries}
use Rattle.region_capture.proofs.PositionLemmas.{items_over, items_marked, later_marks}

-- with more variables
wider : (next more cut : ℕ) → next ≤ more → (i : Item ℕ) → IsItemOver next cut i → IsItemOver more cut i
wider next more cut le (GoalItem t c) o = (let b = o.0 in omega (arith, b, le), o.1)
wider next more cut le (CatchMark over) o = o
wider next more cut le (CollectMark t over) o = (let b = o.0 in omega (arith, b, le), o.1)
wider next more cut le (RemovalItem number) o = tt

-- an alternative that goes on with nothing bound
module _ (r : RegionView) (after : Position) (next : ℕ) (valid : IsValidStore r.store) (nothing : NothingExtends) (there : IsPositionIn r after) (most : r.store.now.next ≤ next) where
  abbrev pub following : MeantAlternative
  following = record { items = items_here r after; bound = r.store.now.bound; next = next }

  pub following_captured : (kind : CapturedKind) (alternatives : Alternatives) (lists more : ItemLists) (taken : List CapturedAlternative) → ((named : List NamedTerm) → entries_here r alternatives after named ≡ meant_entry kind (heights_of named r) named following ∷ [])
      → CapturesFollowing r lists more after next taken → CapturesUpTo kind r r lists more (entries_here r alternatives after) no_entries taken
  following_captured kind alternatives lists more taken is f =
      let a = f.alternative in
      let means : MeansAlternative more r.store.now.bound r.store.now.next (length r.choices) a following
      = record {
        items = f.items;
        extends = subst (λ bs. ExtendsBy r.store.now.bound r.store.now.bound a.next (captured_bindings bs)) (sym f.bindings) (nothing r.store.now.bound a.next valid.final);
        next = sym f.next_is;
        more = let e = f.next_is in omega (arith, e, most);
        over = each-more (IsItemOver r.store.now.next (length r.choices)) (IsItemOver a.next (length r.choices)) (wider r.store.now.next a.next (length r.choices) (let e = f.next_is in omega (arith, e, most))) (items_here r after) (items_over r (length r.choices) after there);
      } in
      record {
        meant = following ∷ [];
        marked = (items_marked r (length r.choices) after there, tt);
        are = subst (λ cs. AreMeant more r.store.now.bound r.store.now.next (length r.choices) cs (following ∷ [])) (sym f.is) (means, tt);
        entries = is;
        adds = f.adds;
        back = stays_there r;
      }

-- what goes on elsewhere, a catch, and a findall
module _ (r : RegionView) (after : Position) (next : ℕ) (valid : IsValidStore r.store) (nothing : NothingExtends) (there : IsPositionIn r after) (lists more : ItemLists) (a : Alternatives) (values : AreAlternativesIn r a)
    (taken : List CapturedAlternative) (f : CapturesFollowing r lists more after next taken) where
  one : length taken ≡ 1
  one = ap (λ (cs : List CapturedAlternative). length cs) f.is

  same_next : (x : CapturedAlternative) → taken ≡ x ∷ [] → x.next ≡ next
  same_next x is = ap (λ (y : CapturedAlternative). y.next) (same_from_push [] [] x f.alternative (sym is ∙ f.is)).1 ∙ f.next_is

  value_below : (value : BindingCell) (t : Term) (most : ℕ) → IsValueIn r.store value → t ≡ value_term r.store value → r.store.now.next ≤ most → var_bound t ≤ most
  value_below value t most v is le = let b = term_below (text_in r.store) r.store.now.next value v in let e = ap var_bound is in omega (arith, b, e, le)

  abbrev goes_on : List NamedTerm → ℕ → Continuation ℕ
  goes_on named n = meant_continuation (heights_of named r) named (record { items = items_here r after; bound = r.store.now.bound; next = n })

  pub elsewhere_captured : next ≡ r.store.now.next → a ≡ Elsewhere → CapturesGroup r r lists more a after Choice taken
  elsewhere_captured same is = record {
    captures =
        following_captured r after next valid nothing there (omega (arith, same)) Choice a lists more taken
        (λ named. ap (λ b. entries_here r b after named) is ∙ ap (λ n. PlainEntry (goes_on named n) ∷ []) (sym same)) f;
    alone = tt;
    guard = λ g. one;
    terms = λ x e. tt;
    results = tt;
  }

  pub catch_captured : (catcher recovery : BindingCell) (ball goal : Term) → next ≡ r.store.now.next → ball ≡ value_term r.store catcher → goal ≡ value_term r.store recovery → a ≡ CatchOf catcher recovery → CapturesGroup r r lists more a after (Catch ball goal) taken
  catch_captured catcher recovery ball goal same ball_is goal_is is = record {
    captures =
        following_captured r after next valid nothing there (omega (arith, same)) (Catch ball goal) a lists more taken
        (λ named.
        ap (λ b. entries_here r b after named) is
        ∙ (ap₂ (λ t u. CatchEntry (resolve r.store.now.bound t) (resolve r.store.now.bound u) (goes_on named r.store.now.next) ∷ []) (sym ball_is) (sym goal_is)
        ∙ ap (λ n. CatchEntry (resolve r.store.now.bound ball) (resolve r.store.now.bound goal) (goes_on named n) ∷ []) (sym same))) f;
    alone = one;
    guard = λ g. one;
    terms = λ x e.
        let most : r.store.now.next ≤ x.next = let n = same_next x e in omega (arith, n, same) in
        let v = subst (AreAlternativesIn r) is values in
        (value_below catcher ball x.next v.0 ball_is most, value_below recovery goal x.next v.1 goal_is most);
    results = tt;
  }

  -- what is bound does not reach the results
  results_stay : (ts : List Term) → Each (IsNumberedFrom r.store.now.next) ts → map (resolve r.store.now.bound) ts ≡ ts
  results_stay [] h = refl
  results_stay (t ∷ ts) h = ap₂ (λ u us. u ∷ us) (h.0 r.store.now.bound valid.new) (results_stay ts h.1)

  pub findall_captured : (list : BindingCell) (results : ResultsView) (whole : Term) (terms : Vec Term Global) → next ≡ results.next → whole ≡ value_term r.store list → terms.items ≡ results.terms → a ≡ FindallOf list results
      → CapturesGroup r r lists more a after (Findall whole terms) taken
  findall_captured list results whole terms same whole_is terms_are is =
      let v = subst (AreAlternativesIn r) is values in
      let most : r.store.now.next ≤ results.next = v.1.next in
      let same_results : results.terms ≡ map (resolve r.store.now.bound) terms.items
      = sym (results_stay results.terms v.1.above) ∙ ap (map (resolve r.store.now.bound)) (sym terms_are) in
      record {
        captures =
            following_captured r after next valid nothing there (omega (arith, same, most)) (Findall whole terms) a lists more taken
            (λ named.
            ap (λ b. entries_here r b after named) is
            ∙ (ap₂ (λ t ts. FindallEntry ts (resolve r.store.now.bound t) (goes_on named results.next) ∷ []) (sym whole_is) same_results
            ∙ ap (λ n. FindallEntry (map (resolve r.store.now.bound) terms.items) (resolve r.store.now.bound whole) (goes_on named n) ∷ []) (sym same))) f;
        alone = one;
        guard = λ g. one;
        terms = λ x e.
            let n : x.next ≡ results.next = same_next x e ∙ same in
            (value_below list whole x.next v.0 whole_is (omega (arith, n, most)), subst (λ y. Each (λ t. var_bound t ≤ y) terms.items) (sym n) (subst (Each (λ t. var_bound t ≤ results.next)) (sym terms_are) v.1.below));
        results = subst (Each (IsNumberedFrom r.store.now.next)) (sym terms_are) v.1.above;
      }

as_long : (more : ItemLists) (before : Substitution) (first cut : ℕ) (taken : List CapturedAlternative) (ms : List MeantAlternative) → AreMeant more before first cut taken ms → length taken ≡ length ms
as_long more before first cut [] [] k = refl
as_long more before first cut [] (m ∷ ms) k = absurd k
as_long more before first cut (a ∷ taken) [] k = absurd k
as_long more before first cut (a ∷ taken) (m ∷ ms) k = let e = as_long more before first cut taken ms k.1 in omega (arith, e)

-- what alternatives have left, by what they mean
items_reached : (next : ℕ) (seen : List Bool) (lists : ItemLists) (before : Substitution) (first cut : ℕ) (taken : List CapturedAlternative) (ms : List MeantAlternative) → AreMeant lists before first cut taken ms → Each (ReachesAlternative next seen lists) taken
    → Each (λ (m : MeantAlternative). Each (IsItemReached next seen) m.items) ms
items_reached next seen lists before first cut [] [] k r = tt
items_reached next seen lists before first cut [] (m ∷ ms) k r = absurd k
items_reached next seen lists before first cut (a ∷ taken) [] k r = absurd k
items_reached next seen lists before first cut (a ∷ taken) (m ∷ ms) k r = (r.0.items m.items k.0.items, items_reached next seen lists before first cut taken ms k.1 r.1)

pub numbers_within : (lists : ItemLists) (before : Substitution) (first cut : ℕ) (taken : List CapturedAlternative) (ms : List MeantAlternative) → AreMeant lists before first cut taken ms → Each (λ (a : CapturedAlternative). a.first < length lists) taken
numbers_within lists before first cut [] ms k = tt
numbers_within lists before first cut (a ∷ taken) [] k = absurd k
numbers_within lists before first cut (a ∷ taken) (m ∷ ms) k = (has_within lists a.first m.items k.0.items, numbers_within lists before first cut taken ms k.1)

-- the newest choice point
module _ (old r new : RegionView) (c : ChoicePoint) (takes : TakesNewest old r c) (lists more : ItemLists) (choice : CapturedChoice) (group : CapturesGroup r new lists more c.alternatives c.after choice.kind choice.alternatives.items) (mark : ℕ) (under : mark + 1 ≡ length r.choices)
    (many : length r.store.marks ≡ length r.choices) (valid : IsValidStore r.store) (was seen : List Bool) (since : KeepsSince new.store mark was seen choice.below) (kind : IsKindReached new.store.now.next seen choice.kind) (reached : Each (ReachesAlternative new.store.now.next seen more) choice.alternatives.items)
    (next : choice.next ≡ r.store.now.next) where
  abbrev meant : MeantChoice
  meant = record { kind = choice.kind; came = bound_at r.store.now; alternatives = group.captures.meant }

  same_count : length r.choices ≡ length new.choices
  same_count = ap (λ (cs : List ChoicePoint). length cs) (sym group.captures.back.choices)

  same_now : new.store.now ≡ r.store.now
  same_now = group.captures.back.now

  after_next : new.store.now.next ≡ choice.next
  after_next = ap (λ (m : Moment). m.next) same_now ∙ sym next

  captured : (before : List Moment) (m : Moment) → new.store.marks ≡ before ++ m ∷ [] → KeepsChoice more (bound_at m) (length new.choices) seen choice meant
  captured before m are =
      let marks : r.store.marks ≡ before ++ m ∷ [] = sym group.captures.back.marks ∙ are in
      let long = ap (λ (ms : List Moment). length ms) marks in
      let level = since.level m (record { before = before; after = []; are = are; over = omega (arith, long, many, under, length-append before (m ∷ [])) }) in
      record {
        kind = refl;
        level = subst (λ (t : Moment). KeepsLevel (bound_at m) (bound_at t) seen choice.below) same_now level;
        next = sym next;
        final = valid.final;
        alternatives = subst (λ n. AreMeant more r.store.now.bound choice.next n choice.alternatives.items group.captures.meant) same_count (subst (λ n. AreMeant more r.store.now.bound n (length r.choices) choice.alternatives.items group.captures.meant) (sym next) group.captures.are);
        terms = group.terms;
        alone = subst (IsAloneOf choice.kind) (as_long more r.store.now.bound r.store.now.next (length r.choices) choice.alternatives.items group.captures.meant group.captures.are) group.alone;
        items = subst (λ n. Each (λ (a : MeantAlternative). Each (IsItemReached n seen) a.items) group.captures.meant) after_next (items_reached new.store.now.next seen more r.store.now.bound r.store.now.next (length r.choices) choice.alternatives.items group.captures.meant group.captures.are reached);
        bindings = subst (λ n. Each (AreBindingsReached n seen) choice.alternatives.items) after_next (each-more (ReachesAlternative new.store.now.next seen more) (AreBindingsReached new.store.now.next seen) (λ a k. k.bindings) choice.alternatives.items reached);
        guard = subst (λ n. IsKindReached n seen choice.kind) after_next kind;
        results = subst (λ n. HasResultsFrom n choice.kind) (sym next) group.results;
      }

  group_is : (named : List NamedTerm) → entries_here r c.alternatives c.after named ≡ group_entries (heights_of named old) named meant
  group_is named =
      group.captures.entries named
      ∙ (append-nil (map (meant_entry choice.kind (heights_of named r) named) group.captures.meant)
      ∙ same_entries more r.store.now.bound r.store.now.next (length r.choices) choice.kind (heights_of named r) (heights_of named old) named choice.alternatives.items group.captures.meant (takes.heights named) group.captures.are)

  pub newest_captured : CapturesNewest old new lists more was seen choice
  newest_captured = record {
    meant = meant;
    captures = captured;
    sees = since.below;
    long = since.long;
    came = ap bound_at (sym group.captures.back.now);
    marked = takes.marked ∙ ap₂ (λ (ms : List Moment) (m : Moment). ms ++ m ∷ []) (sym group.captures.back.marks) (sym group.captures.back.now);
    entries = λ named. takes.entries named ∙ ap₂ (λ es fs. es ++ fs) (group_is named) (sym (group.captures.back.entries named));
    heights = λ named n le. group.captures.back.heights named n (let e = same_count in omega (arith, le, e)) ∙ takes.heights named n (let e = same_count in omega (arith, le, e));
    newest = c;
    guard = λ g. sym (as_long more r.store.now.bound r.store.now.next (length r.choices) choice.alternatives.items group.captures.meant group.captures.are) ∙ group.guard g;
    marks = subst (λ (cs : List ChoicePoint). Each (HasMarksAt cs) group.captures.meant) (sym takes.choices) (each-more (HasMarksAt r.choices) (HasMarksAt (r.choices ++ c ∷ [])) (λ m. later_marks r.choices (c ∷ []) m.items) group.captures.meant group.captures.marked);
    choices = takes.choices ∙ ap (λ (cs : List ChoicePoint). cs ++ c ∷ []) (sym group.captures.back.choices);
    text = group.captures.back.text ∙ takes.text;
    adds = group.captures.adds;
  }

pub own_on_top : (old r : RegionView) (c : ChoicePoint) → TakesNewest old r c → HasOwnOnTop old → IsEnd c.alternatives → ⊥
own_on_top old r c takes own = own r.choices c takes.choices
