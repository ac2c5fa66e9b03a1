-- What trying a solution leaves.
use Rattle.std.proofs.Common.{◌≡◌, ℕ, ◌+◌, List, [], ◌∷◌, ◌++◌, append_assoc, length, length-append, map, Option, Some, None, refl, sym, ap, ap₂, ◌∙◌, subst, arith}
use Rattle.std.proofs.lemmas.List.{map-append}
use Rattle.au_term.specs.Term.{Term}
use Rattle.au_model.specs.Terms.Named.{NamedTerm}
use Rattle.au_model.specs.Terms.Substitutions.{Substitution, resolve}
use Rattle.au_model.specs.Terms.Unifier.{unifier}
use Rattle.run_model.specs.Machine.Items.{Item, GoalItem, Continuation, before, goals_at, removal_items, removing, with_items, with_next, resolve_continuation, resolve_item}
use Rattle.run_model.specs.Machine.Entries.{Entry, PlainEntry, unified, solution_entry, solution_entries}
use Rattle.cell_store.specs.StoreView.{StoreView, text_in, with_numbers, with_mark}
use Rattle.region_split.specs.Solutions.{SolutionView, solution_at}
use Rattle.region_split.specs.SolutionTrials.{AreAllSolved, equations_here, TriesSolution, Solves}
use Rattle.region_split.specs.Frames.{item_in}
use Rattle.region_split.specs.ChoicePoints.{Standing, height_of_cut, by_height, alternative_entries, continuation_at}
use Rattle.region_split.specs.Regions.{RegionView, left_here, region_setting, entries_of, heights_of, continuation_here, IsPositionIn, IsPositionOver}
use Rattle.region_split.specs.StackOperations.{StaysStanding, PutsBefore, PutsGoals, AddsChoice, solution_here, solved_entries}
use Rattle.region_split.specs.declared.choice.Alternatives.TheVariants.{Solutions}
use Rattle.region_split.specs.declared.frame.Position.{Position}
use Rattle.region_split.proofs.CallLemmas.{position_over}
use Rattle.region_split.proofs.ScopeLemmas.{items_kept}
use Rattle.region_split.proofs.StoreLemmas.{stays_further}
use Rattle.region_split.proofs.SolvedLemmas.{stays_twice}
use Rattle.region_split.proofs.TrialLemmas.{items_twice, named_twice}

-- items with bindings applied
resolved_before : (s : Substitution) (is : List (Item ℕ)) (f : Continuation ℕ) → resolve_continuation s (before is f) ≡ before (map (resolve_item s) is) (resolve_continuation s f)
resolved_before s is f = ap (λ items. with_items items (resolve_continuation s f)) (map-append (resolve_item s) is f.items)

goals_resolved : (s : Substitution) (height : ℕ) (goals : List Term) → goals_at height (map (resolve s) goals) ≡ map (resolve_item s) (goals_at height goals)
goals_resolved s height [] = refl
goals_resolved s height (t ∷ goals) = ap (λ is. GoalItem (resolve s t) height ∷ is) (goals_resolved s height goals)

removal_resolved : (s : Substitution) (removes : Option ℕ) → ◌≡◌ {A = List (Item ℕ)} (map (resolve_item s) (removal_items removes)) (removal_items removes)
removal_resolved s None = refl
removal_resolved s (Some number) = refl

module _ (r r1 r2 : RegionView) (solution : SolutionView) (after : Position) (cut : ℕ) (position : IsPositionOver r cut after) (widened : r1 ≡ record r { store = with_numbers solution.variables r.store }) where
  abbrev wide : RegionView
  wide = record r { store = with_numbers solution.variables r.store }

  abbrev following : List NamedTerm → Continuation ℕ
  following named = let f = continuation_here named r after in with_next (f.next + solution.variables) f

  -- the equations unify nowhere
  pub none_tried : unifier (equations_here r1 solution.equations) ≡ None → StaysStanding r1 r2 → TriesSolution r r2 solution after cut None
  none_tried none stays =
      let here : unifier (equations_here r solution.equations) ≡ None = subst (λ (x : RegionView). unifier (equations_here x solution.equations) ≡ None) widened none in
      let all = stays_twice r wide r2 (stays_further r solution.variables) (subst (λ (x : RegionView). StaysStanding x r2) widened stays) in
      record {
        entries = λ named.
            let f = continuation_here named r after in
            let meant = goals_at (height_of_cut (heights_of named r) cut) (map (resolve r.store.now.bound) solution.goals) in
            ap (λ o. unified o (with_next (f.next + solution.variables) (before meant (removing solution.removes f)))) here;
        position = tt;
        stands = all.stands;
        choices = ap (λ (x : RegionView). x.choices) all.others;
        marks = all.marks;
        text = ap (λ (x : RegionView). x.text) all.others;
        floor = all.floor;
      }

  module _ (solved : AreAllSolved r1 r2 (equations_here r1 solution.equations)) where
    here : AreAllSolved wide r2 (equations_here r solution.equations)
    here = subst (λ (x : RegionView). AreAllSolved x r2 (equations_here x solution.equations)) widened solved

    abbrev all : StaysStanding r r2
    all = stays_twice r wide r2 (stays_further r solution.variables) here.stays

    same_left : left_here r2 after ≡ left_here r after
    same_left = ap (λ (x : RegionView). left_here x after) all.others

    continued : (named : List NamedTerm) → continuation_here named r2 after ≡ resolve_continuation here.further (following named)
    continued named =
        let hs = heights_of named r in
        let items = map (by_height hs) (map (item_in (text_in r.store)) (left_here r after)) in
        let by : Substitution → ℕ → List (Item ℕ) → Continuation ℕ = λ s n is. resolve_continuation s (record { items = is; named = named; next = n }) in
        ap (λ (st : Standing). by r2.store.now.bound r2.store.now.next (map (by_height st.heights) (map (item_in (text_in r2.store)) (left_here r2 after)))) (all.stands named)
        ∙ (ap (λ left. by r2.store.now.bound r2.store.now.next (map (by_height hs) (map (item_in (text_in r2.store)) left))) same_left
        ∙ (ap (λ is. by r2.store.now.bound r2.store.now.next (map (by_height hs) is)) (items_kept (text_in r.store) (text_in r2.store) r.store.now.next cut (left_here r after) here.keeps position.scoped)
        ∙ (ap (λ n. by r2.store.now.bound n items) here.next
        ∙ same_parts (items_twice r.store.now.bound here.further r2.store.now.bound here.bound items) (named_twice r.store.now.bound here.further r2.store.now.bound here.bound named))))
      where
        same_parts : {is js : List (Item ℕ)} {vs ws : List NamedTerm} {n : ℕ} → is ≡ js → vs ≡ ws → (let f : Continuation ℕ = record { items = is; named = vs; next = n } in f) ≡ record { items = js; named = ws; next = n }
        same_parts p q = cc

    -- its goals by the heights
    abbrev own : List NamedTerm → List (Item ℕ)
    own named = goals_at (height_of_cut (heights_of named r) cut) solution.goals

    entry_is : (named : List NamedTerm) → solved_entries named r solution cut after ≡ PlainEntry (before (map (resolve_item r2.store.now.bound) (own named)) (removing solution.removes (resolve_continuation here.further (following named)))) ∷ []
    entry_is named =
        let f = continuation_here named r after in
        let s = r.store.now.bound in
        let meant = goals_at (height_of_cut (heights_of named r) cut) (map (resolve s) solution.goals) in
        ap (λ o. unified o (with_next (f.next + solution.variables) (before meant (removing solution.removes f)))) here.unified
        ∙ ap (λ g. PlainEntry g ∷ []) (resolved_before here.further meant (removing solution.removes (following named))
        ∙ ap₂ (λ is g. before is g)
        (ap (map (resolve_item here.further)) (goals_resolved s (height_of_cut (heights_of named r) cut) solution.goals) ∙ sym (items_twice s here.further r2.store.now.bound here.bound (own named)))
        (resolved_before here.further (removal_items solution.removes) (following named) ∙ ap (λ is. before is (resolve_continuation here.further (following named))) (removal_resolved here.further solution.removes)))

    module _ (r3 : RegionView) (next : Position) (removal : PutsBefore r2 r3 (λ heights. removal_items solution.removes) cut after next) where
      -- its goals are put before the removal
      pub goes_on : (r4 : RegionView) (p : Position) → PutsGoals r3 r4 solution.goals cut next p → TriesSolution r r4 solution after cut (Some p)
      goes_on r4 p put = record {
        entries = λ named.
            entry_is named
            ∙ ap (λ f. PlainEntry f ∷ []) (sym (put.goes_on named
            ∙ ap₂ (λ is f. before is f)
            (ap₂ (λ (x : RegionView) (st : Standing). map (resolve_item x.store.now.bound) (goals_at (height_of_cut st.heights cut) solution.goals)) removal.others (removal.stands named ∙ all.stands named))
            (removal.goes_on named ∙ ap (removing solution.removes) (continued named))));
        position = put.position;
        stands = λ named. put.stands named ∙ (removal.stands named ∙ all.stands named);
        choices = ap (λ (x : RegionView). x.choices) put.others ∙ (ap (λ (x : RegionView). x.choices) removal.others ∙ ap (λ (x : RegionView). x.choices) all.others);
        marks = put.adds.marks ∙ (ap (λ (x : RegionView). x.store.marks) removal.others ∙ all.marks);
        text = ap (λ (x : RegionView). x.text) put.others ∙ (ap (λ (x : RegionView). x.text) removal.others ∙ ap (λ (x : RegionView). x.text) all.others);
        floor = put.adds.floor ∙ (ap (λ (x : RegionView). x.store.floor) removal.others ∙ all.floor);
      }

-- solutions in the place of a goal
module _ (r : RegionView) (after : Position) where
  pub none_solves : (solutions : List SolutionView) → solutions ≡ [] → Solves r r solutions after None
  none_solves solutions e = record { entries = λ named. ap (λ ss. solution_entries (length (entries_of named r)) (continuation_here named r after) (map (solution_here r) ss) ++ entries_of named r) e; position = tt; text = refl; floor = refl }

  module _ (solutions : List SolutionView) (first : SolutionView) (rest : List SolutionView) (is : solutions ≡ first ∷ rest) (cut : ℕ) (count : cut ≡ length r.choices) where
    abbrev own_entry : List NamedTerm → List Entry
    own_entry named = solution_entry (length (entries_of named r)) (continuation_here named r after) (solution_here r first)

    abbrev others : List NamedTerm → List Entry
    others named = solution_entries (length (entries_of named r)) (continuation_here named r after) (map (solution_here r) rest)

    whole : (named : List NamedTerm) → solution_entries (length (entries_of named r)) (continuation_here named r after) (map (solution_here r) solutions) ++ entries_of named r ≡ own_entry named ++ (others named ++ entries_of named r)
    whole named =
        ap (λ ss. solution_entries (length (entries_of named r)) (continuation_here named r after) (map (solution_here r) ss) ++ entries_of named r) is
        ∙ append_assoc (own_entry named) (others named) (entries_of named r)

    pub last_solves : (new : RegionView) (reached : Option Position) → rest ≡ [] → ((named : List NamedTerm) → height_of_cut (heights_of named r) cut ≡ length (entries_of named r)) → TriesSolution r new first after cut reached → Solves r new solutions after reached
    last_solves new reached e height tried = record {
      entries = λ named.
          whole named
          ∙ ap₂ (λ es fs. es ++ fs) (ap (λ h. solution_entry h (continuation_here named r after) (solution_here r first)) (sym (height named)) ∙ tried.entries named)
          (ap (λ ss. solution_entries (length (entries_of named r)) (continuation_here named r after) (map (solution_here r) ss) ++ entries_of named r) e ∙ ap (λ (st : Standing). st.entries) (sym (tried.stands named)));
      position = position_over new cut (length new.choices) reached (let l = ap length tried.choices in omega (arith, l, count)) tried.position;
      text = tried.text;
      floor = tried.floor;
    }

    pub first_solves : (r1 new : RegionView) (reached : Option Position) → AddsChoice r r1 (Solutions rest) after → IsPositionIn r after → TriesSolution r1 new first after cut reached → Solves r new solutions after reached
    first_solves r1 new reached a there tried = record {
      entries = λ named.
          whole named
          ∙ ap₂ (λ es fs. es ++ fs) (same_entry named ∙ tried.entries named) (sym (ap (λ (st : Standing). st.entries) (tried.stands named) ∙ other_entries named));
      position = position_over new cut (length new.choices) reached (let l = ap length tried.choices in let o = ap (λ (x : RegionView). length x.choices) a.others in let m = length-append r.choices (a.choice ∷ []) in omega (arith, l, o, m, count)) tried.position;
      text = tried.text ∙ ap (λ (x : RegionView). x.text) a.others;
      floor = tried.floor ∙ ap (λ (x : RegionView). x.store.floor) a.others;
    }
      where
        store : r1.store ≡ with_mark r.store
        store = ap (λ (x : RegionView). x.store) a.others

        follows : (named : List NamedTerm) → continuation_here named r1 after ≡ continuation_here named r after
        follows named = let same = a.keeps.same named after there.frame there in cc

        own_height : (named : List NamedTerm) → height_of_cut (heights_of named r1) cut ≡ length (entries_of named r)
        own_height named = ap (height_of_cut (heights_of named r1)) count ∙ a.heights named

        same_entry : (named : List NamedTerm) → own_entry named ≡ solved_entries named r1 first cut after
        same_entry named = sym
            (ap₂ (λ h f. solution_entry h f (solution_here r1 first)) (own_height named) (follows named)
            ∙ ap (λ (x : StoreView). solution_entry (length (entries_of named r)) (continuation_here named r after) (solution_at (text_in x) x.now.bound first)) store)

        other_entries : (named : List NamedTerm) → entries_of named r1 ≡ others named ++ entries_of named r
        other_entries named =
            a.entries named
            ∙ ap₂ (λ alternatives p. alternative_entries (region_setting named r) r.store.now (length (entries_of named r)) (continuation_at (region_setting named r) (heights_of named r) r.store.now p) alternatives ++ entries_of named r) a.is.0 a.is.1
