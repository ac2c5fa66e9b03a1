-- What trying a clause leaves.
use Rattle.std.proofs.Common.{◌≡◌, ℕ, ◌+◌, ◌<◌, ◌≤◌, List, [], ◌∷◌, ◌++◌, length, map, drop, slice_get, Option, Some, None, refl, sym, ap, ap₂, ◌∙◌, subst, arith}
use Rattle.std.proofs.lemmas.List.{map-append}
use Rattle.au_term.specs.Term.{Term, var_bound}
use Rattle.au_term.specs.Shifted.{shifted}
use Rattle.au_model.specs.Terms.Named.{NamedTerm}
use Rattle.au_model.specs.Terms.Substitutions.{Substitution, apply, value_of, resolve}
use Rattle.au_model.specs.Terms.Unifier.{unifier}
use Rattle.au_model.specs.Terms.Each.{Each}
use Rattle.au_model.proofs.EachLemmas.{each-more}
use Rattle.au_model.proofs.ApplyLemmas.{apply-same, apply-apply}
use Rattle.au_model.proofs.EquationsInTurnLemmas.{resolve-nothing}
use Rattle.au_model.proofs.VariableBoundLemmas.{apply-below}
use Rattle.run_model.specs.Programs.Bodies.{clause_goals_of}
use Rattle.run_model.specs.Programs.Clauses.{Clause, clause_renaming, clause_takes, renamed_head, renamed_goals}
use Rattle.run_model.specs.Machine.Items.{Item, GoalItem, CatchMark, CollectMark, RemovalItem, Continuation, before, removing, with_next, goals_at, resolve_item, resolve_named, resolve_continuation}
use Rattle.run_model.specs.Machine.Entries.{Entry, PlainEntry, unified}
use Rattle.clause_compile.specs.Places.{CodeView, Keeps, AreSound, IsPlaceOf, meaning_in}
use Rattle.clause_compile.specs.declared.place.Place.{Place}
use Rattle.clause_compile.proofs.PlaceMeaningLemmas.{added_keeps}
use Rattle.clause_compile.proofs.RenumberingLemmas.{length-numbers}
use Rattle.binding_array.specs.declared.cell.BindingCell.{BindingCell}
use Rattle.cell_store.specs.UnificationSteps.{OnlyBinds, AreUnified}
use Rattle.cell_store.specs.StoreView.{Moment, StoreView, IsValidStore, IsValueIn, IsComposition, text_in, value_term, meaning, with_numbers, with_substitution}
use Rattle.cell_store.proofs.CellMeaningLemmas.{term_below}
use Rattle.cell_store.proofs.UndoingLemmas.{map-same}
use Rattle.region_split.specs.ChoicePoints.{height_of_cut, by_height, AreMarked}
use Rattle.region_split.specs.Frames.{LeftItem, PlacedGoal, item_in, body_left, own_body_left, AreLeftScoped}
use Rattle.region_split.specs.Texts.{TextView, body_items, IsPlacedClause}
use Rattle.region_split.specs.Regions.{RegionView, left_here, items_here, heights_of, continuation_here, IsPositionOver}
use Rattle.region_split.specs.StackOperations.{AddsFrame, StaysStanding, trial_entries}
use Rattle.region_split.specs.ClauseTrials.{TriesClause}
use Rattle.region_split.specs.declared.choice.ChoicePoint.{ChoicePoint}
use Rattle.region_split.specs.declared.choice.Trial.{Trial}
use Rattle.region_split.specs.declared.frame.Frame.{Frame}
use Rattle.region_split.specs.declared.frame.FrameBody.TheVariants.{Text as FrameText}
use Rattle.region_split.specs.declared.frame.Position.{Position}
use Rattle.region_split.specs.declared.text.BodyItem.{BodyItem}
use Rattle.region_split.specs.declared.text.BodyItem.TheVariants.{BodyEnd}
use Rattle.region_split.specs.declared.text.PlacedClause.{PlacedClause}
use Rattle.region_split.proofs.ClauseLemmas.{AreBelow, shifted_within, part_renamed, goals_within}
use Rattle.region_split.proofs.CandidateLemmas.{is_there}
use Rattle.region_split.proofs.FrameLemmas.{read_on}
use Rattle.region_split.proofs.ScopeLemmas.{scoped_further}

pub same_parts : {is js : List (Item ℕ)} {vs ws : List NamedTerm} {m n : ℕ} → is ≡ js → vs ≡ ws → m ≡ n → (let f : Continuation ℕ = record { items = is; named = vs; next = m } in f) ≡ record { items = js; named = ws; next = n }
same_parts e f g = cc

-- nothing is bound
item_same : (i : Item ℕ) → resolve_item [] i ≡ i
item_same (GoalItem t h) = ap (λ u. GoalItem u h) (resolve-nothing t)
item_same (CatchMark h) = refl
item_same (CollectMark t h) = ap (λ u. CollectMark u h) (resolve-nothing t)
item_same (RemovalItem number) = refl

pub items_same : (is : List (Item ℕ)) → map (resolve_item []) is ≡ is
items_same [] = refl
items_same (i ∷ is) = ap₂ (λ j js. j ∷ js) (item_same i) (items_same is)

pub named_same : (vs : List NamedTerm) → map (resolve_named []) vs ≡ vs
named_same [] = refl
named_same (v ∷ vs) = ap₂ (λ t ws. (let w : NamedTerm = record v { term = t } in w) ∷ ws) (resolve-nothing v.term) (named_same vs)

-- goals whose variables begin further up, in one scope
abbrev goals_from : ℕ → ℕ → List Term → List (Item ℕ)
goals_from base cut ts = map (λ t. GoalItem (shifted base t) cut) ts

-- the same as they are left of the text's bodies
abbrev placed_from : ℕ → ℕ → List Place → List LeftItem
placed_from base cut goals = map (λ g. PlacedGoal g base cut) goals

-- what is left of a body from its place on
body_read : (base cut : ℕ) (goals : List Place) (following : List BodyItem) → body_left base cut (body_items goals ++ following) ≡ placed_from base cut goals
body_read base cut [] following = refl
body_read base cut (g ∷ goals) following = ap (λ is. PlacedGoal g base cut ∷ is) (body_read base cut goals following)

placed_items : (code : CodeView) (base cut : ℕ) (goals : List Place) → map (item_in code) (placed_from base cut goals) ≡ goals_from base cut (map (meaning_in code) goals)
placed_items code base cut [] = refl
placed_items code base cut (g ∷ goals) = ap (λ is. GoalItem (shifted base (meaning_in code g)) cut ∷ is) (placed_items code base cut goals)

goals_scoped : (code : CodeView) (base k cut n : ℕ) (goals : List Place) (left : List LeftItem) → base + k ≤ n → Each (IsPlaceOf code) goals → AreBelow k (map (meaning_in code) goals) → AreLeftScoped code n cut left → AreLeftScoped code n cut (placed_from base cut goals ++ left)
goals_scoped code base k cut n [] left le there b s = s
goals_scoped code base k cut n (g ∷ goals) left le there b s =
    (omega arith, (there.0, (let w = shifted_within base k (meaning_in code g) b.0 in omega (arith, w, le))), goals_scoped code base k cut n goals left le there.1 b.1 s)

goals_marked : (choices : List ChoicePoint) (base cut : ℕ) (goals : List Place) (left : List LeftItem) → AreMarked choices left → AreMarked choices (placed_from base cut goals ++ left)
goals_marked choices base cut [] left m = m
goals_marked choices base cut (g ∷ goals) left m = (tt, goals_marked choices base cut goals left m)

-- bindings that come on top of others
module _ (s further now : Substitution) (bound : IsComposition s further now) where
  pub resolved_twice : (t : Term) → resolve now t ≡ resolve further (resolve s t)
  resolved_twice t = apply-same (value_of now) (λ n. resolve further (value_of s n)) bound t ∙ sym (apply-apply (value_of further) (value_of s) t)

  item_twice : (i : Item ℕ) → resolve_item now i ≡ resolve_item further (resolve_item s i)
  item_twice (GoalItem t h) = ap (λ u. GoalItem u h) (resolved_twice t)
  item_twice (CatchMark h) = refl
  item_twice (CollectMark t h) = ap (λ u. CollectMark u h) (resolved_twice t)
  item_twice (RemovalItem number) = refl

  pub items_twice : (is : List (Item ℕ)) → map (resolve_item now) is ≡ map (resolve_item further) (map (resolve_item s) is)
  items_twice [] = refl
  items_twice (i ∷ is) = ap₂ (λ j js. j ∷ js) (item_twice i) (items_twice is)

  pub named_twice : (vs : List NamedTerm) → map (resolve_named now) vs ≡ map (resolve_named further) (map (resolve_named s) vs)
  named_twice [] = refl
  named_twice (v ∷ vs) = ap₂ (λ (t : Term) ws. (let w : NamedTerm = record v { term = t } in w) ∷ ws) (resolved_twice v.term) (named_twice vs)

  module _ (next k : ℕ) (c : Clause) (renames : (t : Term) → var_bound t ≤ k → resolve s (shifted next t) ≡ apply (clause_renaming c next) t) (heights : List ℕ) (cut : ℕ) where
    goals_resolved : (ts : List Term) → AreBelow k ts → map (resolve_item now) (map (by_height heights) (goals_from next cut ts)) ≡ map (resolve_item further) (goals_at (height_of_cut heights cut) (map (apply (clause_renaming c next)) ts))
    goals_resolved [] b = refl
    goals_resolved (t ∷ ts) b = ap₂ (λ u is. GoalItem u (height_of_cut heights cut) ∷ is) (resolved_twice (shifted next t) ∙ ap (resolve further) (renames t b.0)) (goals_resolved ts b.1)

    all_resolved : (ts : List Term) (items : List (Item ℕ)) → AreBelow k ts
        → map (resolve_item now) (map (by_height heights) (goals_from next cut ts ++ items)) ≡ map (resolve_item further) (goals_at (height_of_cut heights cut) (map (apply (clause_renaming c next)) ts) ++ map (resolve_item s) (map (by_height heights) items))
    all_resolved ts items b =
        let own = goals_from next cut ts in
        ap (map (resolve_item now)) (map-append (by_height heights) own items)
        ∙ (map-append (resolve_item now) (map (by_height heights) own) (map (by_height heights) items)
        ∙ (ap₂ (λ is js. is ++ js) (goals_resolved ts b) (items_twice (map (by_height heights) items))
        ∙ sym (map-append (resolve_item further) (goals_at (height_of_cut heights cut) (map (apply (clause_renaming c next)) ts)) (map (resolve_item s) (map (by_height heights) items)))))

-- a clause that is about to be tried, at its place
pub record Begins (r : RegionView) (t : Trial) (p : PlacedClause) : Type 0 where
  pub clause : Clause
  pub is : slice_get r.text.clauses t.clause ≡ Some clause
  pub placed : IsPlacedClause r.text.code r.text.bodies clause p
  pub sound : AreSound (length r.text.code.names) r.text.code.places
  pub program : r.store.program ≡ r.text.code
  pub valid : IsValidStore r.store
  pub goal : IsValueIn r.store t.goal

pub begins : (r : RegionView) (t : Trial) (p : PlacedClause) (text : TextView) (store : StoreView) → text ≡ r.text → store ≡ r.store → t.clause < length r.text.clauses → ((c : Clause) → slice_get text.clauses t.clause ≡ Some c → IsPlacedClause text.code text.bodies c p)
    → AreSound (length text.code.names) text.code.places → store.program ≡ r.text.code → IsValidStore store → IsValueIn r.store t.goal → Begins r t p
begins r t p text store same here lt placed sound program valid goal =
    let there = is_there r.text.clauses t.clause lt in
    record {
      clause = there.element;
      is = there.is;
      placed = subst (λ (x : TextView). IsPlacedClause x.code x.bodies there.element p) same (placed there.element (ap (λ (x : TextView). slice_get x.clauses t.clause) same ∙ there.is));
      sound = subst (λ (x : TextView). AreSound (length x.code.names) x.code.places) same sound;
      program = ap (λ (x : StoreView). x.program) (sym here) ∙ program;
      valid = subst IsValidStore here valid;
      goal = goal;
    }

-- a body that ends at once has no goals
no_goals : (goals : List Place) (following rest : List BodyItem) → body_items goals ++ following ≡ BodyEnd ∷ rest → goals ≡ []
no_goals [] following rest e = refl
no_goals (g ∷ goals) following rest e = absurd cc

module _ (r : RegionView) (t : Trial) (cut : ℕ) (p : PlacedClause) (b : Begins r t p) where
  abbrev c : Clause
  c = b.clause

  abbrev next : ℕ
  next = r.store.now.next

  abbrev wide : StoreView
  wide = with_numbers p.vars r.store

  keeps : Keeps r.text.code (text_in r.store)
  keeps =
      let s = r.store in
      subst (λ (code : CodeView). Keeps code (text_in s)) b.program
      (added_keeps s.program.names s.names s.program.places s.now.made (subst (λ (code : CodeView). AreSound (length code.names) code.places) (sym b.program) b.sound))

  head_means : meaning_in (text_in wide) p.head ≡ c.head
  head_means = (keeps.same p.head b.placed.head_there).1 ∙ b.placed.head

  head_within : var_bound c.head ≤ p.vars
  head_within = let w = b.placed.below in omega (arith, w)

  body_within : var_bound c.body ≤ p.vars
  body_within = let w = b.placed.below in omega (arith, w)

  renames : (u : Term) → var_bound u ≤ p.vars → resolve r.store.now.bound (shifted next u) ≡ apply (clause_renaming c next) u
  renames u le = part_renamed r.store.now.bound next p.vars c u b.placed.numbered b.valid.new le

  pub head_there : IsPlaceOf (text_in wide) p.head
  head_there = (keeps.same p.head b.placed.head_there).0

  pub head_below : var_bound (shifted next (meaning_in (text_in wide) p.head)) ≤ wide.now.next
  head_below = subst (λ u. var_bound (shifted next u) ≤ wide.now.next) (sym head_means) (shifted_within next p.vars c.head head_within)

  pub goal_older : var_bound (meaning wide t.goal) ≤ next
  goal_older = apply-below (value_of r.store.now.bound) next next b.valid.below (value_term r.store t.goal) (term_below (text_in r.store) next t.goal b.goal)

  module _ (head : BindingCell) (value : value_term wide head ≡ shifted next (meaning_in (text_in wide) p.head)) where
    head_is : meaning wide head ≡ renamed_head c next
    head_is = ap (resolve r.store.now.bound) (value ∙ ap (shifted next) head_means) ∙ renames c.head head_within

    abbrev left : List NamedTerm → Continuation ℕ
    left named = let f = continuation_here named r t.after in with_next (f.next + clause_takes c) (before (goals_at (height_of_cut (heights_of named r) cut) (renamed_goals c next)) (removing None f))

    by_unifier : (o : Option Substitution) → unifier ((meaning wide t.goal, meaning wide head) ∷ []) ≡ o → (named : List NamedTerm) → trial_entries named r t cut c ≡ unified o (left named)
    by_unifier o e named = ap (λ u. unified u (left named)) (ap (λ u. unifier ((meaning r.store t.goal, u) ∷ [])) (sym head_is) ∙ e)

    -- the store once something is bound
    abbrev with_bound : Substitution → RegionView
    with_bound now = record r { store = with_substitution now wide }

    pub not_unified : (now : Substitution) → unifier ((meaning wide t.goal, meaning wide head) ∷ []) ≡ None → TriesClause r (with_bound now) t cut None
    not_unified now e = record { clause = c; is = b.is; entries = by_unifier None e; position = tt; frames = λ _. refl }

    module _ (further now : Substitution) (is_unifier : unifier ((meaning wide t.goal, meaning wide head) ∷ []) ≡ Some further) (bound : IsComposition r.store.now.bound further now) (after : IsPositionOver r cut t.after) where
      abbrev own : List (Item ℕ)
      own = goals_from next cut (clause_goals_of c.body)

      abbrev own_placed : List LeftItem
      own_placed = placed_from next cut b.placed.goals

      abbrev items_after : List (Item ℕ)
      items_after = items_here r t.after

      own_means : map (meaning_in (text_in r.store)) b.placed.goals ≡ clause_goals_of c.body
      own_means = map-same (IsPlaceOf r.text.code) (meaning_in (text_in r.store)) (meaning_in r.text.code) (λ g there. (keeps.same g there).1) b.placed.goals b.placed.goals_there ∙ b.placed.mean

      all_items : map (item_in (text_in r.store)) (own_placed ++ left_here r t.after) ≡ own ++ items_after
      all_items =
          map-append (item_in (text_in r.store)) own_placed (left_here r t.after)
          ∙ ap (λ is. is ++ items_after) (placed_items (text_in r.store) next cut b.placed.goals ∙ ap (goals_from next cut) own_means)

      takes : next + p.vars ≡ next + clause_takes c
      takes = ap (λ n. next + n) (sym (ap length b.placed.numbered ∙ length-numbers 0 p.vars))

      -- what is left by these heights, in the store as it is now
      abbrev entry_by : List NamedTerm → List ℕ → Moment → List (Item ℕ) → Entry
      entry_by named heights m items = PlainEntry (resolve_continuation m.bound (record { items = map (by_height heights) items; named = named; next = m.next }))

      is_entry : (named : List NamedTerm) → trial_entries named r t cut c ≡ entry_by named (heights_of named r) (with_bound now).store.now (own ++ items_after) ∷ []
      is_entry named =
          by_unifier (Some further) is_unifier named
          ∙ ap (λ f. PlainEntry f ∷ []) (sym (same_parts (all_resolved r.store.now.bound further now bound next p.vars c renames (heights_of named r) cut (clause_goals_of c.body) items_after (goals_within p.vars c.body body_within))
          (named_twice r.store.now.bound further now bound named) takes))

      scoped : AreLeftScoped (text_in r.store) (next + p.vars) cut (own_placed ++ left_here r t.after)
      scoped =
          goals_scoped (text_in r.store) next p.vars cut (next + p.vars) b.placed.goals (left_here r t.after) (omega arith)
          (each-more (IsPlaceOf r.text.code) (IsPlaceOf (text_in r.store)) (λ g there. (keeps.same g there).0) b.placed.goals b.placed.goals_there)
          (subst (AreBelow p.vars) (sym own_means) (goals_within p.vars c.body body_within))
          (scoped_further (text_in r.store) next (next + p.vars) cut (left_here r t.after) (omega arith) after.scoped)

      whole_body : body_left next cut (drop p.body r.text.bodies) ≡ own_placed
      whole_body = ap (body_left next cut) b.placed.body ∙ body_read next cut b.placed.goals b.placed.following

      pub body_tried : (new : RegionView) (f : Frame) (number : ℕ) → f ≡ record { body = FrameText next; cut = cut; after = t.after } → AddsFrame (with_bound now) new f number → TriesClause r new t cut (Some (record { frame = number; at = p.body }))
      body_tried new f number made a =
          let pos : Position = record { frame = number; at = p.body } in
          let left : left_here new pos ≡ own_placed ++ left_here r t.after = a.left p.body ∙ (ap (λ (g : Frame). own_body_left r.text.bodies g.body g.cut p.body ++ left_here r g.after) made ∙ ap (λ xs. xs ++ left_here r t.after) whole_body) in
          let code : text_in new.store ≡ text_in r.store = ap (λ (x : RegionView). text_in x.store) a.others in
          let items : items_here new pos ≡ own ++ items_after = ap (λ xs. map (item_in (text_in new.store)) xs) left ∙ (ap (λ x. map (item_in x) (own_placed ++ left_here r t.after)) code ∙ all_items) in
          let store : new.store.now ≡ (with_bound now).store.now = ap (λ (x : RegionView). x.store.now) a.others in
          record {
            clause = c;
            is = b.is;
            entries = λ named.
                is_entry named
                ∙ ap (λ e. e ∷ []) (sym (ap (λ xs. entry_by named (heights_of named new) new.store.now xs) items
                ∙ (ap (λ m. entry_by named (heights_of named new) m (own ++ items_after)) store
                ∙ ap (λ hs. entry_by named hs (with_bound now).store.now (own ++ items_after)) (ap (λ st. st.heights) (a.stands named)))));
            position = record {
              frame = a.there;
              scoped = subst (AreLeftScoped (text_in new.store) new.store.now.next cut) (sym left)
                  (subst (λ (x : StoreView). AreLeftScoped (text_in x) x.now.next cut (own_placed ++ left_here r t.after)) (sym (ap (λ (x : RegionView). x.store) a.others)) scoped);
              marked = subst (AreMarked new.choices) (sym left) (subst (λ (x : RegionView). AreMarked x.choices (own_placed ++ left_here r t.after)) (sym a.others) (goals_marked r.choices next cut b.placed.goals (left_here r t.after) after.marked));
            };
            frames = λ e. absurd cc;
          }

      pub fact_tried : slice_get r.text.bodies p.body ≡ Some BodyEnd → TriesClause r (with_bound now) t cut (Some t.after)
      fact_tried e =
          let none : own ≡ [] = ap (goals_from next cut) (sym b.placed.mean ∙ ap (map (meaning_in r.text.code)) (no_goals b.placed.goals b.placed.following (drop (p.body + 1) r.text.bodies) (sym b.placed.body ∙ read_on r.text.bodies p.body BodyEnd e))) in
          record {
            clause = c;
            is = b.is;
            entries = λ named. is_entry named ∙ ap (λ xs. entry_by named (heights_of named r) (with_bound now).store.now (xs ++ items_after) ∷ []) none;
            position = record { frame = after.frame; scoped = scoped_further (text_in r.store) next (next + p.vars) cut (left_here r t.after) (omega arith) after.scoped; marked = after.marked };
            frames = λ e. absurd cc;
          }

  -- the region as the calls leave it, one after another
  module _ (r1 r2 : RegionView) (st : StoreView) (base : ℕ) (head : BindingCell) (widened : r1 ≡ record r { store = wide }) (same : st ≡ r1.store) (first : base ≡ next) (value : value_term st head ≡ shifted base (meaning_in (text_in st) p.head))
      (kept : OnlyBinds r1.store r2.store) (stays : StaysStanding r1 r2) where
    abbrev now : Substitution
    now = r2.store.now.bound

    store_is : r1.store ≡ wide
    store_is = ap (λ (x : RegionView). x.store) widened

    head_value : value_term wide head ≡ shifted next (meaning_in (text_in wide) p.head)
    head_value = subst (λ n. value_term wide head ≡ shifted n (meaning_in (text_in wide) p.head)) first (subst (λ (x : StoreView). value_term x head ≡ shifted base (meaning_in (text_in x) p.head)) (same ∙ store_is) value)

    bound_is : r2 ≡ with_bound head head_value now
    bound_is = stays.others ∙ (ap (λ (x : StoreView). record r1 { store = x }) kept.others ∙ ap (λ (x : RegionView). record x { store = with_substitution now x.store }) widened)

    pub same_text : r2.text ≡ r.text
    same_text = ap (λ (x : RegionView). x.text) bound_is

    pub fails : unifier ((meaning r1.store t.goal, meaning r1.store head) ∷ []) ≡ None → TriesClause r r2 t cut None
    fails e =
        subst (λ (x : RegionView). TriesClause r x t cut None) (sym bound_is)
        (not_unified head head_value now (subst (λ (x : StoreView). unifier ((meaning x t.goal, meaning x head) ∷ []) ≡ None) store_is e))

    module _ (u : AreUnified t.goal head r1.store r2.store) (after : IsPositionOver r cut t.after) where
      is_unifier : unifier ((meaning wide t.goal, meaning wide head) ∷ []) ≡ Some u.further
      is_unifier = subst (λ (x : StoreView). unifier ((meaning x t.goal, meaning x head) ∷ []) ≡ Some u.further) store_is u.unified

      bindings : IsComposition r.store.now.bound u.further now
      bindings = subst (λ (x : StoreView). IsComposition x.now.bound u.further now) store_is u.binds.bound

      pub enters_fact : slice_get r.text.bodies p.body ≡ Some BodyEnd → TriesClause r r2 t cut (Some t.after)
      enters_fact e = subst (λ (x : RegionView). TriesClause r x t cut (Some t.after)) (sym bound_is) (fact_tried head head_value u.further now is_unifier bindings after e)

      pub enters_body : (new : RegionView) (number : ℕ) → AddsFrame r2 new (record { body = FrameText base; cut = cut; after = t.after }) number → TriesClause r new t cut (Some (record { frame = number; at = p.body }))
      enters_body new number a =
          let f : Frame = record { body = FrameText base; cut = cut; after = t.after } in
          body_tried head head_value u.further now is_unifier bindings after new f number (ap (λ n. (let g : Frame = record { body = FrameText n; cut = cut; after = t.after } in g)) first)
          (subst (λ (x : RegionView). AddsFrame x new f number) bound_is a)
