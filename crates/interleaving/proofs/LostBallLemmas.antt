-- A ball that nothing catches: the end of its query is left after one credit.
use Rattle.std.proofs.Common.{◌≡◌, ℕ, ◌+◌, ◌==◌, Bool, true, false, cond, List, [], ◌∷◌, ◌++◌, map, Option, Some, None, refl, sym, ap}
use Rattle.std.proofs.Common.{◌∙◌, subst, arith}
use Rattle.std.specs.Prelude.{min}
use Rattle.au_term.specs.Term.{Term}
use Rattle.au_model.specs.Terms.Each.{Each}
use Rattle.run_model.specs.Programs.Clauses.{Clause}
use Rattle.run_model.specs.Machine.Items.{Item, GoalItem, CatchMark, CollectMark, RemovalItem, Continuation, with_items, without_marks}
use Rattle.run_model.specs.Machine.Entries.{EndEntry}
use Rattle.tree_model.specs.Credits.{Credit as TreeCredit, greatest, credit_of}
use Rattle.tree_model.specs.Nodes.{ChoiceNode, Status, Inner}
use Rattle.tree_model.specs.Levels.{Level, level_node, plug}
use Rattle.tree_model.specs.Floors.{query_node}
use Rattle.tree_model.specs.Orders.{levels_below}
use Rattle.tree_model.specs.Pruning.{ball_closes}
use Rattle.tree_model.specs.PendingLists.{Way, way_of, balance_on, pending_list, spent_at, front_of, back_of}
use Rattle.tree_model.specs.SoundTrees.{IsOpen}
use Rattle.tree_model.specs.CaughtTrees.{IsLastQuery}
use Rattle.tree_model.specs.Elements.{Name, Record, Element, Credit, Plain, EndOf, Catch, Findall, End}
use Rattle.interleaving.specs.Machine.{Machine, Infers, gives, freed, free_steps, run, seen}
use Rattle.interleaving.specs.Scopes.{Shared, Sought, ElementReplacement, act, scoped}
use Rattle.interleaving.specs.Quiet.{IsQuiet, inferences, records}
use Rattle.interleaving.specs.Views.{IsBlind}
use Rattle.interleaving.specs.Laws.{MayBecome}
use Rattle.interleaving.specs.HeightMachine.{HeightCredit, HeightEntry}
use Rattle.interleaving.specs.Erased.{erased}
use Rattle.interleaving.specs.Sound.{IsSound}
use Rattle.interleaving.specs.Follows.{lead, Follows}
use Rattle.interleaving.proofs.ContextLemmas.{IsAround}
use Rattle.interleaving.proofs.AppendLemmas.{append-assoc}
use Rattle.interleaving.proofs.EarlyLemmas.{early}
use Rattle.interleaving.proofs.RunFrontLemmas.{map-none}
use Rattle.interleaving.proofs.ApartLemmas.{IsSoughtApart, blind_closed, inner_unseen}
use Rattle.interleaving.proofs.InsideStepLemmas.{any_ground}
use Rattle.interleaving.proofs.CreditLawLemmas.{any-all}
use Rattle.interleaving.proofs.SoundEarlyLemmas.{sound-after, sound_exchange}
use Rattle.interleaving.proofs.ListChangeLemmas.{no_credit, records_given}
use Rattle.interleaving.proofs.RunHeightLemmas.{names_are_free}
use Rattle.interleaving.proofs.LeadLemmas.{lead-quiet}
use Rattle.interleaving.proofs.QuietCreditLemmas.{gives-fixed}
use Rattle.interleaving.proofs.ClockLemmas.{AreShut, AreClear, quiet-append, inferences-append, front_quiet}
use Rattle.interleaving.proofs.FoldLemmas.{credit_counted}
use Rattle.interleaving.proofs.WakeLemmas.{after_wake}
use Rattle.interleaving.proofs.EndLemmas.{has_end, end_after}
use Rattle.interleaving.proofs.ListEndLemmas.{levels_down}
use Rattle.interleaving.proofs.FrontCloseLemmas.{bare}
use Rattle.interleaving.proofs.BallLevelLemmas.{ball_credit, wakes_in, ball_closes_at, FirstShut, clear_step}
use Rattle.interleaving.proofs.BallPlaceLemmas.{QueryAt}
use Rattle.interleaving.proofs.LowerListLemmas.{lower_front, front_split, ball_credit_counts, ball_credit_low}
use Rattle.interleaving.proofs.QueryLastLemmas.{RightsNone, rights_none, OnlyEnds, back_ends, ends_given, ends_erased, query_clear}
use Rattle.interleaving.proofs.GatePrivateLemmas.{wakes_bare}
use Rattle.interleaving.proofs.FrontStepLemmas.{bare_sound}
use Rattle.au_term.proofs.LogicLemmas.{false_true}

-- clear below a node and above it
clear_join : (s : ℕ) (levels : List Level) → AreClear (levels_below (Some s) levels) → AreClear (levels_down levels s) → AreClear levels
clear_join s [] h k = tt
clear_join s (v ∷ up) h k = go (v.number == s) refl k (λ c l. clear_join s up c l)
  where
    go : (b : Bool) → (v.number == s) ≡ b → AreClear (cond b (v ∷ up) (levels_down up s))
        → (AreClear (levels_below (Some s) up) → AreClear (levels_down up s) → AreClear up) → AreClear (v ∷ up)
    go true e k more = k
    go false e k more = let c = clear_step s v up e h in (c.0, more c.1 k)

-- catch marks in front of what is taken go by themselves
module _ (clauses : List Clause) where
  abbrev m : Machine Shared Element Sought Record
  m = scoped clauses

  stands_up : (x : Element) (q : ElementReplacement) (zs : List Element) → act clauses x ≡ Infers q → free_steps m [] (x ∷ zs)
      ≡ x ∷ map (gives m []) zs
  stands_up x q zs h = ap (λ a. freed m a x (λ new. free_steps m new zs) (map (gives m []) zs)) h

  taken_unmarks : (p : Name) (f : Continuation Name) (q : ElementReplacement) (zs : List Element) → act clauses (bare clauses p f)
      ≡ Infers q
      → free_steps m [] (Plain p f ∷ zs) ≡ free_steps m [] (bare clauses p f ∷ zs)
  taken_unmarks p f q zs h = go f.items h
    where
      go : (items : List (Item Name)) → act clauses (Plain p (with_items (without_marks items) f)) ≡ Infers q
          → free_steps m [] (Plain p (with_items items f) ∷ zs) ≡ free_steps m [] (Plain p (with_items (without_marks items) f) ∷ zs)
      go [] h = refl
      go (GoalItem t s ∷ items) h = refl
      go (CollectMark t s ∷ items) h = refl
      go (RemovalItem n ∷ items) h = refl
      go (CatchMark s ∷ items) h =
          let x = Plain p (with_items (CatchMark s ∷ items) f) in
          ap (λ a. freed m a x (λ new. free_steps m new zs) (map (gives m []) zs))
          (wakes_bare clauses (without_marks items) p (with_items (CatchMark s ∷ items) f) q h)
          ∙ sym (stands_up (Plain p (with_items (without_marks items) f)) q zs h)

  pub unmarked_becomes : (inside : Name → Bool) (pre : List Element) (p : Name) (f : Continuation Name) (q : ElementReplacement)
      (zs : List Element)
      → act clauses (bare clauses p f) ≡ Infers q → Each (IsBlind inside) pre → inside p ≡ true
      → MayBecome clauses (pre ++ (Plain p f ∷ zs)) (pre ++ (bare clauses p f ∷ zs))
  unmarked_becomes inside pre p f q zs h front own =
      let one = early m (any_ground clauses) (IsBlind inside) (IsSoughtApart clauses inside) _ (blind_closed clauses inside) 0 []
      (Plain p f ∷ []) (bare clauses p f ∷ [])
      (record {
        runs = λ ys y. taken_unmarks p f q ys h ∙ ap (λ l. free_steps m [] (bare clauses p f ∷ l)) (sym (map-none m ys));
        own = refl;
        old = inner_unseen clauses inside (Plain p f ∷ []) (own, tt);
        new = inner_unseen clauses inside
            (bare clauses p f ∷ []) (own, tt);
      }) pre zs front (any-all zs) in
      let two = no_credit clauses pre (bare clauses p f ∷ zs) in
      record {
        alike = λ n w. one n w ∙ two.alike n w;
        sound = λ i. sound_exchange clauses inside pre (Plain p f ∷ []) (bare clauses p f ∷ []) zs front (own, tt) (own, tt)
            (omega arith) i (bare_sound clauses p f zs (sound-after pre (Plain p f ∷ zs) i));
      }

ends_sound : (xs : List Element) → OnlyEnds xs → IsSound xs
ends_sound [] h = tt
ends_sound (EndOf s ∷ xs) h = ends_sound xs h
ends_sound (Credit k rs ∷ xs) h = absurd h
ends_sound (Plain p f ∷ xs) h = absurd h
ends_sound (Catch s u c r p f ∷ xs) h = absurd h
ends_sound (Findall s u results list p f ∷ xs) h = absurd h
ends_sound (End p b ∷ xs) h = absurd h

module _ (clauses : List Clause) (next : ℕ) (v : Level) (above : List Level) (status : Status) (a : IsAround (v ∷ above) IsOpen)
    (last : IsLastQuery (plug (v ∷ above) status)) (q : QueryAt (v ∷ above))
    (below : AreClear (levels_below (Some (query_node (v ∷ above))) (v ∷ above))) where
  abbrev levels : List Level
  levels = v ∷ above

  abbrev s : ℕ
  s = query_node (v ∷ above)

  -- the query's node is above some status
  above_last : (b : Option Term) → (x : Status) × (IsLastQuery (plug (q.level ∷ q.above) x))
  above_last b = let l = ball_closes_at next s levels status (credit_of 1) (EndEntry b) in
      (l.below, subst (λ d. IsLastQuery (plug d l.below)) q.down (subst IsLastQuery l.inside last))

  up_clear : AreClear q.above
  up_clear = let l = above_last None in query_clear q.above (Inner (level_node q.level l.0)) (λ z. false_true (sym z.0 ∙ q.query)) l.1

  pub all_clear : AreClear (v ∷ above)
  all_clear = clear_join s levels below (subst AreClear (sym q.down) (subst AreShut (sym q.end.left) tt, up_clear))

  rights : RightsNone q.above
  rights = let l = above_last None in rights_none q.above (Inner (level_node q.level l.0)) (λ z. false_true (sym z.0 ∙ q.query)) l.1

  abbrev near : Way
  near = record { node = next; index = 0; kind = ChoiceNode } ∷ record { node = q.level.number; index = 1; kind = q.level.kind }
      ∷ way_of q.above

  abbrev left_credit : TreeCredit
  left_credit = ball_credit (query_node (v ∷ above)) (v ∷ above) (credit_of 1)

  abbrev pre : List Element
  pre = front_of (q.level ∷ q.above) ++ (balance_on (way_of (q.level ∷ q.above)) left_credit ∷ EndOf (0 ∷ q.level.number ∷ []) ∷ [])

  abbrev xs : List Element
  xs = pre ++ (Credit 0 [] ∷ Credit 0 [] ∷ [])

  abbrev back : List Element
  back = EndOf (0 ∷ next ∷ []) ∷ (EndOf (1 ∷ q.level.number ∷ []) ∷ back_of q.above)

  abbrev tail : Option Term → List Element
  tail b = End (0 ∷ 0 ∷ next ∷ []) b ∷ back

  list : (b : Option Term) → pending_list (ball_closes next (query_node (v ∷ above)) (v ∷ above) (credit_of 1) (EndEntry b)).root ≡ xs
      ++ tail b
  list b =
      let l = ball_closes_at next s levels status (credit_of 1) (EndEntry b) in
      let root : (ball_closes next s levels (credit_of 1) (EndEntry b)).root
      ≡ (wakes_in next (q.level ∷ q.above) left_credit (EndEntry b)).root = ap (λ g. g.root)
      (l.ball_closes ∙ ap (λ d. wakes_in next d left_credit (EndEntry b)) q.down) in
      ap pending_list root ∙ (after_wake next q.level q.above left_credit (EndEntry b) q.end.left
      ∙ sym (append-assoc pre (Credit 0 [] ∷ Credit 0 [] ∷ []) (tail b)))

  pub lost_end : (b : Option Term)
      → has_end (pending_list (ball_closes next (query_node (v ∷ above)) (v ∷ above) (credit_of 1) (EndEntry b)).root) ≡ true
  lost_end b = ap has_end (list b) ∙ end_after xs (tail b) refl

  -- the list after the ball, and the tree's
  pub lost_ball_closes : (p : Name) (b : Option Term) (k : ℕ) → v.spent ≡ 0 → k ≡ inferences (front_of (v ∷ above)) + 1
      → Follows clauses (Credit k [] ∷ (End p b ∷ []))
      (pending_list (ball_closes next (query_node (v ∷ above)) (v ∷ above) (credit_of 1) (EndEntry b)).root)
  lost_ball_closes p b k unspent count =
      let c = left_credit in
      let front = front_of (q.level ∷ q.above) in
      let n = q.level.number in
      let own = 0 ∷ 0 ∷ next ∷ [] in
      let tail = End own b ∷ back in
      let ends : OnlyEnds back = back_ends q.above rights in
      let shut : AreClear (q.level ∷ q.above) = (subst AreShut (sym q.end.left) tt, up_clear) in
      let quiet_pre : IsQuiet pre = quiet-append front (balance_on (way_of (q.level ∷ q.above)) c ∷ EndOf (0 ∷ n ∷ []) ∷ [])
      (front_quiet (q.level ∷ q.above) shut) tt in
      let quiet : IsQuiet xs = quiet-append pre (Credit 0 [] ∷ Credit 0 [] ∷ []) quiet_pre tt in
      let given : map (gives (scoped clauses) (records xs)) tail ≡ tail = ends_given_after (records xs) own back ends in
      let rows = records_given clauses xs [] tail tt quiet in
      let j = inferences xs in
      let total_pre : inferences pre ≡ inferences front + (c.inferences + 0) = inferences-append front
      (balance_on (way_of (q.level ∷ q.above)) c ∷ EndOf (0 ∷ n ∷ []) ∷ []) in
      let total : inferences xs ≡ inferences pre + 0 = inferences-append pre (Credit 0 [] ∷ Credit 0 [] ∷ []) in
      let split : inferences (front_of levels) ≡ inferences front + inferences (lower_front s levels) = ap inferences
      (front_split s levels ∙ ap (λ d. front_of d ++ lower_front s levels) q.down)
      ∙ inferences-append front (lower_front s levels) in
      let counts = ball_credit_counts s levels (credit_of 1) below (subst FirstShut (sym q.down) q.end.left) in
      let low = ball_credit_low s v above (credit_of 1) in
      let here : spent_at levels + (credit_of 1).inferences ≡ v.spent + 1 = refl in
      let most : min greatest k ≡ min greatest j = omega (arith, total_pre, total, split, counts, low, here, unspent, count) in
      let one = credit_counted clauses [] (End p b ∷ []) k [] refl in
      let two = credit_counted clauses [] tail j [] refl in
      let name : erased (Credit (min greatest k) [] ∷ (End p b ∷ [])) ≡ erased (Credit (min greatest k) [] ∷ tail) = ap
      (λ l. HeightCredit (min greatest k) [] ∷ (HeightEntry (EndEntry b) ∷ l)) (sym (ends_erased back ends).0) in
      let free = names_are_free clauses (Credit (min greatest k) [] ∷ (End p b ∷ [])) (Credit (min greatest k) [] ∷ tail) (tt, tt)
      (tt, ends_sound back ends) name in
      let whole : lead (xs ++ tail) ≡ inferences xs + 0 = lead-quiet xs tail quiet in
      subst (Follows clauses (Credit k [] ∷ (End p b ∷ []))) (sym (list b)) (record {
        alike = λ i w x. one.follows.alike i w x
            ∙ (free i w
            ∙ (ap (λ z. seen (run (scoped clauses) i w (free_steps (scoped clauses) [] (Credit z [] ∷ tail)))) most
            ∙ (sym (two.follows.alike i w x)
            ∙ (ap (λ z. seen (run (scoped clauses) i w (free_steps (scoped clauses) [] (Credit j [] ∷ z)))) (sym given)
            ∙ sym (rows.alike i w)))));
        lead = λ i x y. omega (arith, x, y, whole, most);
      })
    where
      ends_given_after : (rs : List Record) (own : Name) (back : List Element) → OnlyEnds back
          → map (gives (scoped clauses) rs) (End own b ∷ back) ≡ End own b ∷ back
      ends_given_after rs own back ends = let head = gives-fixed clauses rs (End own b) tt in let tail = ends_given clauses rs back
          ends in cc
