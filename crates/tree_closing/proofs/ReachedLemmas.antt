-- How a closing goes up.
use Rattle.std.proofs.Common.{◌≡◌, ℕ, suc, ◌≤◌, List, [], ◌∷◌, ◌++◌, length, Option, Some, None, refl, sym, ap, ◌∙◌, subst, arith, append-nil}
use Rattle.au_term.specs.Term.{Term}
use Rattle.run_model.specs.Machine.Entries.{Entry, CatchEntry, FindallEntry, EndEntry}
use Rattle.run_model.specs.Machine.Items.{Continuation}
use Rattle.tree_model.specs.Credits.{Credit, no_credit, counted, added, credit_of, without_records}
use Rattle.tree_model.specs.Nodes.{Ready, TakenBy, Waiting, Dormant, Alternatives, none, alternative, Status, Pending, Inner, Closed}
use Rattle.std.specs.Option.{option_map}
use Rattle.tree_model.specs.Levels.{Level, level_node, plug, Place, place_at}
use Rattle.tree_model.specs.Closing.{dormant_right, guarded, with_right, and_then, all_right, all_left, all_closed, folds, wakes, goal_side_closes, closes}
use Rattle.tree_model.specs.SoundTrees.{IsSound}
use Rattle.tree_nodes.specs.Bodies.{Reading}
use Rattle.tree_nodes.specs.TreeTables.{cell_of, NodesView, IsTableOf}
use Rattle.tree_nodes.specs.Changes.{Folded, folded_on, folded_up}
use Rattle.tree_nodes.specs.Folds.{FoldsUpTo}
use Rattle.tree_nodes.proofs.CreditLemmas.{same_credit}
use Rattle.tree_nodes.specs.Rows.{AlternativeCell, node_parent, cell_at}
use Rattle.tree_nodes.proofs.WalkLemmas.{cell_here, parent_here, one_level_up, no_level_up}
use Rattle.tree_closing.proofs.SleeperLemmas.{Guards, one_beside}
use Rattle.tree_closing.specs.Sleeping.{Sleeps, IsBesideSleeper}
use Rattle.tree_closing.specs.Closings.{IsReached, ClosesUpTo, ComesToRest, woken_entry}
use Rattle.tree_closing.specs.declared.sleeping.Sleeping.TheVariants.{Nothing, Recovery, Following, QueryEnd}
use Rattle.tree_closing.specs.declared.way_up.Beside.TheVariants.{Same, Closes, Gathers, Ends}

-- where all alternatives of a node have closed, none sleeps
awake : (v : Level) (c t : Credit) → all_closed v c ≡ Some t → guarded v ≡ None
awake v c t q = at_left v.left
  where
    at_right : (r : Alternatives) (x : Option Credit) → and_then x (all_right r) ≡ Some t → dormant_right r ≡ None
    at_right none x q = refl
    at_right (alternative sp (Inner node) others) x q = refl
    at_right (alternative sp (Closed credit) others) x q = refl
    at_right (alternative sp (Pending Ready e) others) x q = refl
    at_right (alternative sp (Pending (TakenBy w) e) others) x q = refl
    at_right (alternative sp (Pending (Waiting g) e) others) x q = refl
    at_right (alternative sp (Pending Dormant e) others) None q = absurd cc
    at_right (alternative sp (Pending Dormant e) others) (Some a) q = absurd cc

    at_left : (left : List (ℕ × Status)) → elim left as (λ l. Option Entry) [ [] ↦ dormant_right v.right | a ∷ rest ↦ None ] ≡ None
    at_left [] = at_right v.right (and_then (all_left v.left) (Some c)) q
    at_left (a ∷ rest) = refl

-- a node that folds hands its closing on
closes_up : (next : ℕ) (v u : Level) (up : List Level) (c t : Credit) → all_closed v c ≡ Some t → closes next (v ∷ u ∷ up) c ≡ closes next (u ∷ up) (added (credit_of u.spent) t)
closes_up next v u up c t q =
    ap (λ (o : Option Entry). goal_side_closes next v (u ∷ up) c o (closes next (u ∷ up))) (awake v c t q)
    ∙ ap (λ (o : Option Credit). folds next v (u ∷ up) c o (closes next (u ∷ up))) q

ends_here : (next : ℕ) (v : Level) (up : List Level) (c : Credit) (w : Level) (above : List Level) (total : Credit) → ◌≡◌ {A = Folded} (record { levels = v ∷ up; credit = c }) (record { levels = w ∷ above; credit = total })
    → closes next (v ∷ up) c ≡ closes next (w ∷ above) total
ends_here next v up c w above total e = ap (λ (f : Folded). closes next f.levels f.credit) e

-- where nodes fold, a closing goes on above
pub closes_folded : (next : ℕ) (v : Level) (up : List Level) (c : Credit) (w : Level) (above : List Level) (total : Credit)
    → folded_up (v ∷ up) c ≡ record { levels = w ∷ above; credit = total } → closes next (v ∷ up) c ≡ closes next (w ∷ above) total
closes_folded next v [] c w above total e = ends_here next v [] c w above total e
closes_folded next v (u ∷ up) c w above total e = by_sum (all_closed v c) refl (λ t h. closes_folded next u up (added (credit_of u.spent) t) w above total h)
  where
    fold : Option Credit → Folded
    fold o = folded_on o (v ∷ u ∷ up) c (λ t. folded_up (u ∷ up) (added (credit_of u.spent) t))

    by_sum : (o : Option Credit) → all_closed v c ≡ o
        → ((t : Credit) → folded_up (u ∷ up) (added (credit_of u.spent) t) ≡ record { levels = w ∷ above; credit = total } → closes next (u ∷ up) (added (credit_of u.spent) t) ≡ closes next (w ∷ above) total)
        → closes next (v ∷ u ∷ up) c ≡ closes next (w ∷ above) total
    by_sum None q more = ends_here next v (u ∷ up) c w above total (sym (ap fold q) ∙ e)
    by_sum (Some t) q more = closes_up next v u up c t q ∙ more t (sym (ap fold q) ∙ e)

-- folding leads to no more levels
shorter : (levels : List Level) (c : Credit) → length (folded_up levels c).levels ≤ length levels
shorter [] c = omega arith
shorter (v ∷ []) c = omega arith
shorter (v ∷ u ∷ up) c = by_sum (all_closed v c) (λ t. shorter (u ∷ up) (added (credit_of u.spent) t))
  where
    by_sum : (o : Option Credit) → ((t : Credit) → length (folded_up (u ∷ up) (added (credit_of u.spent) t)).levels ≤ length (u ∷ up))
        → length (folded_on o (v ∷ u ∷ up) c (λ t. folded_up (u ∷ up) (added (credit_of u.spent) t))).levels ≤ suc (suc (length up))
    by_sum None h = omega arith
    by_sum (Some t) h = let z = h t in let k : length (u ∷ up) ≡ suc (length up) = refl in omega (arith, z, k)

-- no node folds, and nothing sleeps
pub rests_quiet : (next : ℕ) (v : Level) (up : List Level) (c : Credit) → folded_up (v ∷ up) c ≡ record { levels = v ∷ up; credit = c } → guarded v ≡ None
    → closes next (v ∷ up) c ≡ record { root = plug (v ∷ up) (Closed c); next = next }
rests_quiet next v [] c e g = ap (λ (o : Option Entry). goal_side_closes next v [] c o (closes next [])) g ∙ either (all_closed v c)
  where
    either : (o : Option Credit) → folds next v [] c o (closes next []) ≡ record { root = plug (v ∷ []) (Closed c); next = next }
    either None = refl
    either (Some t) = refl
rests_quiet next v (u ∷ up) c e g = ap (λ (o : Option Entry). goal_side_closes next v (u ∷ up) c o (closes next (u ∷ up))) g ∙ by_sum (all_closed v c) refl
  where
    fold : Option Credit → Folded
    fold o = folded_on o (v ∷ u ∷ up) c (λ t. folded_up (u ∷ up) (added (credit_of u.spent) t))

    by_sum : (o : Option Credit) → all_closed v c ≡ o → folds next v (u ∷ up) c (all_closed v c) (closes next (u ∷ up)) ≡ record { root = plug (v ∷ u ∷ up) (Closed c); next = next }
    by_sum None q = ap (λ (o : Option Credit). folds next v (u ∷ up) c o (closes next (u ∷ up))) q
    by_sum (Some t) q =
        let same : length (folded_up (u ∷ up) (added (credit_of u.spent) t)).levels ≡ suc (suc (length up)) = ap (λ (f : Folded). length f.levels) (sym (ap fold q) ∙ e) in
        let short = shorter (u ∷ up) (added (credit_of u.spent) t) in
        let k : length (u ∷ up) ≡ suc (length up) = refl in
        absurd (omega (arith, same, short, k))

nothing_beside : (d c : Credit) → added d (added (added no_credit c) (added no_credit no_credit)) ≡ added d c
nothing_beside d c = same_credit _ _ _ _ _ _ (twice d.inferences c.inferences) (twice d.answers c.answers) (ap (λ (rs : List Term). d.records ++ rs) (append-nil c.records))
  where
    twice : (a b : ℕ) → counted a (counted (counted 0 b) (counted 0 0)) ≡ counted a b
    twice a b = omega arith

-- a recovery that sleeps goes, and the node folds
module _ (next : ℕ) (v : Level) (c : Credit) (catcher recovery : Term) (f : Continuation ℕ) (g : guarded v ≡ Some (CatchEntry catcher recovery f)) (k : Guards v (CatchEntry catcher recovery f)) where
  abbrev alone : Credit
  alone = added (added no_credit c) (added no_credit no_credit)

  all_gone : all_closed (with_right (Closed no_credit) v) c ≡ Some alone
  all_gone = ap (λ (left : List (ℕ × Status)). and_then (and_then (all_left left) (Some c)) (all_right (alternative 0 (Closed no_credit) none))) k.left

  gone : (up : List Level) → closes next (v ∷ up) c ≡ folds next (with_right (Closed no_credit) v) up c (Some alone) (closes next up)
  gone up =
      ap (λ (o : Option Entry). goal_side_closes next v up c o (closes next up)) g
      ∙ ap (λ (o : Option Credit). folds next (with_right (Closed no_credit) v) up c o (closes next up)) all_gone

  pub recovery_goes : (u : Level) (up : List Level) → closes next (v ∷ u ∷ up) c ≡ closes next (u ∷ up) (added (credit_of u.spent) c)
  recovery_goes u up = gone (u ∷ up) ∙ ap (closes next (u ∷ up)) (nothing_beside (credit_of u.spent) c)

  pub recovery_closes : closes next (v ∷ []) c ≡ record { root = plug (with_right (Closed no_credit) v ∷ []) (Closed c); next = next }
  recovery_closes = gone []

-- what follows a findall, or ends a query, wakes
pub findall_wakes : (next : ℕ) (v : Level) (up : List Level) (c : Credit) (results : List Term) (l : Term) (f : Continuation ℕ) → guarded v ≡ Some (FindallEntry results l f)
    → closes next (v ∷ up) c ≡ wakes next v up (without_records c) (woken_entry v.number c.records (FindallEntry results l f))
findall_wakes next v up c results l f g = ap (λ (o : Option Entry). goal_side_closes next v up c o (closes next up)) g

pub end_wakes : (next : ℕ) (v : Level) (up : List Level) (c : Credit) (b : Option Term) → guarded v ≡ Some (EndEntry b)
    → closes next (v ∷ up) c ≡ wakes next v up c (woken_entry v.number c.records (EndEntry b))
end_wakes next v up c b g = ap (λ (o : Option Entry). goal_side_closes next v up c o (closes next up)) g

-- the way up, step by step
pub reaches_begun : (nodes : NodesView) (a : Place) (c : Credit) → ClosesUpTo nodes a c a c
reaches_begun nodes a c read v up was next p s h = record { level = v; above = up; status = was; same = refl; at = p; closes = refl }

-- once what folds has folded, no more does
abbrev IsEnd : (next : ℕ) (v : Level) (up : List Level) (was : Status) (c : Credit) (e : Place) (total : Credit) → Type 0
IsEnd next v up was c e total = (r : IsReached next v up was c e total) × (folded_up (r.level ∷ r.above) total ≡ record { levels = r.level ∷ r.above; credit = total })

-- where a closing has come to, all that folds has folded
module _ (nodes : NodesView) (a : Place) (c : Credit) (b : Place) (now : Credit) (e : Place) (total : Credit) (h : ClosesUpTo nodes a c b now) (f : FoldsUpTo nodes b now e total) where
  at_end : (read : Reading) (v : Level) (up : List Level) (was : Status) (next : ℕ) → place_at v ≡ a → IsTableOf nodes read (plug (v ∷ up) was) → IsSound [] (plug (v ∷ up) was) → IsEnd next v up was c e total
  at_end read v up was next p s snd =
      let k = h read v up was next p s snd in
      let g = f read k.level k.above k.status k.at (subst (IsTableOf nodes read) k.same s) in (
        record {
          level = g.0.level;
          above = g.0.above;
          status = g.0.status;
          same = k.same ∙ g.0.same;
          at = g.0.at;
          closes = k.closes ∙ closes_folded next k.level k.above now g.0.level g.0.above total (g.0.folds ∙ g.1);
        },
        g.1,
      )

  pub rests_in_nothing : Sleeps nodes e Nothing → ComesToRest nodes a c e total Same
  rests_in_nothing sleeps read v up was next p s snd =
      let r = at_end read v up was next p s snd in
      let none = sleeps read r.0.level r.0.above r.0.status r.0.at (subst (IsTableOf nodes read) r.0.same s) (subst (IsSound []) r.0.same snd) in
      record { reached = r.0; rests = r.0.closes ∙ rests_quiet next r.0.level r.0.above total r.1 none }

  pub rests_in_findall : Sleeps nodes e Following → ComesToRest nodes a c e total Gathers
  rests_in_findall sleeps read v up was next p s snd =
      let r = at_end read v up was next p s snd in
      let k = sleeps read r.0.level r.0.above r.0.status r.0.at (subst (IsTableOf nodes read) r.0.same s) (subst (IsSound []) r.0.same snd) in
      record { reached = r.0; rests = (FindallEntry k.0 k.1.0 k.1.1.0, (k.1.1.1, r.0.closes ∙ findall_wakes next r.0.level r.0.above total k.0 k.1.0 k.1.1.0 k.1.1.1)) }

  pub rests_in_end : Sleeps nodes e QueryEnd → ComesToRest nodes a c e total Ends
  rests_in_end sleeps read v up was next p s snd =
      let r = at_end read v up was next p s snd in
      let k = sleeps read r.0.level r.0.above r.0.status r.0.at (subst (IsTableOf nodes read) r.0.same s) (subst (IsSound []) r.0.same snd) in
      record { reached = r.0; rests = (EndEntry k.0, (k.1, r.0.closes ∙ end_wakes next r.0.level r.0.above total k.0 k.1)) }

  module _ (sleeps : Sleeps nodes e Recovery) (sleeper : IsBesideSleeper nodes.rows e) where
    -- a recovery that sleeps beside an end
    record IsRecovery (v : Level) : Type 0 where
      pub catcher : Term
      pub recovery : Term
      pub continuation : Continuation ℕ
      pub is : guarded v ≡ Some (CatchEntry catcher recovery continuation)
      pub asleep : Guards v (CatchEntry catcher recovery continuation)

    found_recovery : (read : Reading) (v : Level) (up : List Level) (was : Status) → place_at v ≡ e → IsTableOf nodes read (plug (v ∷ up) was) → IsSound [] (plug (v ∷ up) was) → IsRecovery v
    found_recovery read v up was p s snd =
        let k = sleeps read v up was p s snd in
        let g = one_beside nodes e read v up was p s sleeper.first sleeper.asleep snd in
        let same : Some g.entry ≡ Some (CatchEntry k.0 k.1.0 k.1.1.0) = sym g.is ∙ k.1.1.1 in
        let entry : g.entry ≡ CatchEntry k.0 k.1.0 k.1.1.0 = cc same in
        record { catcher = k.0; recovery = k.1.0; continuation = k.1.1.0; is = k.1.1.1; asleep = subst (Guards v) entry g.asleep }

    pub rests_in_recovery : node_parent nodes.rows e.node ≡ Some None → ComesToRest nodes a c e total Closes
    rests_in_recovery parent read v up was next p s snd =
        let r = at_end read v up was next p s snd in
        let table = subst (IsTableOf nodes read) r.0.same s in
        let k = found_recovery read r.0.level r.0.above r.0.status r.0.at table (subst (IsSound []) r.0.same snd) in
        let here : node_parent nodes.rows r.0.level.number ≡ Some None = ap (λ (q : Place). node_parent nodes.rows q.node) r.0.at ∙ parent in
        let none : r.0.above ≡ [] = no_level_up r.0.above (parent_here nodes read r.0.level r.0.above r.0.status None table here) in
        record {
          reached = r.0;
          rests = r.0.closes
              ∙ (ap (λ (up : List Level). closes next (r.0.level ∷ up) total) none
              ∙ (recovery_closes next r.0.level total k.catcher k.recovery k.continuation k.is k.asleep
              ∙ ap (λ (up : List Level). record { root = plug (with_right (Closed no_credit) r.0.level ∷ up) (Closed total); next = next }) (sym none)));
        }

    pub reaches_above : (above : Place) (spent : ℕ) (more : Credit) → node_parent nodes.rows e.node ≡ Some (Some above) → option_map (λ k. k.0) (cell_at nodes.rows above) ≡ Some spent
        → more ≡ added (credit_of spent) total → ClosesUpTo nodes a c above more
    reaches_above above spent more parent sp sum read v up was next p s snd =
        let r = at_end read v up was next p s snd in
        let table = subst (IsTableOf nodes read) r.0.same s in
        let k = found_recovery read r.0.level r.0.above r.0.status r.0.at table (subst (IsSound []) r.0.same snd) in
        let here : node_parent nodes.rows r.0.level.number ≡ Some (Some above) = ap (λ (q : Place). node_parent nodes.rows q.node) r.0.at ∙ parent in
        let u = one_level_up r.0.level r.0.above above (parent_here nodes read r.0.level r.0.above r.0.status (Some above) table here) in
        let inner = Inner (level_node r.0.level r.0.status) in
        let upper : IsTableOf nodes read (plug (u.level ∷ u.above) inner) = subst (λ (ls : List Level). IsTableOf nodes read (plug ls inner)) u.is table in
        let cell : cell_at nodes.rows above ≡ Some (u.level.spent, cell_of inner) = ap (cell_at nodes.rows) (sym u.at) ∙ cell_here nodes read u.level u.above inner upper in
        let same : Some u.level.spent ≡ Some spent = sym (ap (λ (o : Option (ℕ × AlternativeCell)). option_map (λ k. k.0) o) cell) ∙ sp in
        let spends : u.level.spent ≡ spent = cc same in
        record {
          level = u.level;
          above = u.above;
          status = inner;
          same = r.0.same ∙ ap (λ (ls : List Level). plug ls inner) u.is;
          at = u.at;
          closes = r.0.closes
              ∙ (ap (λ (ls : List Level). closes next (r.0.level ∷ ls) total) u.is
              ∙ (recovery_goes next r.0.level total k.catcher k.recovery k.continuation k.is k.asleep u.level u.above
              ∙ (ap (λ (n : ℕ). closes next (u.level ∷ u.above) (added (credit_of n) total)) spends ∙ ap (closes next (u.level ∷ u.above)) (sym sum))));
        }
