-- A place that closes: nodes fold along its branch, a recovery that slept is gone, and what sleeps else wakes.
use Rattle.std.proofs.Common.{◌≡◌, ◌⊎◌, inl, inr, ℕ, suc, ◌==◌, Bool, true, false, List, [], ◌∷◌, ◌++◌, map, length, Option, Some, None}
use Rattle.std.proofs.Common.{refl, sym, ap}
use Rattle.std.proofs.Common.{◌∙◌, subst, arith}
use Rattle.au_term.specs.Term.{Term}
use Rattle.au_model.specs.Terms.Each.{Each}
use Rattle.run_model.specs.Programs.Clauses.{Clause}
use Rattle.run_model.specs.Machine.Items.{Continuation}
use Rattle.run_model.specs.Machine.Entries.{Entry, PlainEntry, CatchEntry, FindallEntry, EndEntry}
use Rattle.tree_model.specs.Credits.{Credit as TreeCredit, added, credit_of, no_credit, without_records}
use Rattle.tree_model.specs.Nodes.{Kind, ChoiceNode, CatchNode, FindallNode, QueryNode, Ready, TakenBy, Waiting, Dormant, Alternatives}
use Rattle.tree_model.specs.Nodes.{none, alternative, Status, Pending, Inner, Closed}
use Rattle.tree_model.specs.Levels.{Level, plug}
use Rattle.tree_model.specs.Pruning.{is_findall}
use Rattle.tree_model.specs.Closing.{dormant_right, guarded, with_right, all_closed, folds, wakes, findall_goes_on, with_results}
use Rattle.tree_model.specs.Closing.{goal_side_closes, closes}
use Rattle.tree_model.specs.Elements.{Record, Credit, EndOf}
use Rattle.tree_model.specs.PendingLists.{way_of, findall_on, balance_on, element_on, list_among, list_left, list_right, pending_list}
use Rattle.tree_model.specs.PendingLists.{front_of, back_of}
use Rattle.tree_model.specs.SoundTrees.{one_if, IsOpen, IsDormant, profile, profiles, is_shape, guards}
use Rattle.tree_model.specs.CaughtTrees.{is_side}
use Rattle.tree_model.specs.Ways.{under_query, is_query}
use Rattle.tree_model.proofs.CountLemmas.{count_around, count_left}
use Rattle.interleaving.specs.Laws.{IsSegment}
use Rattle.interleaving.specs.Views.{IsBlind, IsRecordApart}
use Rattle.interleaving.specs.Sound.{IsSound}
use Rattle.interleaving.specs.Follows.{Follows}
use Rattle.interleaving.proofs.ListRoundLemmas.{around}
use Rattle.interleaving.proofs.ContextLemmas.{IsLevel, IsAround, put_profiles}
use Rattle.interleaving.proofs.AppendLemmas.{append-assoc, each-append}
use Rattle.interleaving.proofs.RootLemmas.{are_distinguished}
use Rattle.interleaving.proofs.ListChangeLemmas.{quiet_early}
use Rattle.interleaving.proofs.LeadLemmas.{lead-grows, follows_then, follows_itself}
use Rattle.interleaving.proofs.EndLemmas.{HasQueryEnd, query_here, back_end}
use Rattle.interleaving.proofs.ClosingEndLemmas.{guards_end}
use Rattle.interleaving.proofs.ListScopeLemmas.{IsDistinct, distinct-up}
use Rattle.interleaving.proofs.ListMarkLemmas.{no_left, findall_dormant}
use Rattle.interleaving.proofs.BlindLemmas.{of_node, front_blind, back_under, records_apart, off_levels}
use Rattle.interleaving.proofs.FoldLemmas.{Passes, passes_becoming, LeftSides, HaveNoSideRecords, closed_records}
use Rattle.interleaving.proofs.FoldingLemmas.{fold_passes}
use Rattle.au_term.proofs.LogicLemmas.{and-right, and-left, false_true, number_same}
use Rattle.interleaving.proofs.ListsSoundLemmas.{findall-kind}

-- what sleeps after a first alternative is the one further
pub record Guards (v : Level) (e : Entry) : Type 0 where
  pub left : v.left ≡ []
  pub spent : ℕ
  pub right : v.right ≡ alternative spent (Pending Dormant e) none

pub guards_of : (v : Level) (up : List Level) (e : Entry) → IsLevel up v IsOpen → guarded v ≡ Some e → Guards v e
guards_of v up e i g = at_left v.left refl g
  where
    at_right : (r : Alternatives) → v.right ≡ r → v.left ≡ [] → is_shape v.kind (IsOpen ∷ profiles r) ≡ true → dormant_right r ≡ Some e
        → Guards v e
    at_right none q l s d = let no_way : ⊥ = cc in absurd no_way
    at_right (alternative sp (Inner node) others) q l s d = let no_way : ⊥ = cc in absurd no_way
    at_right (alternative sp (Closed c) others) q l s d = let no_way : ⊥ = cc in absurd no_way
    at_right (alternative sp (Pending Ready x) others) q l s d = let no_way : ⊥ = cc in absurd no_way
    at_right (alternative sp (Pending (TakenBy w) x) others) q l s d = let no_way : ⊥ = cc in absurd no_way
    at_right (alternative sp (Pending (Waiting y) x) others) q l s d = let no_way : ⊥ = cc in absurd no_way
    at_right (alternative sp (Pending Dormant x) none) q l s d = let same : x
        ≡ e = cc in record { left = l; spent = sp; right = q ∙ ap (λ y. alternative sp (Pending Dormant y) none) same }
    at_right (alternative sp (Pending Dormant x) (alternative sq st others)) q l s d = absurd (too_many v.kind s)
      where
        too_many : (k : Kind) → is_shape k (IsOpen ∷ IsDormant (guards x) ∷ profile st ∷ profiles others) ≡ true → ⊥
        too_many ChoiceNode z = false_true z
        too_many CatchNode z = false_true z
        too_many FindallNode z = false_true z
        too_many QueryNode z = false_true z

    at_left : (left : List (ℕ × Status)) → v.left ≡ left
        → elim left as (λ l. Option Entry) [ [] ↦ dormant_right v.right | a ∷ rest ↦ None ] ≡ Some e → Guards v e
    at_left [] l d = at_right v.right refl l
        (subst (λ left. is_shape v.kind (put_profiles left (IsOpen ∷ profiles v.right)) ≡ true) l i.shape) d
    at_left (a ∷ rest) l d = let no_way : ⊥ = cc in absurd no_way

-- no goal side of a findall
abbrev NotFindall : Option Entry → Type 0
NotFindall None = Unit {0}
NotFindall (Some (PlainEntry f)) = Unit {0}
NotFindall (Some (CatchEntry c r f)) = Unit {0}
NotFindall (Some (EndEntry b)) = Unit {0}
NotFindall (Some (FindallEntry results l f)) = ⊥

pub no_side : (v : Level) (up : List Level) → IsLevel up v IsOpen → (o : Option Entry) → guarded v ≡ o → NotFindall o
    → is_side v.kind (length v.left) ≡ false
no_side v up i o g f = go (is_side v.kind (length v.left)) refl
  where
    go : (b : Bool) → is_side v.kind (length v.left) ≡ b → b ≡ false
    go false s = refl
    go true s =
        let left : v.left ≡ [] = no_left v.left (and-right (is_findall v.kind) _ s) in
        let entry = findall_dormant v up i left (findall-kind v.kind (and-left (is_findall v.kind) _ s)) in
        let found : guarded v ≡ Some (FindallEntry entry.0 entry.1 entry.2) = subst
        (λ l. Shows l v.right (FindallEntry entry.0 entry.1 entry.2)) (sym left)
        (subst (λ r. dormant_right r ≡ Some (FindallEntry entry.0 entry.1 entry.2)) (sym entry.3.right) refl) in
        absurd (subst NotFindall (sym g ∙ found) f)
      where
        Shows : List (ℕ × Status) → Alternatives → Entry → Type 0
        Shows l r e = elim l as (λ x. Option Entry) [ [] ↦ dormant_right r | a ∷ left ↦ None ] ≡ Some e

pub none_above : (v : Level) (up : List Level) → IsDistinct (v ∷ up) → count_around v.number up ≡ 0
none_above v up d =
    let once = d v.number in
    let here : one_if (v.number == v.number) ≡ 1 = ap one_if (number_same v.number) in
    omega (arith, once, here)

pub none_left : (v : Level) (up : List Level) → IsDistinct (v ∷ up) → count_left v.number v.left ≡ 0
none_left v up d =
    let once = d v.number in
    let here : one_if (v.number == v.number) ≡ 1 = ap one_if (number_same v.number) in
    omega (arith, once, here)

-- the closed place
pub closed_list : (levels : List Level) (c : TreeCredit) → pending_list (plug levels (Closed c))
    ≡ front_of levels ++ (balance_on (way_of levels) c ∷ back_of levels)
closed_list levels c = around levels (Closed c)

-- a recovery that slept is gone
gone_passes : (clauses : List Clause) (v : Level) (up : List Level) (c : TreeCredit) (k r : Term) (f : Continuation ℕ)
    → Guards v (CatchEntry k r f) → is_side v.kind (length v.left) ≡ false → count_around v.number up ≡ 0 → IsAround up IsOpen
    → Passes clauses (pending_list (plug (v ∷ up) (Closed c))) (pending_list (plug (with_right (Closed no_credit) v ∷ up) (Closed c)))
gone_passes clauses v up c k r f g off z a =
    let n = v.number in
    let gone = with_right (Closed no_credit) v in
    let way = way_of up in
    let old : list_right way v ≡ EndOf (0 ∷ n ∷ [])
    ∷ (element_on (record { node = n; index = 1; kind = v.kind } ∷ way) (CatchEntry k r f) ∷ (EndOf (1 ∷ n ∷ []) ∷ [])) = ap
    (λ l. EndOf (length l ∷ n ∷ []) ∷ list_among way n v.kind (suc (length l)) v.right) g.left
    ∙ ap (λ x. EndOf (0 ∷ n ∷ []) ∷ list_among way n v.kind 1 x) g.right in
    let new : list_right way gone ≡ EndOf (0 ∷ n ∷ []) ∷ (Credit 0 [] ∷ (EndOf (1 ∷ n ∷ []) ∷ [])) = ap
    (λ l. EndOf (length l ∷ n ∷ []) ∷ list_among way n v.kind (suc (length l)) (alternative 0 (Closed no_credit) none)) g.left in
    let pre = front_of (v ∷ up) ++ (balance_on (way_of (v ∷ up)) c ∷ EndOf (0 ∷ n ∷ []) ∷ []) in
    let x = element_on (record { node = n; index = 1; kind = v.kind } ∷ way) (CatchEntry k r f) in
    let zs = EndOf (1 ∷ n ∷ []) ∷ back_of up in
    let before : pending_list (plug (v ∷ up) (Closed c)) ≡ pre ++ (x ∷ zs) = closed_list (v ∷ up) c
    ∙ (ap (λ l. front_of (v ∷ up) ++ (balance_on (way_of (v ∷ up)) c ∷ (l ++ back_of up))) old
    ∙ sym (append-assoc (front_of (v ∷ up)) (balance_on (way_of (v ∷ up)) c ∷ EndOf (0 ∷ n ∷ []) ∷ []) (x ∷ zs))) in
    let after : pre ++ (Credit 0 [] ∷ zs) ≡ pending_list (plug (gone ∷ up) (Closed c)) = append-assoc (front_of (v ∷ up))
    (balance_on (way_of (v ∷ up)) c ∷ EndOf (0 ∷ n ∷ []) ∷ []) (Credit 0 [] ∷ zs)
    ∙ (ap (λ l. front_of (v ∷ up) ++ (balance_on (way_of (v ∷ up)) c ∷ (l ++ back_of up))) (sym new)
    ∙ sym (closed_list (gone ∷ up) c)) in
    let blind_left : Each (IsBlind (of_node n)) (front_of (v ∷ up)) = each-append (IsBlind (of_node n)) (front_of up) _
    (front_blind n up z a) (tt, subst (λ l. Each (IsBlind (of_node n)) (list_left way n v.kind l)) (sym g.left) tt) in
    let blind_mine : Each (IsRecordApart (of_node n)) (map (λ t. (findall_on (way_of (v ∷ up)), t)) c.records) = subst
    (λ (rs : List Record). Each (IsRecordApart (of_node n)) rs)
    (sym (closed_records way n (length v.left) v.kind c.records (λ s. absurd (side_clash s))))
    (records_apart n way c.records (off_levels n up z)) in
    let segment : IsSegment (of_node n) pre (x ∷ []) zs = record {
      grown = are_distinguished.root (λ m. m == n);
      front = each-append (IsBlind (of_node n)) (front_of (v ∷ up)) _ blind_left
          (blind_mine, (tt, tt));
      own = ((number_same n, number_same n), tt);
      under = (tt, back_under n up z a);
      some = omega arith;
    } in
    let becomes = quiet_early clauses (of_node n) pre (x ∷ []) zs tt segment in
    subst (λ l. Passes clauses l (pending_list (plug (gone ∷ up) (Closed c)))) (sym before)
    (subst (Passes clauses (pre ++ (x ∷ zs))) after
    (passes_becoming clauses (pre ++ (x ∷ zs)) (pre ++ (Credit 0 [] ∷ zs)) becomes
    (lead-grows pre (x ∷ zs) (Credit 0 [] ∷ zs) (omega arith))))
  where
    side_clash : is_side v.kind (length v.left) ≡ true → ⊥
    side_clash s = let both : false ≡ true = sym off ∙ s in cc

-- what wakes
abbrev pub EndWakes : List Clause → Type 0
EndWakes clauses =
    (next : ℕ) (v : Level) (up : List Level) (c : TreeCredit) (b : Option Term) → Guards v (EndEntry b) → IsAround (v ∷ up) IsOpen
    → IsDistinct (v ∷ up) → count_around next (v ∷ up) ≡ 0
    → IsSound (pending_list (plug (v ∷ up) (Closed c))) → IsSound (pending_list (wakes next v up c (EndEntry b)).root)
    → Follows clauses (pending_list (plug (v ∷ up) (Closed c))) (pending_list (wakes next v up c (EndEntry b)).root)

abbrev pub FindallWakes : List Clause → Type 0
FindallWakes clauses =
    (next : ℕ) (v : Level) (up : List Level) (c : TreeCredit) (results : List Term) (l : Term) (f : Continuation ℕ)
    → Guards v (FindallEntry results l f) → IsAround (v ∷ up) IsOpen → IsDistinct (v ∷ up) → count_around next (v ∷ up) ≡ 0
    → IsSound (pending_list (plug (v ∷ up) (Closed c)))
    → IsSound (pending_list (wakes next v up (without_records c)
    (findall_goes_on v.number (with_results c.records (FindallEntry results l f)))).root)
    → Follows clauses (pending_list (plug (v ∷ up) (Closed c)))
    (pending_list (wakes next v up (without_records c)
    (findall_goes_on v.number (with_results c.records (FindallEntry results l f)))).root)

module _ (clauses : List Clause) (end_wakes : EndWakes clauses) (findall_wakes : FindallWakes clauses) where
  abbrev Ends : ℕ → List Level → TreeCredit → Type 0
  Ends next levels c = IsSound (pending_list (plug levels (Closed c))) → IsSound (pending_list (closes next levels c).root)
      → Follows clauses (pending_list (plug levels (Closed c))) (pending_list (closes next levels c).root)

  -- a node folds, or stays
  folds_follow : (next : ℕ) (v : Level) (up : List Level) (c : TreeCredit) (o : Option TreeCredit) → all_closed v c ≡ o
      → LeftSides v.kind v.left → is_side v.kind (length v.left) ≡ false → count_around v.number up ≡ 0 → IsAround up IsOpen
      → under_query (way_of up) ≡ true → ((d : TreeCredit) → Ends next up d) → IsSound (pending_list (plug (v ∷ up) (Closed c)))
      → IsSound (pending_list (folds next v up c o (closes next up)).root)
      → Follows clauses (pending_list (plug (v ∷ up) (Closed c))) (pending_list (folds next v up c o (closes next up)).root)
  folds_follow next v up c None q s off z a u go i j = follows_itself clauses (pending_list (plug (v ∷ up) (Closed c)))
  folds_follow next v [] c (Some total) q s off z a u go i j = follows_itself clauses (pending_list (plug (v ∷ []) (Closed c)))
  folds_follow next v (u ∷ up) c (Some total) q s off z a asked go i j =
      let d = added (credit_of u.spent) total in
      let p = fold_passes clauses v (u ∷ up) c total s off q z a (back_end (u ∷ up) a asked) in
      let p2 : Passes clauses (pending_list (plug (v ∷ u ∷ up) (Closed c))) (pending_list (plug (u ∷ up) (Closed d))) = subst
      (Passes clauses (pending_list (plug (v ∷ u ∷ up) (Closed c)))) (sym (closed_list (u ∷ up) d)) p in
      follows_then clauses (pending_list (plug (v ∷ u ∷ up) (Closed c))) (pending_list (plug (u ∷ up) (Closed d))) _ p2.follows
      (go d (p2.sound i) j)

  pub closes_follow : (next : ℕ) (levels : List Level) (c : TreeCredit) → IsAround levels IsOpen → IsDistinct levels
      → count_around next levels ≡ 0 → HaveNoSideRecords levels → under_query (way_of levels) ≡ true → Ends next levels c
  closes_follow next [] c a d fresh s asked i j = follows_itself clauses _
  closes_follow next (v ∷ up) c a d fresh s asked i j = pick (guarded v) refl
      (λ u x. closes_follow next up x a.1 (distinct-up v up d) (omega (arith, fresh)) s.1 u) j
    where
      -- the query is above a node whose end does not sleep here
      above : (o : Option Entry) → guarded v ≡ o → ((b : Option Term) → o ≡ Some (EndEntry b) → ⊥) → under_query (way_of up) ≡ true
      above o g other = go (query_here v up a.0 asked)
        where
          go : (is_query v.kind ≡ true × HasQueryEnd v) ⊎ ((is_query v.kind ≡ false) × (under_query (way_of up) ≡ true))
              → under_query (way_of up) ≡ true
          go (inl q) = let e = guards_end v q.1 in absurd (other e.0 (sym g ∙ e.1))
          go (inr q) = q.1

      pick : (o : Option Entry) → guarded v ≡ o → (under_query (way_of up) ≡ true → (x : TreeCredit) → Ends next up x)
          → IsSound (pending_list (goal_side_closes next v up c o (closes next up)).root)
          → Follows clauses (pending_list (plug (v ∷ up) (Closed c)))
          (pending_list (goal_side_closes next v up c o (closes next up)).root)
      pick None g f j = let u = above None g (λ b e. let no_way : ⊥ = cc in no_way) in folds_follow next v up c (all_closed v c) refl s.0
          (no_side v up a.0 None g tt) (none_above v up d) a.1 u (f u) i j
      pick (Some (PlainEntry x)) g f j = let u = above (Some (PlainEntry x)) g (λ b e. let no_way : ⊥ = cc in no_way) in folds_follow
          next v up c (all_closed v c) refl s.0 (no_side v up a.0 (Some (PlainEntry x)) g tt) (none_above v up d) a.1 u (f u) i j
      pick (Some (EndEntry b)) g f j = end_wakes next v up c b (guards_of v up (EndEntry b) a.0 g) a d fresh i j
      pick (Some (FindallEntry results l x)) g f j = findall_wakes next v up c results l x
          (guards_of v up (FindallEntry results l x) a.0 g) a d fresh i j
      pick (Some (CatchEntry k r x)) g f j =
          let off = no_side v up a.0 (Some (CatchEntry k r x)) g tt in
          let u = above (Some (CatchEntry k r x)) g (λ b e. let no_way : ⊥ = cc in no_way) in
          let gone = with_right (Closed no_credit) v in
          let p = gone_passes clauses v up c k r x (guards_of v up (CatchEntry k r x) a.0 g) off (none_above v up d) a.1 in
          follows_then clauses (pending_list (plug (v ∷ up) (Closed c))) (pending_list (plug (gone ∷ up) (Closed c))) _ p.follows
          (folds_follow next gone up c (all_closed gone c) refl s.0 off (none_above v up d) a.1 u (f u) (p.sound i) j)
