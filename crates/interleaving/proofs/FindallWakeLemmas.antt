-- What follows a findall wakes, with the results that its goal side has left.
use Rattle.std.proofs.Common.{◌≡◌, ℕ, suc, ◌+◌, ◌≤◌, ◌==◌, Bool, true, false, cond, List, [], ◌∷◌, ◌++◌, map, length, refl, sym, ap, ◌∙◌}
use Rattle.std.proofs.Common.{subst, arith, codes}
use Rattle.std.specs.Prelude.{◌&&◌}
use Rattle.au_term.specs.Term.{Term}
use Rattle.au_model.specs.Terms.Each.{Each}
use Rattle.au_model.specs.Terms.Forms.{binary, list_term}
use Rattle.au_model.specs.Terms.Copies.{copied, copy_takes}
use Rattle.run_model.specs.Programs.Clauses.{Clause}
use Rattle.run_model.specs.Machine.Items.{GoalItem, Continuation, with_next, before}
use Rattle.run_model.specs.Machine.Entries.{Entry, PlainEntry, FindallEntry}
use Rattle.tree_model.specs.Credits.{without_records}
use Rattle.tree_model.specs.Nodes.{Kind, ChoiceNode, CatchNode, FindallNode, QueryNode, Closed}
use Rattle.tree_model.specs.Levels.{Level, plug}
use Rattle.tree_model.specs.Pruning.{is_findall}
use Rattle.tree_model.specs.Floors.{renamed_item}
use Rattle.tree_model.specs.Closing.{wakes, findall_goes_on, with_results}
use Rattle.tree_model.specs.Elements.{Name, same, Record, Element, Credit, Plain, EndOf, Findall}
use Rattle.tree_model.specs.PendingLists.{Way, way_of, scope_on, findall_on, balance_on, element_on, named_continuation, list_left}
use Rattle.tree_model.specs.PendingLists.{pending_list, front_of, back_of}
use Rattle.tree_model.specs.Ways.{is_on, IsAsked}
use Rattle.tree_model.specs.SoundTrees.{IsOpen, IsDormant, profiles, is_shape, AreSound}
use Rattle.tree_model.proofs.CountLemmas.{count_around}
use Rattle.interleaving.specs.Views.{IsBlind}
use Rattle.interleaving.specs.Sound.{IsSound}
use Rattle.interleaving.specs.Erased.{erased}
use Rattle.interleaving.specs.Machine.{gives, Becomes}
use Rattle.interleaving.specs.Scopes.{scoped, act, give, results_first}
use Rattle.interleaving.specs.Segments.{outer}
use Rattle.interleaving.specs.Laws.{is_inner_record, IsSegment}
use Rattle.interleaving.specs.Quiet.{inferences, records}
use Rattle.interleaving.specs.Follows.{lead, Follows}
use Rattle.interleaving.proofs.ContextLemmas.{IsLevel, put_profiles}
use Rattle.interleaving.proofs.WayLemmas.{cond-true, cond-false, other_number}
use Rattle.interleaving.proofs.AppendLemmas.{append-assoc, each-append, append-nil}
use Rattle.interleaving.proofs.RootLemmas.{are_distinguished}
use Rattle.interleaving.proofs.RunHeightLemmas.{names_are_free}
use Rattle.interleaving.proofs.ListChangeLemmas.{no_credit, woken_early}
use Rattle.interleaving.proofs.LeadLemmas.{lead-grows, follows_then, follows_becoming}
use Rattle.interleaving.proofs.BlindLemmas.{of_node, beside, front_blind, back_under, off_levels, items_apart, scope_apart}
use Rattle.interleaving.proofs.RenameLemmas.{same_front, end_put, items_same}
use Rattle.interleaving.proofs.ClosingListLemmas.{Guards, none_above, FindallWakes}
use Rattle.interleaving.proofs.WakeLemmas.{before_wake, after_wake, not_next}
use Rattle.au_term.proofs.LogicLemmas.{numbers_turned, false_true, number_same}

-- the entry with the results of its goal side, by heights and by names
pub record Gathered (clauses : List Clause) (n : ℕ) (way : Way) (ts rs : List Term) (l : Term) (f : Continuation ℕ) : Type 0 where
  pub results : List Term
  pub next : ℕ
  pub by_tree : with_results ts (FindallEntry rs l f) ≡ FindallEntry results l (with_next next f)
  pub by_list : gives (scoped clauses) (map (λ (t : Term). ((0 ∷ n ∷ []), t)) ts)
      (Findall (0 ∷ n ∷ []) (1 ∷ n ∷ []) rs l (0 ∷ 1 ∷ n ∷ []) (named_continuation way f)) ≡ Findall (0 ∷ n ∷ []) (1 ∷ n ∷ []) results l
      (0 ∷ 1 ∷ n ∷ []) (with_next next (named_continuation way f))

pub gathered : (clauses : List Clause) (n : ℕ) (way : Way) (ts rs : List Term) (l : Term) (f : Continuation ℕ)
    → Gathered clauses n way ts rs l f
gathered clauses n way [] rs l f = record { results = rs; next = f.next; by_tree = refl; by_list = refl }
gathered clauses n way (t ∷ ts) rs l f =
    let h = gathered clauses n way ts (rs ++ copied t f.next ∷ []) l (with_next (f.next + copy_takes t) f) in
    let itself : (same_name n) ≡ true = ap (λ b. true && (b && true)) (number_same n) in
    let one : give ((0 ∷ n ∷ []), t) (Findall (0 ∷ n ∷ []) (1 ∷ n ∷ []) rs l (0 ∷ 1 ∷ n ∷ []) (named_continuation way f))
    ≡ Findall (0 ∷ n ∷ []) (1 ∷ n ∷ []) (rs ++ copied t f.next ∷ []) l (0 ∷ 1 ∷ n ∷ [])
    (with_next (f.next + copy_takes t) (named_continuation way f)) = cond-true (same_name n) _ _ itself in
    record {
      results = h.results;
      next = h.next;
      by_tree = h.by_tree;
      by_list = ap
          (gives (scoped clauses) (map (λ (t : Term). ((0 ∷ n ∷ []), t)) ts)) one ∙ h.by_list;
    }
  where
    same_name : ℕ → Bool
    same_name n = same (0 ∷ n ∷ []) (0 ∷ n ∷ [])

-- the node of a findall
findall_node : (v : Level) (up : List Level) (rs : List Term) (l : Term) (f : Continuation ℕ) → IsLevel up v IsOpen
    → Guards v (FindallEntry rs l f) → v.kind ≡ FindallNode
findall_node v up rs l f i g = go v.kind refl
    (subst (λ r. is_shape v.kind (IsOpen ∷ profiles r) ≡ true) g.right
    (subst (λ left. is_shape v.kind (put_profiles left (IsOpen ∷ profiles v.right)) ≡ true) g.left i.shape))
  where
    go : (k : Kind) → v.kind ≡ k → is_shape k (IsOpen ∷ IsDormant FindallNode ∷ []) ≡ true → k ≡ FindallNode
    go FindallNode e h = refl
    go ChoiceNode e h = false_true h
    go CatchNode e h = false_true h
    go QueryNode e h = false_true h

all_inner : (n : ℕ) (ts : List Term) → outer (is_inner_record (of_node n)) (map (λ (t : Term). ((0 ∷ n ∷ []), t)) ts) ≡ []
all_inner n [] = refl
all_inner n (t ∷ ts) = cond-true (n == n) _ _ (number_same n) ∙ all_inner n ts

-- the names in an entry that wakes below a new node
named_below : (next n : ℕ) (kind : Kind) (way : Way) (f : Continuation ℕ) → (n == next) ≡ false → is_on way next ≡ false
    → IsAsked way f.items → (t : Term)
    → named_continuation (record { node = next; index = 0; kind = ChoiceNode } ∷ record { node = n; index = 1; kind = kind } ∷ way)
    (before (GoalItem t n ∷ []) f) ≡ before (GoalItem t (1 ∷ n ∷ []) ∷ [])
    (named_continuation (record { node = n; index = 1; kind = kind } ∷ way) f)
named_below next n kind way f e o i t =
    let far : Way = record { node = next; index = 0; kind = ChoiceNode } ∷ record { node = n; index = 1; kind = kind } ∷ way in
    let near : Way = record { node = n; index = 1; kind = kind } ∷ way in
    let here : scope_on far n ≡ 1 ∷ n ∷ [] = cond-false (next == n) _ _ (numbers_turned n next e)
    ∙ cond-true (n == n) _ (scope_on way n) (number_same n) in
    let rest : map (renamed_item (scope_on far) (scope_on far)) f.items ≡ map (renamed_item (scope_on near) (scope_on near)) f.items =
    items_same n far near way f.items (λ s k. cond-false (next == s) _ _ (other_number way next s o k (next == s) refl)) i.scoped in
    ap (λ is. record { items = is; named = f.named; next = f.next })
    (ap (λ x. GoalItem t x ∷ map (renamed_item (scope_on far) (scope_on far)) f.items) here
    ∙ ap (λ is. GoalItem t (1 ∷ n ∷ []) ∷ is) rest)

pub findall_wakes : (clauses : List Clause) → FindallWakes clauses
findall_wakes clauses next v up c rs l f g a d fresh i j =
    let n = v.number in
    let way = way_of up in
    let near : Way = record { node = n; index = 1; kind = v.kind } ∷ way in
    let far : Way = record { node = next; index = 0; kind = ChoiceNode } ∷ near in
    let h = gathered clauses n near c.records rs l f in
    let goal = binary (codes "=") l (list_term h.results) in
    let woken : Entry = PlainEntry (before (GoalItem goal n ∷ []) (with_next h.next f)) in
    let entry : findall_goes_on n (with_results c.records (FindallEntry rs l f)) ≡ woken = ap (findall_goes_on n) h.by_tree in
    let side : findall_on (way_of (v ∷ up)) ≡ 0 ∷ n ∷ [] = cond-true (is_findall v.kind) _ _
    (ap is_findall (findall_node v up rs l f a.0 g)) ∙ ap (λ x. cond (length x == 0) (0 ∷ n ∷ []) (findall_on way)) g.left in
    let credit : balance_on (way_of (v ∷ up)) c ≡ Credit c.inferences (map (λ (t : Term). ((0 ∷ n ∷ []), t)) c.records) = ap
    (λ (x : Name). Credit c.inferences (map {B = Record} (λ t. (x, t)) c.records)) side in
    let front = front_of (v ∷ up) in
    let zs = EndOf (1 ∷ n ∷ []) ∷ back_of up in
    let x = Findall (0 ∷ n ∷ []) (1 ∷ n ∷ []) rs l (0 ∷ 1 ∷ n ∷ []) (named_continuation near f) in
    let y = Plain (0 ∷ 1 ∷ n ∷ []) (results_first h.results l (1 ∷ n ∷ []) (with_next h.next (named_continuation near f))) in
    let xs : List Element = Credit c.inferences (map (λ (t : Term). ((0 ∷ n ∷ []), t)) c.records) ∷ EndOf (0 ∷ n ∷ []) ∷ [] in
    let empty = none_above v up d in
    let blind : Each (IsBlind (of_node n)) front = each-append (IsBlind (of_node n)) (front_of up) _ (front_blind n up empty a.1)
    (tt, subst (λ x. Each (IsBlind (of_node n)) (list_left way n v.kind x)) (sym g.left) tt) in
    let segment : IsSegment (of_node n) front (xs ++ (x ∷ [])) zs = record {
      grown = are_distinguished.root (λ m. m == n);
      front = blind;
      own = (tt, (number_same n, ((number_same n, number_same n), tt)));
      under =
          (tt, back_under n up empty a.1);
      some = omega arith;
    } in
    let rows : records xs ≡ map (λ (t : Term). ((0 ∷ n ∷ []), t)) c.records = append-nil _ in
    let wakes_at : act clauses (gives (scoped clauses) (records xs) x) ≡ Becomes y = ap (λ qs. act clauses (gives (scoped clauses) qs x))
    rows ∙ ap (act clauses) h.by_list in
    let becomes = woken_early clauses (of_node n) xs x y front zs tt wakes_at segment in
    let gone : outer (is_inner_record (of_node n)) (records xs) ≡ [] = ap (outer (is_inner_record (of_node n))) rows
    ∙ all_inner n c.records in
    let total : inferences xs ≡ c.inferences = omega arith in
    let mid = front ++ (Credit (inferences xs) (outer (is_inner_record (of_node n)) (records xs)) ∷ (y ∷ zs)) in
    let mid_is : mid ≡ (front ++ (Credit c.inferences [] ∷ [])) ++ (y ∷ zs) = ap
    (λ k. front ++ (Credit k (outer (is_inner_record (of_node n)) (records xs)) ∷ (y ∷ zs))) total
    ∙ (ap (λ qs. front ++ (Credit c.inferences qs ∷ (y ∷ zs))) gone
    ∙ sym (append-assoc front (Credit c.inferences [] ∷ []) (y ∷ zs))) in
    let before_is : pending_list (plug (v ∷ up) (Closed c)) ≡ front ++ ((xs ++ (x ∷ [])) ++ zs) = before_wake v up c
    (FindallEntry rs l f) g ∙ (append-assoc front _ (x ∷ zs) ∙ ap (λ b. front ++ (b ∷ (EndOf (0 ∷ n ∷ []) ∷ (x ∷ zs)))) credit) in
    let first = follows_becoming clauses (front ++ ((xs ++ (x ∷ [])) ++ zs)) mid becomes
    (lead-grows front ((xs ++ (x ∷ [])) ++ zs)
    (Credit (inferences xs) (outer (is_inner_record (of_node n)) (records xs)) ∷ (y ∷ zs)) (omega arith)) in
    -- the new list
    let pre = front ++ (Credit c.inferences [] ∷ EndOf (0 ∷ n ∷ []) ∷ []) in
    let y2 = element_on far woken in
    let ys = y2 ∷ (EndOf (0 ∷ next ∷ []) ∷ zs) in
    let root = (wakes next v up (without_records c) (findall_goes_on n (with_results c.records (FindallEntry rs l f)))).root in
    let after_is : pending_list root ≡ pre ++ (Credit 0 [] ∷ (Credit 0 [] ∷ ys)) = ap
    (λ e. pending_list (wakes next v up (without_records c) e).root) entry ∙ after_wake next v up (without_records c) woken
    g.left in
    -- their heights
    let asked : IsAsked way f.items =
    (subst (λ r. AreSound way n v.kind 1 r) g.right
    (subst (λ q. AreSound way n v.kind (suc (length q)) v.right) g.left a.0.right)).0.0 in
    let same_entry : Plain (0 ∷ 0 ∷ next ∷ []) (results_first h.results l (1 ∷ n ∷ []) (with_next h.next (named_continuation near f)))
    ≡ y2 = ap (λ k. Plain (0 ∷ 0 ∷ next ∷ []) k)
    (sym (named_below next n v.kind way (with_next h.next f) (not_next next v up fresh) (off_levels next up (above_fresh fresh))
    asked goal)) in
    let blind_n : Each (IsBlind (of_node n)) (front ++ (Credit c.inferences [] ∷ [])) = each-append (IsBlind (of_node n)) front _ blind
    (tt, tt) in
    let put_n : erased ((front ++ (Credit c.inferences [] ∷ [])) ++ (y ∷ zs))
    ≡ erased (pre ++ (y ∷ zs)) = end_put n 0 (front ++ (Credit c.inferences [] ∷ [])) (y ∷ zs) (number_same n) blind_n
    ∙ ap erased (append-assoc front (Credit c.inferences [] ∷ []) (EndOf (0 ∷ n ∷ []) ∷ (y ∷ zs))
    ∙ sym (append-assoc front (Credit c.inferences [] ∷ EndOf (0 ∷ n ∷ []) ∷ []) (y ∷ zs))) in
    let blind_y : IsBlind (of_node next) y = (
      beside next 1 n (not_next next v up fresh),
      (
        not_next next v up fresh,
        items_apart next near way f.items (λ s k. scope_apart next near s (near_fresh fresh) (behind s k))
            asked.scoped,
      ),
    ) in
    let blind_next : Each (IsBlind (of_node next)) (pre ++ (y ∷ [])) = each-append (IsBlind (of_node next)) pre (y ∷ [])
    (each-append (IsBlind (of_node next)) front _ (front_blind next (v ∷ up) fresh a) (tt, (tt, tt))) (blind_y, tt) in
    let put_next : erased (pre ++ (y ∷ zs)) ≡ erased (pre ++ (y ∷ (EndOf (0 ∷ next ∷ []) ∷ zs))) = ap erased
    (sym (append-assoc pre (y ∷ []) zs))
    ∙ (end_put next 0 (pre ++ (y ∷ [])) zs (number_same next) blind_next
    ∙ ap erased (append-assoc pre (y ∷ []) (EndOf (0 ∷ next ∷ []) ∷ zs))) in
    let named = (same_front pre (y ∷ (EndOf (0 ∷ next ∷ []) ∷ zs))
    (Plain (0 ∷ 0 ∷ next ∷ []) (results_first h.results l (1 ∷ n ∷ []) (with_next h.next (named_continuation near f)))
    ∷ (EndOf (0 ∷ next ∷ []) ∷ zs)) (record { entries = refl; counts = refl; heights = λ s. refl })).entries in
    let heights : erased mid ≡ erased (pre ++ ys) = ap erased mid_is
    ∙ (put_n ∙ (put_next ∙ (named ∙ ap (λ e. erased (pre ++ (e ∷ (EndOf (0 ∷ next ∷ []) ∷ zs)))) same_entry))) in
    let mid_sound : IsSound mid = becomes.sound (subst IsSound before_is i) in
    let one_credit = no_credit clauses pre (Credit 0 [] ∷ ys) in
    let two_credit = no_credit clauses pre ys in
    let free = names_are_free clauses mid (pre ++ ys) mid_sound (two_credit.sound (one_credit.sound (subst IsSound after_is j))) heights in
    let second : Follows clauses mid (pre ++ (Credit 0 [] ∷ (Credit 0 [] ∷ ys))) = record {
      alike = λ k w b. free k w ∙ (sym (two_credit.alike k w) ∙ sym (one_credit.alike k w));
      lead = λ m b k. subst (λ xs. m ≤ lead xs)
          (sym (append-assoc front (Credit c.inferences [] ∷ EndOf (0 ∷ n ∷ []) ∷ []) (Credit 0 [] ∷ (Credit 0 [] ∷ ys))))
          (up_to m (lead-grows front (Credit (inferences xs) (outer (is_inner_record (of_node n)) (records xs)) ∷ (y ∷ zs))
          (Credit c.inferences [] ∷ (EndOf (0 ∷ n ∷ []) ∷ (Credit 0 [] ∷ (Credit 0 [] ∷ ys)))) (omega arith)) k);
    } in
    subst (λ xs. Follows clauses xs (pending_list root)) (sym before_is)
    (subst (Follows clauses (front ++ ((xs ++ (x ∷ [])) ++ zs))) (sym after_is) (follows_then clauses _ mid _ first second))
  where
    above_fresh : count_around next (v ∷ up) ≡ 0 → count_around next up ≡ 0
    above_fresh f = omega (arith, f)

    near_fresh : count_around next (v ∷ up) ≡ 0 → is_on (record { node = v.number; index = 1; kind = v.kind } ∷ way_of up) next ≡ false
    near_fresh f = cond-false (v.number == next) true _ (not_next next v up f) ∙ off_levels next up (above_fresh f)

    behind : (s : ℕ) → is_on (way_of up) s ≡ true → is_on (record { node = v.number; index = 1; kind = v.kind } ∷ way_of up) s ≡ true
    behind s k = at (v.number == s)
      where
        at : (b : Bool) → cond b true (is_on (way_of up) s) ≡ true
        at true = refl
        at false = k

    up_to : (m : ℕ) {a b : ℕ} → a ≤ b → m ≤ a → m ≤ b
    up_to m h k = omega (arith, h, k)
