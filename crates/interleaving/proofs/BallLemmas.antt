-- Where a ball lands, the tree stays sound.
use Rattle.std.proofs.Common.{◌≡◌, ℕ, suc, ◌-◌, ◌≤◌, ◌==◌, Bool, true, false, cond, List, [], ◌∷◌, map, length, Option, Some, None, refl}
use Rattle.std.proofs.Common.{sym, ap, ◌∙◌, subst, arith}
use Rattle.au_term.specs.Term.{Term}
use Rattle.au_model.specs.Terms.Substitutions.{Substitution}
use Rattle.run_model.specs.Machine.Items.{Item, GoalItem, CatchMark, CollectMark, RemovalItem, Continuation, resolve_item}
use Rattle.run_model.specs.Machine.Entries.{Entry, PlainEntry, CatchEntry, FindallEntry, EndEntry}
use Rattle.run_model.specs.Machine.Balls.{taken_by, next_mark, recovered, unwound}
use Rattle.tree_model.specs.Credits.{Credit}
use Rattle.tree_model.specs.Nodes.{Kind, ChoiceNode, CatchNode, FindallNode, QueryNode, Alternatives, Status, Closed}
use Rattle.tree_model.specs.Levels.{Level}
use Rattle.tree_model.specs.Floors.{height_of, node_of, with_nodes, query_kind, query_node}
use Rattle.tree_model.specs.Closing.{Grown, wakes}
use Rattle.tree_model.specs.Pruning.{left_after, ball_closes}
use Rattle.tree_model.specs.PendingLists.{Step, Way, way_of}
use Rattle.tree_model.specs.Ways.{is_on, in_reach, way_from, AreScoped, is_query, under_query, IsAsked}
use Rattle.tree_model.specs.SoundTrees.{IsOpen}
use Rattle.interleaving.proofs.ContextLemmas.{IsLevel, IsAround}
use Rattle.interleaving.proofs.WayLemmas.{cond-true, cond-false, cond-same, other_number}
use Rattle.interleaving.proofs.RoundtripLemmas.{by_nodes, by_heights, at_heights, height_low}
use Rattle.interleaving.proofs.ClosingSoundLemmas.{IsSoundGrown, IsFree, free-above, woken_sound}
use Rattle.interleaving.proofs.MarkLemmas.{under_rest}
use Rattle.interleaving.proofs.EntryLemmas.{resolved_scoped, own_height}
use Rattle.au_term.proofs.LogicLemmas.{not_equal, number_same}

-- a naming of heights that is the floor's as far as the floor goes
abbrev pub NamesFloor : (ℕ → ℕ) → List Level → Type 0
NamesFloor node levels = (h : ℕ) → h ≤ length levels → node h ≡ node_of levels h

pub names-above : (node : ℕ → ℕ) (v : Level) (up : List Level) → NamesFloor node (v ∷ up) → NamesFloor node up
names-above node v up a h l = a h (omega arith) ∙ cond-false (h == suc (length up)) v.number (node_of up h)
    (not_equal h (suc (length up)) (omega arith))

pub node_on : (levels : List Level) (h : ℕ) → 1 ≤ h → h ≤ length levels → is_on (way_of levels) (node_of levels h) ≡ true
node_on [] h l k = let no_way : ⊥ = omega arith in absurd no_way
node_on (v ∷ up) h l k = go (h == suc (length up)) refl (node_on up h l)
  where
    go : (b : Bool) → (h == suc (length up)) ≡ b → (h ≤ length up → is_on (way_of up) (node_of up h) ≡ true)
        → is_on (way_of (v ∷ up)) (cond b v.number (node_of up h)) ≡ true
    go true e f = cond-true (v.number == v.number) true _ (number_same v.number)
    go false e f = let low : h ≤ length up = grind arith in cond-same (v.number == node_of up h) true _ (f low)

-- what a ball leaves of a stack
abbrev pub IsLow : ℕ → List Entry → Type 0
IsLow n [] = ⊥
IsLow n (PlainEntry f ∷ es) = suc (length es) ≤ n
IsLow n (EndEntry b ∷ es) = Unit {0}
IsLow n (CatchEntry c r f ∷ es) = ⊥
IsLow n (FindallEntry results l f ∷ es) = ⊥

low-more : (n : ℕ) (es : List Entry) → IsLow n es → IsLow (suc n) es
low-more n (PlainEntry f ∷ es) h = omega arith
low-more n (EndEntry b ∷ es) h = tt
low-more n (CatchEntry c r f ∷ es) h = absurd h
low-more n (FindallEntry results l f ∷ es) h = absurd h
low-more n [] h = absurd h

recovered_low : (o : Option Substitution) (ball r : Term) (f : Continuation ℕ) (es further : List Entry) → IsLow (length es) further
    → IsLow (suc (length es)) (recovered o ball r f es further)
recovered_low None ball r f es further h = low-more (length es) further h
recovered_low (Some s) ball r f es further h = omega arith

pub ball_scope_low : (ball : Term) (mark : Option ℕ) (es : List Entry) → IsLow (length es) (unwound ball mark es)
ball_scope_low ball mark [] = tt
ball_scope_low ball mark (CatchEntry c r f ∷ es) = recovered_low (taken_by mark (length es) ball c f) ball r f es
    (unwound ball (next_mark mark (length es) f) es) (ball_scope_low ball (next_mark mark (length es) f) es)
ball_scope_low ball mark (PlainEntry f ∷ es) = low-more (length es) _ (ball_scope_low ball mark es)
ball_scope_low ball mark (FindallEntry results l f ∷ es) = low-more (length es) _ (ball_scope_low ball mark es)
ball_scope_low ball mark (EndEntry b ∷ es) = low-more (length es) _ (ball_scope_low ball mark es)

-- the tree after a ball has left this of a stack
abbrev pub catching_scope : (ℕ → ℕ) → ℕ → List Entry → ℕ
catching_scope node q (PlainEntry f ∷ es) = node (suc (length es))
catching_scope node q (EndEntry b ∷ es) = q
catching_scope node q (CatchEntry c r f ∷ es) = q
catching_scope node q (FindallEntry results l f ∷ es) = q
catching_scope node q [] = q

abbrev pub fallen : (ℕ → ℕ) → ℕ → ℕ → List Level → Credit → List Entry → Grown
fallen node q next levels c [] = record { root = Closed c; next = next }
fallen node q next levels c (e ∷ es) = ball_closes next (catching_scope node q (e ∷ es)) levels c (with_nodes node e)

-- the levels above a node that a ball falls along
pub record IsFalling (node : ℕ → ℕ) (q next : ℕ) (levels : List Level) : Type 0 where
  pub names : NamesFloor node levels
  pub asked : under_query (way_of levels) ≡ true
  pub query : q ≡ query_node levels
  pub around : IsAround levels IsOpen
  pub free : IsFree next levels

above_query : (k : Kind) (n m : ℕ) → is_query k ≡ false → query_kind k n m ≡ m
above_query ChoiceNode n m h = refl
above_query CatchNode n m h = refl
above_query FindallNode n m h = refl
above_query QueryNode n m h = let no_way : ⊥ = cc in absurd no_way

pub falls-above : (node : ℕ → ℕ) (q next : ℕ) (v : Level) (up : List Level) → is_query v.kind ≡ false → IsFalling node q next (v ∷ up)
    → IsFalling node q next up
falls-above node q next v up n h = record {
  names = names-above node v up h.names;
  asked = under_rest v.kind (length v.left == 0) (under_query (way_of up)) n h.asked;
  query = h.query ∙ above_query v.kind v.number (query_node up) n;
  around = h.around.1;
  free = free-above next v up h.free;
}

query_on : (levels : List Level) → under_query (way_of levels) ≡ true → is_on (way_of levels) (query_node levels) ≡ true
query_on [] h = let no_way : ⊥ = cc in absurd no_way
query_on (v ∷ up) h = go v.kind (query_on up) h
  where
    go : (k : Kind) → (under_query (way_of up) ≡ true → is_on (way_of up) (query_node up) ≡ true)
        → cond (is_query k) (length v.left == 0) (under_query (way_of up)) ≡ true
        → is_on (way_of (v ∷ up)) (query_kind k v.number (query_node up)) ≡ true
    go QueryNode f k = cond-true (v.number == v.number) true _ (number_same v.number)
    go ChoiceNode f k = cond-same (v.number == query_node up) true _ (f k)
    go CatchNode f k = cond-same (v.number == query_node up) true _ (f k)
    go FindallNode f k = cond-same (v.number == query_node up) true _ (f k)

-- at the query's node
ends_here : (next n : ℕ) (kind : Kind) (left : List (ℕ × Status)) (spent : ℕ) (right : Alternatives) (up : List Level) (c : Credit)
    (b : Option Term) →
    let v : Level = record { number = n; kind = kind; left = left; spent = spent; right = right } in
    (length left == 0) ≡ true → IsLevel up v IsOpen → IsAround up IsOpen → IsFree next (v ∷ up)
    → IsSoundGrown (wakes next v up c (EndEntry b))
ends_here next n kind [] spent right up c b e h k f = woken_sound next n kind spent right up c (EndEntry b) h k f refl tt
ends_here next n kind (a ∷ left) spent right up c b e h k f = let no_way : ⊥ = grind arith in absurd no_way

-- a ball goes on above a level
goes_up : (next scope : ℕ) (v : Level) (up : List Level) (c : Credit) (e : Entry) → (v.number == scope) ≡ false
    → IsSoundGrown (ball_closes next scope up (left_after v c) e) → IsSoundGrown (ball_closes next scope (v ∷ up) c e)
goes_up next scope v up c e h k = subst IsSoundGrown
    (sym (cond-false (v.number == scope) (wakes next v up (left_after v c) e) (ball_closes next scope up (left_after v c) e) h)) k

pub stops_here : (next scope : ℕ) (v : Level) (up : List Level) (c : Credit) (e : Entry) → (v.number == scope) ≡ true
    → IsSoundGrown (wakes next v up (left_after v c) e) → IsSoundGrown (ball_closes next scope (v ∷ up) c e)
stops_here next scope v up c e h k = subst IsSoundGrown
    (sym (cond-true (v.number == scope) (wakes next v up (left_after v c) e) (ball_closes next scope up (left_after v c) e) h)) k

-- a ball that nothing takes
pub ends_sound : (node : ℕ → ℕ) (q next : ℕ) (levels : List Level) (c : Credit) (b : Option Term) → IsFalling node q next levels
    → IsSoundGrown (ball_closes next q levels c (EndEntry b))
ends_sound node q next [] c b h = let no_way : ⊥ = no_end h.asked in absurd no_way
  where
    no_end : false ≡ true → ⊥
    no_end e = cc
ends_sound node q next (v ∷ up) c b h = go (is_query v.kind) refl (λ n d. ends_sound node q next up d b (falls-above node q next v up n h))
  where
    is_query_kind : (k : Kind) (n m : ℕ) → is_query k ≡ true → query_kind k n m ≡ n
    is_query_kind QueryNode n m e = refl
    is_query_kind ChoiceNode n m e = let no_way : ⊥ = cc in absurd no_way
    is_query_kind CatchNode n m e = let no_way : ⊥ = cc in absurd no_way
    is_query_kind FindallNode n m e = let no_way : ⊥ = cc in absurd no_way

    go : (b' : Bool) → is_query v.kind ≡ b' → (is_query v.kind ≡ false → (d : Credit) → IsSoundGrown (ball_closes next q up d (EndEntry b)))
        → IsSoundGrown (ball_closes next q (v ∷ up) c (EndEntry b))
    go true e f =
        let same : q ≡ v.number = h.query ∙ is_query_kind v.kind v.number (query_node up) e in
        let first : (length v.left == 0) ≡ true = sym (cond-true (is_query v.kind) (length v.left == 0) (under_query (way_of up)) e)
        ∙ h.asked in
        stops_here next q v up c (EndEntry b) (ap (λ m. v.number == m) same ∙ number_same v.number)
        (ends_here next v.number v.kind v.left v.spent v.right up (left_after v c) b first h.around.0 h.around.1 h.free)
    go false e f =
        let above = falls-above node q next v up e h in
        let on : is_on (way_of up) q ≡ true = subst (λ m. is_on (way_of up) m ≡ true) (sym above.query) (query_on up above.asked) in
        goes_up next q v up c (EndEntry b) (other_number (way_of up) v.number q h.around.0.new on (v.number == q) refl)
        (f e (left_after v c))

-- a ball passes a level
pub passes : (node : ℕ → ℕ) (q next : ℕ) (v : Level) (up : List Level) (c : Credit) (es : List Entry) → is_query v.kind ≡ false
    → IsFalling node q next (v ∷ up) → IsLow (length up) es → ((d : Credit) → IsSoundGrown (fallen node q next up d es))
    → IsSoundGrown (fallen node q next (v ∷ up) c es)
passes node q next v up c [] n h l f = absurd l
passes node q next v up c (CatchEntry x r g ∷ es) n h l f = absurd l
passes node q next v up c (FindallEntry results x g ∷ es) n h l f = absurd l
passes node q next v up c (EndEntry b ∷ es) n h l f = ends_sound node q next (v ∷ up) c b h
passes node q next v up c (PlainEntry g ∷ es) n h l f =
    let names : NamesFloor node up = names-above node v up h.names in
    let on : is_on (way_of up) (node (suc (length es))) ≡ true = subst (λ m. is_on (way_of up) m ≡ true)
    (sym (names (suc (length es)) l)) (node_on up (suc (length es)) (omega arith) l) in
    goes_up next (node (suc (length es))) v up c _
    (other_number (way_of up) v.number (node (suc (length es))) h.around.0.new on (v.number == node (suc (length es))) refl)
    (f (left_after v c))

-- the names of a floor's heights
pub names_same : (node : ℕ → ℕ) (u : Level) (up : List Level) (items : List (Item ℕ)) → NamesFloor node (u ∷ up)
    → by_nodes node (by_heights (u ∷ up) items) ≡ by_nodes (node_of (u ∷ up)) (by_heights (u ∷ up) items)
names_same node u up [] a = refl
names_same node u up (GoalItem t s ∷ items) a =
    let rest = names_same node u up items a in
    let here : node (height_of (u ∷ up) s) ≡ node_of (u ∷ up) (height_of (u ∷ up) s) = a (height_of (u ∷ up) s) (height_low (u ∷ up) s) in
    let both : by_nodes node (by_heights (u ∷ up) (GoalItem t s ∷ items))
    ≡ by_nodes (node_of (u ∷ up)) (by_heights (u ∷ up) (GoalItem t s ∷ items)) = cc in
    both
names_same node u up (CatchMark s ∷ items) a =
    let rest = names_same node u up items a in
    let low : height_of (u ∷ up) s ≤ suc (length up) = height_low (u ∷ up) s in
    let here : node (suc (height_of (u ∷ up) s - 1)) ≡ node_of (u ∷ up) (suc (height_of (u ∷ up) s - 1)) = a
    (suc (height_of (u ∷ up) s - 1)) (omega (arith, low)) in
    let both : by_nodes node (by_heights (u ∷ up) (CatchMark s ∷ items))
    ≡ by_nodes (node_of (u ∷ up)) (by_heights (u ∷ up) (CatchMark s ∷ items)) = cc in
    both
names_same node u up (CollectMark t s ∷ items) a =
    let rest = names_same node u up items a in
    let low : height_of (u ∷ up) s ≤ suc (length up) = height_low (u ∷ up) s in
    let here : node (suc (height_of (u ∷ up) s - 1)) ≡ node_of (u ∷ up) (suc (height_of (u ∷ up) s - 1)) = a
    (suc (height_of (u ∷ up) s - 1)) (omega (arith, low)) in
    let both : by_nodes node (by_heights (u ∷ up) (CollectMark t s ∷ items))
    ≡ by_nodes (node_of (u ∷ up)) (by_heights (u ∷ up) (CollectMark t s ∷ items)) = cc in
    both
names_same node u up (RemovalItem number ∷ items) a =
    let rest = names_same node u up items a in
    let both : by_nodes node (by_heights (u ∷ up) (RemovalItem number ∷ items))
    ≡ by_nodes (node_of (u ∷ up)) (by_heights (u ∷ up) (RemovalItem number ∷ items)) = cc in
    both

-- the recovery, on the way of the node that wakes
pub recovery_on : (node : ℕ → ℕ) (next n : ℕ) (kind : Kind) (up : List Level) (h : ℕ) → h ≡ length up
    → (goal : Term) (s : Substitution) (items : List (Item ℕ)) → NamesFloor node up → is_query kind ≡ false → (n == next) ≡ false
    → is_on (way_of up) n ≡ false → is_on (way_of up) next ≡ false →
    IsAsked (way_of up) items → IsAsked
    (record { node = next; index = 0; kind = ChoiceNode } ∷ record { node = n; index = 1; kind = kind } ∷ way_of up)
    (by_nodes node (map (resolve_item s) (GoalItem goal h ∷ by_heights up items)))
recovery_on node next n kind [] h e goal s items a k d o p i = let no_way : ⊥ = no_end i.asked in absurd no_way
  where
    no_end : false ≡ true → ⊥
    no_end e = cc
recovery_on node next n kind (u ∷ up) h e goal s items a k d o p i =
    let named : node h ≡ u.number = ap node e ∙ (a (suc (length up)) (omega arith) ∙ own_height u up) in
    let way : Way = way_of (u ∷ up) in
    let low : Step = record { node = n; index = 1; kind = kind } in
    let first : Step = record { node = next; index = 0; kind = ChoiceNode } in
    let self : (u.number == node h) ≡ true = ap (λ m. u.number == m) named ∙ number_same u.number in
    let on_up : is_on way (node h) ≡ true = cond-true (u.number == node h) true _ self in
    let other_n : (n == node h) ≡ false = other_number way n (node h) o on_up (n == node h) refl in
    let other_next : (next == node h) ≡ false = other_number way next (node h) p on_up (next == node h) refl in
    let reach : in_reach (first ∷ low ∷ way) (node h)
    ≡ true = cond-same (next == node h) true _ (cond-same (n == node h) true _ (cond-true (u.number == node h) true _ self)) in
    let from : way_from (first ∷ low ∷ way) (node h) ≡ way = cond-false (next == node h) _ _ other_next
    ∙ (cond-false (n == node h) _ _ other_n ∙ cond-true (u.number == node h) _ _ self) in
    let there : AreScoped way (by_nodes node (by_heights (u ∷ up) items)) = subst (AreScoped way) (sym (names_same node u up items a))
    (at_heights (u ∷ up) items i.scoped) in
    record {
      asked = cond-false (is_query kind) (1 == 0) (under_query way) k ∙ i.asked;
      scoped = (
        reach,
        subst (λ w. AreScoped w (by_nodes node (map (resolve_item s) (by_heights (u ∷ up) items)))) (sym from)
            (resolved_scoped node s way (by_heights (u ∷ up) items) there),
      );
    }
