-- The part of a tree's list that is below a node of a branch: left and right of a place.
use Rattle.std.proofs.Common.{◌≡◌, ℕ, suc, ◌+◌, ◌≤◌, ◌==◌, Bool, true, false, cond, List, [], ◌∷◌, ◌++◌, length, Some, refl, sym, ap, ◌∙◌}
use Rattle.std.proofs.Common.{subst, arith}
use Rattle.std.specs.Prelude.{min}
use Rattle.au_model.specs.Terms.Each.{Each}
use Rattle.run_model.specs.Machine.Entries.{Entry, PlainEntry, CatchEntry, FindallEntry, EndEntry}
use Rattle.tree_model.specs.Credits.{Credit as TreeCredit, greatest, without_records}
use Rattle.tree_model.specs.Nodes.{Kind, Ready, TakenBy, Waiting, Dormant, Node, Numbered, Alternatives, none, alternative, Status}
use Rattle.tree_model.specs.Nodes.{Pending, Inner, Closed}
use Rattle.tree_model.specs.Levels.{Level}
use Rattle.tree_model.specs.Orders.{credits_left, levels_below}
use Rattle.tree_model.specs.Pruning.{is_findall, remaining_records, left_after}
use Rattle.tree_model.specs.PendingLists.{Step, Way, way_of, element_on, list_in, list_among, list_below, list_left, list_right}
use Rattle.tree_model.specs.PendingLists.{level_front, spent_at, front_of, back_of}
use Rattle.tree_model.specs.SoundTrees.{one_if, count_in, count_among, count_below}
use Rattle.tree_model.specs.Elements.{Name, Element}
use Rattle.tree_model.proofs.CountLemmas.{count_left, count_around}
use Rattle.interleaving.specs.Quiet.{IsQuiet, inferences}
use Rattle.interleaving.specs.Roots.{rooted}
use Rattle.interleaving.specs.Views.{IsInner}
use Rattle.interleaving.proofs.AppendLemmas.{append-assoc, each-append, append-nil}
use Rattle.interleaving.proofs.ClockLemmas.{AreShut, AreClear, quiet-append, inferences-append, left_quiet, left_counts}
use Rattle.interleaving.proofs.ListEndLemmas.{levels_down}
use Rattle.interleaving.proofs.BallLevelLemmas.{ball_credit, clear_step, FirstShut}
use Rattle.au_term.proofs.LogicLemmas.{number_same}

abbrev pub lower_front : ℕ → List Level → List Element
lower_front s [] = []
lower_front s (v ∷ up) = cond (v.number == s) [] (lower_front s up ++ level_front up v)

abbrev pub lower_back : ℕ → List Level → List Element
lower_back s [] = []
lower_back s (v ∷ up) = cond (v.number == s) [] (list_right (way_of up) v ++ lower_back s up)

pub front_split : (s : ℕ) (levels : List Level) → front_of levels ≡ front_of (levels_down levels s) ++ lower_front s levels
front_split s [] = refl
front_split s (v ∷ up) = go (v.number == s) (front_split s up)
  where
    go : (b : Bool) → front_of up ≡ front_of (levels_down up s) ++ lower_front s up → front_of (v ∷ up)
        ≡ front_of (cond b (v ∷ up) (levels_down up s)) ++ cond b [] (lower_front s up ++ level_front up v)
    go true h = sym (append-nil (front_of (v ∷ up)))
    go false h = ap (λ l. l ++ level_front up v) h ∙ append-assoc (front_of (levels_down up s)) (lower_front s up) (level_front up v)

pub back_split : (s : ℕ) (levels : List Level) → back_of levels ≡ lower_back s levels ++ back_of (levels_down levels s)
back_split s [] = refl
back_split s (v ∷ up) = go (v.number == s) (back_split s up)
  where
    go : (b : Bool) → back_of up ≡ lower_back s up ++ back_of (levels_down up s) → back_of (v ∷ up)
        ≡ cond b [] (list_right (way_of up) v ++ lower_back s up) ++ back_of (cond b (v ∷ up) (levels_down up s))
    go true h = refl
    go false h = ap (λ l. list_right (way_of up) v ++ l) h
        ∙ sym (append-assoc (list_right (way_of up) v) (lower_back s up) (back_of (levels_down up s)))

pub lower_quiet : (s : ℕ) (levels : List Level) → AreClear (levels_below (Some s) levels) → IsQuiet (lower_front s levels)
lower_quiet s [] k = tt
lower_quiet s (v ∷ up) k = go (v.number == s) refl (λ c. lower_quiet s up c)
  where
    go : (b : Bool) → (v.number == s) ≡ b → (AreClear (levels_below (Some s) up) → IsQuiet (lower_front s up))
        → IsQuiet (cond b [] (lower_front s up ++ level_front up v))
    go true e f = tt
    go false e f = let c = clear_step s v up e k in quiet-append (lower_front s up) (level_front up v) (f c.1)
        (left_quiet (way_of up) v.number v.kind v.left c.0)

remaining_inferences : (v : Level) (c : TreeCredit) → (remaining_records v c).inferences ≡ c.inferences
remaining_inferences v c = go v.left (is_findall v.kind)
  where
    go : (left : List (ℕ × Status)) (b : Bool)
        → (elim left as (λ l. TreeCredit) [ [] ↦ cond b (without_records c) c | a ∷ rest ↦ c ]).inferences ≡ c.inferences
    go [] true = refl
    go [] false = refl
    go (a ∷ rest) b = refl

-- what a ball leaves counts what was below the node to the left, and what was spent
pub ball_credit_counts : (s : ℕ) (levels : List Level) (c : TreeCredit) → AreClear (levels_below (Some s) levels)
    → FirstShut (levels_down levels s)
    → min greatest (ball_credit s levels c).inferences ≡ min greatest (inferences (lower_front s levels) + (spent_at levels + c.inferences))
ball_credit_counts s [] c k f = omega arith
ball_credit_counts s (v ∷ up) c k f = go (v.number == s) refl f (λ a b. ball_credit_counts s up (left_after v c) a b)
  where
    behind : AreShut v.left → (left_after v c).inferences
        ≡ min greatest (min greatest (inferences (list_left (way_of up) v.number v.kind v.left)) + min greatest
        (v.spent + c.inferences))
    behind shut =
        let left = left_counts (way_of up) v.number v.kind v.left shut in
        let kept = remaining_inferences v c in
        let here : (left_after v c).inferences
        ≡ min greatest ((credits_left v.left).inferences + min greatest (v.spent + (remaining_records v c).inferences)) = refl in
        here ∙ (ap (λ n. min greatest (n + min greatest (v.spent + (remaining_records v c).inferences))) left
        ∙ ap (λ n. min greatest (min greatest (inferences (list_left (way_of up) v.number v.kind v.left)) + min greatest
        (v.spent + n))) kept)

    first : v.left ≡ [] → min greatest (left_after v c).inferences ≡ min greatest (0 + (v.spent + c.inferences))
    first e =
        let b = behind (subst AreShut (sym e) tt) in
        let z : inferences (list_left (way_of up) v.number v.kind v.left)
        ≡ 0 = ap (λ l. inferences (list_left (way_of up) v.number v.kind l)) e in
        omega (arith, b, z)

    go : (b : Bool) → (v.number == s) ≡ b → FirstShut (cond b (v ∷ up) (levels_down up s))
        → (AreClear (levels_below (Some s) up) → FirstShut (levels_down up s) → min greatest (ball_credit s up (left_after v c)).inferences
        ≡ min greatest (inferences (lower_front s up) + (spent_at up + (left_after v c).inferences)))
        → min greatest (cond b (left_after v c) (ball_credit s up (left_after v c))).inferences
        ≡ min greatest (inferences (cond b [] (lower_front s up ++ level_front up v)) + (v.spent + c.inferences))
    go true e z more = first z
    go false e z more =
        let shut = clear_step s v up e k in
        let i = more shut.1 z in
        let b = behind shut.0 in
        let joined : inferences (lower_front s up ++ level_front up v)
        ≡ inferences (lower_front s up) + (spent_at up + inferences (list_left (way_of up) v.number v.kind v.left)) =
        inferences-append (lower_front s up) (level_front up v) in
        omega (arith, i, b, joined)

pub ball_credit_low : (s : ℕ) (v : Level) (up : List Level) (c : TreeCredit) → (ball_credit s (v ∷ up) c).inferences ≤ greatest
ball_credit_low s v [] c = go (v.number == s)
  where
    go : (b : Bool) → (cond b (left_after v c) (left_after v c)).inferences ≤ greatest
    go true = let z : (left_after v c).inferences
        ≡ min greatest ((credits_left v.left).inferences + min greatest (v.spent + (remaining_records v c).inferences)) = refl in omega
        (arith, z)
    go false = let z : (left_after v c).inferences
        ≡ min greatest ((credits_left v.left).inferences + min greatest (v.spent + (remaining_records v c).inferences)) = refl in omega
        (arith, z)
ball_credit_low s v (u ∷ up) c = go (v.number == s) (ball_credit_low s u up (left_after v c))
  where
    go : (b : Bool) → (ball_credit s (u ∷ up) (left_after v c)).inferences ≤ greatest
        → (cond b (left_after v c) (ball_credit s (u ∷ up) (left_after v c))).inferences ≤ greatest
    go true h = let z : (left_after v c).inferences
        ≡ min greatest ((credits_left v.left).inferences + min greatest (v.spent + (remaining_records v c).inferences)) = refl in omega
        (arith, z)
    go false h = h

-- how often a number names a node below
abbrev pub count_lower : ℕ → ℕ → List Level → ℕ
count_lower m s [] = 0
count_lower m s (v ∷ up) = cond (v.number == s) 0
    (count_lower m s up + (one_if (v.number == m) + (count_left m v.left + count_among m v.right)))

pub count_split : (m s : ℕ) (levels : List Level) → count_around m levels ≡ count_around m (levels_down levels s) + count_lower m s levels
count_split m s [] = omega arith
count_split m s (v ∷ up) = go (v.number == s) (count_split m s up)
  where
    go : (b : Bool) → count_around m up ≡ count_around m (levels_down up s) + count_lower m s up
        → count_around m up + (one_if (v.number == m) + (count_left m v.left + count_among m v.right))
        ≡ count_around m (cond b (v ∷ up) (levels_down up s)) + cond b 0
        (count_lower m s up + (one_if (v.number == m) + (count_left m v.left + count_among m v.right)))
    go true h = omega arith
    go false h = omega (arith, h)

-- elements of nodes whose numbers are among some
module _ (inside : Name → Bool) (ok : ℕ → Bool) (named : (s : Name) → rooted ok s ≡ true → inside s ≡ true) where
  element_inner : (a : Step) (way : Way) (e : Entry) → ok a.node ≡ true → IsInner inside (element_on (a ∷ way) e)
  element_inner a way (PlainEntry f) h = named (0 ∷ a.index ∷ a.node ∷ []) h
  element_inner a way (CatchEntry c r f) h = (named (0 ∷ a.node ∷ []) h, named (0 ∷ a.index ∷ a.node ∷ []) h)
  element_inner a way (FindallEntry results l f) h = (named (0 ∷ a.node ∷ []) h, named (0 ∷ a.index ∷ a.node ∷ []) h)
  element_inner a way (EndEntry b) h = named (0 ∷ a.index ∷ a.node ∷ []) h

  mutual
    node_inner : (way : Way) (node : Node) → ((m : ℕ) → 1 ≤ count_in m node → ok m ≡ true) → Each (IsInner inside) (list_in way node)
    node_inner way (Numbered n kind alternatives) h = among_inner way n kind 0 alternatives
        (h n (let z : one_if (n == n) ≡ 1 = ap one_if (number_same n) in omega (arith, z))) (λ m l. h m (omega (arith, l)))

    pub among_inner : (way : Way) (n : ℕ) (kind : Kind) (i : ℕ) (others : Alternatives) → ok n ≡ true
        → ((m : ℕ) → 1 ≤ count_among m others → ok m ≡ true) → Each (IsInner inside) (list_among way n kind i others)
    among_inner way n kind i none o h = tt
    among_inner way n kind i (alternative sp status others) o h =
        each-append (IsInner inside) (list_below (record { node = n; index = i; kind = kind } ∷ way) sp status) _
        (below_inner (record { node = n; index = i; kind = kind }) way sp status o (λ m l. h m (omega (arith, l))))
        (named (i ∷ n ∷ []) o, among_inner way n kind (suc i) others o (λ m l. h m (omega (arith, l))))

    pub below_inner : (a : Step) (way : Way) (sp : ℕ) (status : Status) → ok a.node ≡ true
        → ((m : ℕ) → 1 ≤ count_below m status → ok m ≡ true) → Each (IsInner inside) (list_below (a ∷ way) sp status)
    below_inner a way sp (Inner node) o h = (tt, node_inner (a ∷ way) node h)
    below_inner a way sp (Closed c) o h = (tt, tt)
    below_inner a way sp (Pending Dormant e) o h = (element_inner a way e o, tt)
    below_inner a way sp (Pending Ready e) o h = (tt, (element_inner a way e o, tt))
    below_inner a way sp (Pending (TakenBy w) e) o h = (tt, (element_inner a way e o, tt))
    below_inner a way sp (Pending (Waiting g) e) o h = (tt, (element_inner a way e o, tt))

  left_inner : (way : Way) (n : ℕ) (kind : Kind) (left : List (ℕ × Status)) → ok n ≡ true
      → ((m : ℕ) → 1 ≤ count_left m left → ok m ≡ true) → Each (IsInner inside) (list_left way n kind left)
  left_inner way n kind [] o h = tt
  left_inner way n kind (x ∷ left) o h =
      each-append (IsInner inside) (list_left way n kind left) _ (left_inner way n kind left o (λ m l. h m (omega (arith, l))))
      (each-append (IsInner inside) (list_below (record { node = n; index = length left; kind = kind } ∷ way) x.0 x.1) _
      (below_inner (record { node = n; index = length left; kind = kind }) way x.0 x.1 o (λ m l. h m (omega (arith, l))))
      (named (length left ∷ n ∷ []) o, tt))

  pub lower_inner : (s : ℕ) (levels : List Level) → ((m : ℕ) → 1 ≤ count_lower m s levels → ok m ≡ true)
      → Each (IsInner inside) (lower_front s levels) × Each (IsInner inside) (lower_back s levels)
  lower_inner s [] h = (tt, tt)
  lower_inner s (v ∷ up) h = go (v.number == s) h (λ f. lower_inner s up f)
    where
      go : (b : Bool) → ((m : ℕ) → 1 ≤ cond b 0
          (count_lower m s up + (one_if (v.number == m) + (count_left m v.left + count_among m v.right))) → ok m ≡ true)
          → (((m : ℕ) → 1 ≤ count_lower m s up → ok m ≡ true) → Each (IsInner inside) (lower_front s up) × Each (IsInner inside)
          (lower_back s up))
          → Each (IsInner inside) (cond b [] (lower_front s up ++ level_front up v)) × Each (IsInner inside)
          (cond b [] (list_right (way_of up) v ++ lower_back s up))
      go true f more = (tt, tt)
      go false f more =
          let rest = more (λ m l. f m (omega (arith, l))) in
          let own : ok v.number ≡ true = f v.number
          (let z : one_if (v.number == v.number) ≡ 1 = ap one_if (number_same v.number) in omega (arith, z)) in (
            each-append (IsInner inside) (lower_front s up) (level_front up v) rest.0
                (tt, left_inner (way_of up) v.number v.kind v.left own (λ m l. f m (omega (arith, l)))),
            each-append (IsInner inside) (list_right (way_of up) v) (lower_back s up) (
              named (length v.left ∷ v.number ∷ []) own,
              among_inner (way_of up) v.number v.kind (suc (length v.left)) v.right own
                  (λ m l. f m (omega (arith, l))),
            ) rest.1,
          )
