-- A place that changes, and the alternatives that a history has handed out.
use Rattle.std.proofs.Common.{◌≡◌, ℕ, suc, ◌+◌, ◌≤◌, ◌==◌, Bool, true, false, cond, List, [], ◌∷◌, ◌++◌, length, Option, Some, None, refl}
use Rattle.std.proofs.Common.{ap, ◌∙◌, arith}
use Rattle.std.specs.Prelude.{◌&&◌}
use Rattle.au_model.specs.Terms.Each.{Each}
use Rattle.run_model.specs.Machine.Entries.{Entry, PlainEntry, CatchEntry, FindallEntry, EndEntry}
use Rattle.tree_model.specs.Credits.{Credit, no_credit}
use Rattle.tree_model.specs.Nodes.{Hold, Ready, TakenBy, Waiting, Dormant, Node, Numbered, Alternatives, none, alternative, Status}
use Rattle.tree_model.specs.Nodes.{Pending, Inner, Closed}
use Rattle.tree_model.specs.Levels.{Level, Place, same_place}
use Rattle.tree_model.specs.Closing.{Grown, guarded, with_right, all_closed, wakes, goal_side_closes, closes}
use Rattle.tree_model.specs.Pruning.{Task, task_at, tasks_in, tasks_among, tasks_below, emptied, pruned, tasks_pruned, left_after}
use Rattle.tree_model.specs.Pruning.{ball_closes}
use Rattle.tree_model.specs.HandOuts.{Handed, Out}
use Rattle.tree_model.specs.SoundTrees.{one_if, count_in, count_among, count_below}
use Rattle.interleaving.proofs.HandOutCountLemmas.{handed, at, AgreesNode, AgreesAll, Agrees, occurrences_in, occurrences_all, occurrences}
use Rattle.interleaving.proofs.HandOutCountLemmas.{AgreesAround}
use Rattle.interleaving.proofs.HandOutCountLemmas.{occurrences_around, NewIn, IsAgreed, folds_agreed, wakes_agreed}
use Rattle.au_term.proofs.LogicLemmas.{number_same}

side_agreed : (G : Place → Option Handed) (next : ℕ) (v : Level) (up : List Level) (c : Credit) (o : Option Entry) (go : Credit → Grown)
    (most : Place → ℕ) → NewIn G next → AgreesAround G (v ∷ up) → ((a : Place) → occurrences_around a (v ∷ up) ≤ most a)
    → ((k : Credit) → IsAgreed G next (λ a. 0) most (go k).root)
    → IsAgreed G next (λ a. 0) most (goal_side_closes next v up c o go).root
side_agreed G next v up c None go most n h l f = folds_agreed G next v up c (all_closed v c) go most h l f
side_agreed G next v up c (Some (PlainEntry g)) go most n h l f = folds_agreed G next v up c (all_closed v c) go most h l f
side_agreed G next v up c (Some (CatchEntry x r g)) go most n h l f =
    let gone = with_right (Closed no_credit) v in folds_agreed G next gone up c (all_closed gone c) go most (h.0, (tt, tt), h.2)
    (λ a. omega (arith, l a)) f
side_agreed G next v up c (Some (FindallEntry results x g)) go most n h l f = wakes_agreed G next v up _ _ n h.0 h.2 (λ a. 0) most
    (λ a. omega (arith, l a))
side_agreed G next v up c (Some (EndEntry b)) go most n h l f = wakes_agreed G next v up _ _ n h.0 h.2 (λ a. 0) most
    (λ a. omega (arith, l a))

pub closes_agreed : (G : Place → Option Handed) (next : ℕ) (levels : List Level) (c : Credit) (most : Place → ℕ) → NewIn G next
    → AgreesAround G levels → ((a : Place) → occurrences_around a levels ≤ most a)
    → IsAgreed G next (λ a. 0) most (closes next levels c).root
closes_agreed G next [] c most n h l = record { agrees = tt; few = λ a k. omega arith }
closes_agreed G next (v ∷ up) c most n h l = side_agreed G next v up c (guarded v) (closes next up) most n h l
    (λ k. closes_agreed G next up k most n h.2 (λ a. omega (arith, l a, level_less a v up)))
  where
    level_less : (a : Place) (v : Level) (up : List Level) → occurrences_around a up ≤ occurrences_around a (v ∷ up)
    level_less a v up = omega arith

-- the tasks that are out
abbrev pub tasks_at : Place → List Task → ℕ
tasks_at a [] = 0
tasks_at a (task ∷ tasks) = one_if (same_place a task.at) + tasks_at a tasks

pub tasks_append : (a : Place) (xs ys : List Task) → tasks_at a (xs ++ ys) ≡ tasks_at a xs + tasks_at a ys
tasks_append a [] ys = omega arith
tasks_append a (x ∷ xs) ys = let h = tasks_append a xs ys in omega (arith, h)

hold_tasks : (a : Place) (hold : Hold) (n i : ℕ) → tasks_at a (task_at hold n i) ≤ one_if (same_place a (at n i))
hold_tasks a Ready n i = omega arith
hold_tasks a Dormant n i = omega arith
hold_tasks a (Waiting g) n i = omega arith
hold_tasks a (TakenBy w) n i = omega arith

mutual
  tasks_node : (a : Place) (node : Node) → tasks_at a (tasks_in node) ≤ occurrences_in a node
  tasks_node a (Numbered n kind alternatives) = tasks_all a n 0 alternatives

  tasks_all : (a : Place) (n i : ℕ) (others : Alternatives) → tasks_at a (tasks_among n i others) ≤ occurrences_all a n i others
  tasks_all a n i none = omega arith
  tasks_all a n i (alternative spent status others) = omega (
    arith,
    tasks_append a (tasks_below n i status) (tasks_among n (suc i) others),
    tasks_status a n i status,
    tasks_all a n (suc i)
        others,
  )

  tasks_status : (a : Place) (n i : ℕ) (status : Status) → tasks_at a (tasks_below n i status) ≤ occurrences a n i status
  tasks_status a n i (Pending hold entry) = hold_tasks a hold n i
  tasks_status a n i (Inner node) = tasks_node a node
  tasks_status a n i (Closed credit) = omega arith

-- each of them is out to its worker
abbrev pub IsOut : (Place → Option Handed) → Task → Type 0
IsOut G task = G task.at ≡ Some (Out task.worker)

pub each-append : (P : Task → Type 0) (xs ys : List Task) → Each P xs → Each P ys → Each P (xs ++ ys)
each-append P [] ys h k = k
each-append P (x ∷ xs) ys h k = (h.0, each-append P xs ys h.1 k)

hold_out : (G : Place → Option Handed) (hold : Hold) (n i : ℕ) → G (at n i) ≡ Some (handed hold) → Each (IsOut G) (task_at hold n i)
hold_out G Ready n i h = tt
hold_out G Dormant n i h = tt
hold_out G (Waiting g) n i h = tt
hold_out G (TakenBy w) n i h = (h, tt)

mutual
  out_node : (G : Place → Option Handed) (node : Node) → AgreesNode G node → Each (IsOut G) (tasks_in node)
  out_node G (Numbered n kind alternatives) h = out_all G n 0 alternatives h

  out_all : (G : Place → Option Handed) (n i : ℕ) (others : Alternatives) → AgreesAll G n i others → Each (IsOut G) (tasks_among n i others)
  out_all G n i none h = tt
  out_all G n i (alternative spent status others) h = each-append (IsOut G) (tasks_below n i status) (tasks_among n (suc i) others)
      (out_status G n i status h.0) (out_all G n (suc i) others h.1)

  out_status : (G : Place → Option Handed) (n i : ℕ) (status : Status) → Agrees G n i status → Each (IsOut G) (tasks_below n i status)
  out_status G n i (Pending hold entry) h = hold_out G hold n i h
  out_status G n i (Inner node) h = out_node G node h
  out_status G n i (Closed credit) h = tt

pub pruned_out : (G : Place → Option Handed) (scope : ℕ) (levels : List Level) → AgreesAround G levels
    → Each (IsOut G) (tasks_pruned scope levels)
pruned_out G scope [] h = tt
pruned_out G scope (v ∷ up) h = go (v.number == scope) (pruned_out G scope up h.2)
  where
    go : (b : Bool) → Each (IsOut G) (tasks_pruned scope up)
        → Each (IsOut G) (cond b [] (tasks_among v.number (suc (length v.left)) v.right ++ tasks_pruned scope up))
    go true k = tt
    go false k = each-append (IsOut G) (tasks_among v.number (suc (length v.left)) v.right) (tasks_pruned scope up)
        (out_all G v.number (suc (length v.left)) v.right h.1) k

emptied_agrees : (G : Place → Option Handed) (n i : ℕ) (others : Alternatives) → AgreesAll G n i (emptied others)
emptied_agrees G n i none = tt
emptied_agrees G n i (alternative spent status others) = (tt, emptied_agrees G n (suc i) others)

emptied_occurs : (a : Place) (n i : ℕ) (others : Alternatives) → occurrences_all a n i (emptied others) ≡ 0
emptied_occurs a n i none = refl
emptied_occurs a n i (alternative spent status others) = let h = emptied_occurs a n (suc i) others in omega (arith, h)

pub pruned_agrees : (G : Place → Option Handed) (scope : ℕ) (levels : List Level) → AgreesAround G levels
    → AgreesAround G (pruned scope levels)
pruned_agrees G scope [] h = tt
pruned_agrees G scope (v ∷ up) h = go (v.number == scope) (pruned_agrees G scope up h.2)
  where
    go : (b : Bool) → AgreesAround G (pruned scope up)
        → AgreesAround G (cond b (v ∷ up) (record v { right = emptied v.right } ∷ pruned scope up))
    go true k = h
    go false k = (h.0, emptied_agrees G v.number (suc (length v.left)) v.right, k)

pub pruned_occurs : (a : Place) (scope : ℕ) (levels : List Level) → occurrences_around a (pruned scope levels) + tasks_at a
    (tasks_pruned scope levels) ≤ occurrences_around a levels
pruned_occurs a scope [] = omega arith
pruned_occurs a scope (v ∷ up) = go (v.number == scope) (pruned_occurs a scope up)
  where
    go : (b : Bool) → occurrences_around a (pruned scope up) + tasks_at a (tasks_pruned scope up) ≤ occurrences_around a up →
        occurrences_around a (cond b (v ∷ up) (record v { right = emptied v.right } ∷ pruned scope up)) + tasks_at a
        (cond b [] (tasks_among v.number (suc (length v.left)) v.right ++ tasks_pruned scope up)) ≤ occurrences_around a (v ∷ up)
    go true h = omega arith
    go false h = omega (
      arith,
      h,
      emptied_occurs a v.number (suc (length v.left)) v.right,
      tasks_append a
          (tasks_among v.number (suc (length v.left)) v.right) (tasks_pruned scope up),
      tasks_all a v.number (suc (length v.left))
          v.right,
    )

pub ball_closes_agreed : (G : Place → Option Handed) (next scope : ℕ) (levels : List Level) (c : Credit) (e : Entry) (gone most : Place → ℕ)
    → NewIn G next → AgreesAround G levels → ((a : Place) → occurrences_around a levels + gone a ≤ most a)
    → IsAgreed G next (λ a. tasks_at a (tasks_pruned scope levels) + gone a) most (ball_closes next scope levels c e).root
ball_closes_agreed G next scope [] c e gone most n h l = record { agrees = tt; few = λ a k. omega (arith, l a) }
ball_closes_agreed G next scope (v ∷ up) c e gone most n h l = go (v.number == scope)
    (λ d. ball_closes_agreed G next scope up d e (λ a. tasks_at a (tasks_among v.number (suc (length v.left)) v.right) + gone a) most n h.2
    (λ a. omega (arith, l a, tasks_all a v.number (suc (length v.left)) v.right)))
  where
    go : (b : Bool) → ((d : Credit)
        → IsAgreed G next (λ a. tasks_at a (tasks_pruned scope up) +
        (tasks_at a (tasks_among v.number (suc (length v.left)) v.right) + gone a)) most (ball_closes next scope up d e).root) →
        IsAgreed G next (λ a. tasks_at a (cond b [] (tasks_among v.number (suc (length v.left)) v.right ++ tasks_pruned scope up)) +
        gone a) most (cond b (wakes next v up (left_after v c) e) (ball_closes next scope up (left_after v c) e)).root
    go true f = wakes_agreed G next v up (left_after v c) e n h.0 h.2 (λ a. 0 + gone a) most (λ a. omega (arith, l a))
    go false f =
        let k = f (left_after v c) in
        record {
          agrees = k.agrees;
          few = λ a j.
              omega (arith, k.few a j, tasks_append a (tasks_among v.number (suc (length v.left)) v.right) (tasks_pruned scope up));
        }

-- an entry is at a place at most as often as its node's number names one
matches : (a : Place) (n i : ℕ) (b : Bool) → same_place a (at n i) ≡ b
    → (one_if b ≤ one_if (n == a.node)) × (suc a.index ≤ i → one_if b ≡ 0) × (b ≡ true → a.index ≡ i)
matches a n i false e = (omega arith, λ l. refl, λ z. let no_way : ⊥ = cc in absurd no_way)
matches a n i true e =
    let node : (a.node == n) ≡ true = first (a.node == n) (a.index == i) e in
    let index : (a.index == i) ≡ true = second (a.node == n) (a.index == i) e in
    let same : a.node ≡ n = number a.node n node in
    let here : a.index ≡ i = number a.index i index in
    let hit : (n == a.node) ≡ true = ap (λ m. n == m) same ∙ number_same n in
    (omega (arith, ap one_if hit), λ l. absurd (low here l), λ z. here)
  where
    first : (x y : Bool) → (x && y) ≡ true → x ≡ true
    first true y z = refl
    first false y z = let no_way : ⊥ = cc in absurd no_way

    second : (x y : Bool) → (x && y) ≡ true → y ≡ true
    second true y z = z
    second false y z = let no_way : ⊥ = cc in absurd no_way

    number : (m k : ℕ) → (m == k) ≡ true → m ≡ k
    number m k z = grind arith

    low : a.index ≡ i → suc a.index ≤ i → ⊥
    low z l = omega (arith, z)

occurrences_here : (a : Place) (n i : ℕ) (others : Alternatives) (b : Bool) → same_place a (at n i) ≡ b
    → one_if (same_place a (at n i)) ≤ one_if (n == a.node) → (same_place a (at n i) ≡ true → a.index ≡ i) →
    occurrences_all a n (suc i) others ≤ one_if (n == a.node) + count_among a.node others
    → (suc a.index ≤ suc i → occurrences_all a n (suc i) others ≤ count_among a.node others)
    → one_if (same_place a (at n i)) + occurrences_all a n (suc i) others ≤ one_if (n == a.node) + (0 + count_among a.node others)
occurrences_here a n i others false e f g h k = let z : one_if (same_place a (at n i)) ≡ 0 = ap one_if e in omega (arith, z, h)
occurrences_here a n i others true e f g h k = let same : a.index ≡ i = g e in let j = k (omega (arith, same)) in omega (arith, f, j)

mutual
  occurs_in : (a : Place) (node : Node) → occurrences_in a node ≤ count_in a.node node
  occurs_in a (Numbered n kind alternatives) = (occurs_all a n 0 alternatives).0

  occurs_all : (a : Place) (n i : ℕ) (others : Alternatives)
      → (occurrences_all a n i others ≤ one_if (n == a.node) + count_among a.node others)
      × (suc a.index ≤ i → occurrences_all a n i others ≤ count_among a.node others)
  occurs_all a n i none = (omega arith, λ l. omega arith)
  occurs_all a n i (alternative spent (Closed c) others) = let k = occurs_all a n (suc i) others in
      (omega (arith, k.0), λ l. let j = k.1 (omega arith) in omega (arith, j))
  occurs_all a n i (alternative spent (Inner node) others) =
      let k = occurs_all a n (suc i) others in
      let m = occurs_in a node in
      (omega (arith, k.0, m), λ l. let j = k.1 (omega arith) in omega (arith, j, m))
  occurs_all a n i (alternative spent (Pending hold e) others) =
      let k = occurs_all a n (suc i) others in
      let m = matches a n i (same_place a (at n i)) refl in (
        occurrences_here a n i others (same_place a (at n i)) refl m.0 m.2 k.0 k.1,
        λ l. let j = k.1 (omega arith) in omega
            (arith, j, m.1 l),
      )

pub occurs_root : (a : Place) (root : Status) (n i : ℕ) → ((hold : Hold) (e : Entry) → root ≡ Pending hold e → ⊥)
    → occurrences a n i root ≤ count_below a.node root
occurs_root a (Closed c) n i f = omega arith
occurs_root a (Inner node) n i f = occurs_in a node
occurs_root a (Pending hold e) n i f = absurd (f hold e refl)
