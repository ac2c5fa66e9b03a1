-- What was counted in a tree.
use Rattle.std.proofs.Common.{◌≡◌, ℕ, suc, ◌≤◌, true, List, [], ◌∷◌, ◌++◌, Option, Some, None, refl, sym, ap, ◌∙◌, subst, arith}
use Rattle.std.specs.Option.{option_map}
use Rattle.tree_model.specs.Credits.{Credit, greatest, counted}
use Rattle.tree_model.specs.Nodes.{Kind, Numbered, Alternatives, none, alternative, Status, Pending, Inner, Closed, credits_among, credits_below}
use Rattle.tree_model.specs.Levels.{Level, Spot, Place, place_of_spot, levels_of, pending_among, pending_of}
use Rattle.tree_model.specs.Orders.{answers_left, clock_of}
use Rattle.tree_model.specs.PendingLists.{Way}
use Rattle.tree_model.specs.SoundTrees.{AreSound, IsSound}
use Rattle.tree_model.specs.TreeStates.{TreeState, first_spot, counts_by, counts}
use Rattle.tree_nodes.specs.Bodies.{Reading}
use Rattle.tree_nodes.specs.Rows.{row_of_node, alternatives_at}
use Rattle.tree_nodes.specs.Gathering.{are_shut}
use Rattle.tree_nodes.specs.Siblings.{counts_from}
use Rattle.tree_nodes.specs.TreeTables.{cells_of, IsRoot, IsTableOf}
use Rattle.branch_order.specs.Leftmosts.{IsLeftmost}
use Rattle.branch_order.specs.Clocks.{CountsBranch}
use Rattle.branch_order.proofs.LeftmostLemmas.{some_in}
use Rattle.tree_nodes.proofs.CreditLemmas.{counted-assoc}
use Rattle.public_tree.specs.PublicTrees.{PublicView, IsPublicOf, IsRooted}
use Rattle.public_tree.proofs.HandOutLemmas.{first_spot_at}

-- where nothing is pending, all alternatives of the first node have closed
all_shut : (way : Way) (up : List Level) (n : ℕ) (kind : Kind) (i : ℕ) (left : List (ℕ × Status)) (others : Alternatives) → AreSound way n kind i others
    → pending_among up n kind left others ≡ [] → are_shut (cells_of others) ≡ true
all_shut way up n kind i left none h e = refl
all_shut way up n kind i left (alternative spent (Pending hold entry) others) h e = absurd (cc e)
all_shut way up n kind i left (alternative spent (Closed credit) others) h e =
    all_shut way up n kind (suc i) ((spent, Closed credit) ∷ left) others h.1 e
all_shut way up n kind i left (alternative spent (Inner node) others) h e =
    let v : Level = record { number = n; kind = kind; left = left; spent = spent; right = others } in
    let k = some_in (v ∷ up) (record { node = n; index = i; kind = kind }) way node h.0 in
    let rest = pending_among up n kind ((spent, Inner node) ∷ left) others in
    let no_way : k.spot ∷ (k.others ++ rest) ≡ [] = ap (λ (x : List Spot). x ++ rest) (sym k.are) ∙ e in
    absurd (cc no_way)

pair : (a b c d : ℕ) → a ≡ c → b ≡ d → ◌≡◌ {A = ℕ × ℕ} (a, b) (c, d)
pair a b c d e f = ap (λ (x : ℕ). (x, b)) e ∙ ap (λ (x : ℕ). (c, x)) f

sums : (others : Alternatives) (a b : ℕ) → are_shut (cells_of others) ≡ true → a ≤ greatest → b ≤ greatest
    → counts_from (a, b) (cells_of others) ≡ (counted a (credits_among others).answers, counted b (credits_among others).inferences)
sums none a b s l m = pair a b (counted a 0) (counted b 0) (omega (arith, l)) (omega (arith, m))
sums (alternative spent (Pending hold entry) others) a b s l m = absurd (cc s)
sums (alternative spent (Inner node) others) a b s l m = absurd (cc s)
sums (alternative spent (Closed c) others) a b s l m =
    let x = (credits_among others).answers in
    let y = (credits_among others).inferences in
    let p = counted a c.answers in
    let q = counted b c.inferences in
    let less : p ≤ greatest = omega arith in
    let fewer : q ≤ greatest = omega arith in
    sums others p q s less fewer
    ∙ pair (counted p x) (counted q y) (counted a (counted c.answers x)) (counted b (counted c.inferences y)) (counted-assoc a c.answers x)
    (counted-assoc b c.inferences y)

counted_from_zero : (others : Alternatives) → (counted 0 (credits_among others).answers ≡ (credits_among others).answers)
    × (counted 0 (credits_among others).inferences ≡ (credits_among others).inferences)
counted_from_zero none = (refl, refl)
counted_from_zero (alternative spent status others) =
    let a = (credits_below status).answers in
    let b = (credits_below status).inferences in
    let x = (credits_among others).answers in
    let y = (credits_among others).inferences in
    (let e : counted 0 (counted a x) ≡ counted a x = omega arith in e, let f : counted 0 (counted b y) ≡ counted b y = omega arith in f)

no_spots : (spots : List Spot) → option_map place_of_spot (first_spot spots) ≡ None → spots ≡ []
no_spots [] e = refl
no_spots (s ∷ spots) e = absurd (cc e)

-- nothing is pending
module _ (p : PublicView) (read : Reading) (t : TreeState) (h : IsPublicOf p read t) (closed : IsLeftmost p.nodes None) where
  spots_are : pending_of t.root ≡ []
  spots_are = no_spots (pending_of t.root) (closed read t.root h.placed h.sound.sound)

  counts_are : counts t ≡ ((credits_below t.root).answers, (credits_below t.root).inferences)
  counts_are = ap (λ (ss : List Spot). counts_by (first_spot ss) t.root) spots_are

  pub counts_at_first : (n : ℕ) → p.nodes.first ≡ Some n → counts_from (0, 0) (alternatives_at (row_of_node p.nodes.rows n)) ≡ counts t
  counts_at_first n f = by_root t.root refl (subst (IsRoot p.nodes.first) refl h.placed.rooted)
    where
      by_root : (r : Status) → t.root ≡ r → IsRoot p.nodes.first r → counts_from (0, 0) (alternatives_at (row_of_node p.nodes.rows n)) ≡ counts t
      by_root (Pending hold entry) e s = absurd s
      by_root (Closed credit) e s = absurd (let z : None ≡ Some n = sym s ∙ f in cc z)
      by_root (Inner (Numbered m kind others)) e s =
          let same : m ≡ n = (let z : Some m ≡ Some n = sym s ∙ f in cc z) in
          let table : IsTableOf p.nodes read (Inner (Numbered m kind others)) = subst (IsTableOf p.nodes read) e h.placed in
          let sound : IsSound [] (Inner (Numbered m kind others)) = subst (IsSound []) e h.sound.sound in
          let shut : are_shut (cells_of others) ≡ true
          = all_shut [] [] m kind 0 [] others sound.3 (sym (ap pending_of e) ∙ spots_are) in
          let cells : alternatives_at (row_of_node p.nodes.rows n) ≡ cells_of others
          = ap (λ (k : ℕ). alternatives_at (row_of_node p.nodes.rows k)) (sym same) ∙ ap alternatives_at table.placed.1.0 in
          let zero_less : 0 ≤ greatest = omega arith in
          let z = counted_from_zero others in
          ap (counts_from (0, 0)) cells
          ∙ (sums others 0 0 shut zero_less zero_less
          ∙ (pair (counted 0 (credits_among others).answers) (counted 0 (credits_among others).inferences) (credits_among others).answers
          (credits_among others).inferences z.0 z.1
          ∙ sym (counts_are ∙ ap (λ (r : Status). ((credits_below r).answers, (credits_below r).inferences)) e)))

  pub counts_nothing : p.nodes.first ≡ None → (0, 0) ≡ counts t
  counts_nothing f = by_root t.root refl h.placed.rooted h.rooted
    where
      by_root : (r : Status) → t.root ≡ r → IsRoot p.nodes.first r → IsRooted r → (0, 0) ≡ counts t
      by_root (Pending hold entry) e s k = absurd s
      by_root (Inner node) e s k = absurd (let z = sym f ∙ s in cc z)
      by_root (Closed credit) e s k = sym (counts_are ∙ (ap (λ (r : Status). ((credits_below r).answers, (credits_below r).inferences)) e
          ∙ ap (λ (c : Credit). (c.answers, c.inferences)) k))

-- the leftmost entry's branch
pub counts_on_branch : (p : PublicView) (a : Place) (answers inferences : ℕ) (read : Reading) (t : TreeState) → IsPublicOf p read t
    → IsLeftmost p.nodes (Some a) → CountsBranch p.nodes a answers inferences → (answers, inferences) ≡ counts t
counts_on_branch p a answers inferences read t h first counted =
    let s = first_spot_at t.root a h.sound.sound (first read t.root h.placed h.sound.sound) in
    let k = counted read s.spot.level s.spot.above (Pending s.spot.hold s.spot.entry) s.at (subst (IsTableOf p.nodes read) s.plugged h.placed) s.clear in
    pair answers inferences (answers_left (levels_of s.spot)) (clock_of (levels_of s.spot)) k.0 k.1
    ∙ sym (ap (λ (o : Option Spot). counts_by o t.root) s.is)
