-- A tree in which each alternative is held as a history says.
use Rattle.std.proofs.Common.{◌≡◌, ℕ, suc, ◌+◌, ◌≤◌, ◌==◌, Bool, true, false, List, [], ◌∷◌, length, Option, Some, None, refl, ◌∙◌, arith}
use Rattle.std.specs.Prelude.{◌&&◌}
use Rattle.run_model.specs.Machine.Entries.{Entry}
use Rattle.tree_model.specs.Credits.{Credit}
use Rattle.tree_model.specs.Nodes.{Hold, Ready, TakenBy, Waiting, Dormant, Node, Numbered, Alternatives, none, alternative, Status}
use Rattle.tree_model.specs.Nodes.{Pending, Inner, Closed, single}
use Rattle.tree_model.specs.Levels.{Level, put_left, level_node, plug, Place, same_place}
use Rattle.tree_model.specs.Closing.{Grown, with_right, folds, wakes}
use Rattle.tree_model.specs.HandOuts.{Handed, Never, Out, Away}
use Rattle.tree_model.specs.SoundTrees.{one_if}
use Rattle.interleaving.proofs.WayLemmas.{one_if-zero}

-- how an alternative that is held so has been handed out
abbrev pub handed : Hold → Handed
handed Ready = Never
handed Dormant = Never
handed (TakenBy w) = Out w
handed (Waiting g) = Away

abbrev pub at : ℕ → ℕ → Place
at n i = record { node = n; index = i }

abbrev mutual
  pub AgreesNode : (Place → Option Handed) → Node → Type 0
  AgreesNode G (Numbered n kind alternatives) = AgreesAll G n 0 alternatives

  pub AgreesAll : (Place → Option Handed) → ℕ → ℕ → Alternatives → Type 0
  AgreesAll G n i none = Unit {0}
  AgreesAll G n i (alternative spent status others) = Agrees G n i status × AgreesAll G n (suc i) others

  pub Agrees : (Place → Option Handed) → ℕ → ℕ → Status → Type 0
  Agrees G n i (Pending hold entry) = G (at n i) ≡ Some (handed hold)
  Agrees G n i (Inner node) = AgreesNode G node
  Agrees G n i (Closed credit) = Unit {0}

-- how often an entry is at a place
abbrev mutual
  pub occurrences_in : Place → Node → ℕ
  occurrences_in a (Numbered n kind alternatives) = occurrences_all a n 0 alternatives

  pub occurrences_all : Place → ℕ → ℕ → Alternatives → ℕ
  occurrences_all a n i none = 0
  occurrences_all a n i (alternative spent status others) = occurrences a n i status + occurrences_all a n (suc i) others

  pub occurrences : Place → ℕ → ℕ → Status → ℕ
  occurrences a n i (Pending hold entry) = one_if (same_place a (at n i))
  occurrences a n i (Inner node) = occurrences_in a node
  occurrences a n i (Closed credit) = 0

-- round a place
abbrev pub AgreesLeft : (Place → Option Handed) → ℕ → List (ℕ × Status) → Type 0
AgreesLeft G n [] = Unit {0}
AgreesLeft G n (x ∷ left) = Agrees G n (length left) x.1 × AgreesLeft G n left

abbrev pub AgreesAround : (Place → Option Handed) → List Level → Type 0
AgreesAround G [] = Unit {0}
AgreesAround G (v ∷ up) = AgreesLeft G v.number v.left × AgreesAll G v.number (suc (length v.left)) v.right × AgreesAround G up

abbrev pub occurrences_left : Place → ℕ → List (ℕ × Status) → ℕ
occurrences_left a n [] = 0
occurrences_left a n (x ∷ left) = occurrences a n (length left) x.1 + occurrences_left a n left

abbrev pub occurrences_around : Place → List Level → ℕ
occurrences_around a [] = 0
occurrences_around a (v ∷ up) = (occurrences_left a v.number v.left + occurrences_all a v.number
    (suc (length v.left)) v.right) + occurrences_around a up

-- the node and index of the place
abbrev pub node_here : List Level → ℕ
node_here [] = 0
node_here (v ∷ up) = v.number

abbrev pub index_here : List Level → ℕ
index_here [] = 0
index_here (v ∷ up) = length v.left

agrees-put : (G : Place → Option Handed) (n : ℕ) (left : List (ℕ × Status)) (others : Alternatives)
    → AgreesAll G n 0 (put_left left others) → AgreesLeft G n left × AgreesAll G n (length left) others
agrees-put G n [] others h = (tt, h)
agrees-put G n (x ∷ left) others h = let k = agrees-put G n left (alternative x.0 x.1 others) h in ((k.1.0, k.0), k.1.1)

put-agrees : (G : Place → Option Handed) (n : ℕ) (left : List (ℕ × Status)) (others : Alternatives) → AgreesLeft G n left
    → AgreesAll G n (length left) others → AgreesAll G n 0 (put_left left others)
put-agrees G n [] others h k = k
put-agrees G n (x ∷ left) others h k = put-agrees G n left (alternative x.0 x.1 others) h.1 (h.0, k)

pub agrees_out : (G : Place → Option Handed) (levels : List Level) (status : Status) → Agrees G 0 0 (plug levels status)
    → AgreesAround G levels × Agrees G (node_here levels) (index_here levels) status
agrees_out G [] status h = (tt, h)
agrees_out G (v ∷ up) status h =
    let k = agrees_out G up (Inner (level_node v status)) h in
    let p = agrees-put G v.number v.left (alternative v.spent status v.right) k.1 in
    ((p.0, p.1.1, k.0), p.1.0)

pub agrees_in : (G : Place → Option Handed) (levels : List Level) (status : Status) → AgreesAround G levels
    → Agrees G (node_here levels) (index_here levels) status → Agrees G 0 0 (plug levels status)
agrees_in G [] status h k = k
agrees_in G (v ∷ up) status h k = agrees_in G up (Inner (level_node v status)) h.2
    (put-agrees G v.number v.left (alternative v.spent status v.right) h.0 (k, h.1))

occurrences-put : (a : Place) (n : ℕ) (left : List (ℕ × Status)) (others : Alternatives) → occurrences_all a n 0 (put_left left others)
    ≡ occurrences_left a n left + occurrences_all a n (length left) others
occurrences-put a n [] others = omega arith
occurrences-put a n (x ∷ left) others = let h : occurrences_all a n 0 (put_left left (alternative x.0 x.1 others))
    ≡ occurrences_left a n left + (occurrences a n (length left) x.1 + occurrences_all a n
    (suc (length left)) others) = occurrences-put a n left
    (alternative x.0 x.1 others) in omega (arith, h)

pub occurrences_plug : (a : Place) (levels : List Level) (status : Status) → occurrences a 0 0 (plug levels status)
    ≡ occurrences_around a levels + occurrences a (node_here levels) (index_here levels) status
occurrences_plug a [] status = omega arith
occurrences_plug a (v ∷ up) status =
    let h : occurrences a 0 0 (plug up (Inner (level_node v status)))
    ≡ occurrences_around a up + occurrences_all a v.number 0 (put_left v.left (alternative v.spent status v.right)) = occurrences_plug a up
    (Inner (level_node v status)) in
    let k : occurrences_all a v.number 0 (put_left v.left (alternative v.spent status v.right))
    ≡ occurrences_left a v.number v.left + (occurrences a v.number (length v.left) status + occurrences_all a v.number
    (suc (length v.left)) v.right)
    = occurrences-put a v.number v.left (alternative v.spent status v.right) in
    omega (arith, h, k)

-- what is said of other places
abbrev pub Elsewhere : (Place → Option Handed) → (Place → Option Handed) → Place → Type 0
Elsewhere G F b = (a : Place) → same_place b a ≡ false → F a ≡ G a

mutual
  preserved_node : (G F : Place → Option Handed) (b : Place) → Elsewhere G F b → (node : Node) → occurrences_in b node ≡ 0
      → AgreesNode G node
      → AgreesNode F node
  preserved_node G F b e (Numbered n kind alternatives) z h = preserved_all G F b e n 0 alternatives z h

  preserved_all : (G F : Place → Option Handed) (b : Place) → Elsewhere G F b → (n i : ℕ) (others : Alternatives)
      → occurrences_all b n i others
      ≡ 0 → AgreesAll G n i others → AgreesAll F n i others
  preserved_all G F b e n i none z h = tt
  preserved_all G F b e n i (alternative spent status others) z h =
      (preserved_status G F b e n i status (omega (arith, z)) h.0, preserved_all G F b e n (suc i) others (omega (arith, z)) h.1)

  preserved_status : (G F : Place → Option Handed) (b : Place) → Elsewhere G F b → (n i : ℕ) (status : Status)
      → occurrences b n i status ≡ 0
      → Agrees G n i status → Agrees F n i status
  preserved_status G F b e n i (Pending hold entry) z h = e (at n i) (one_if-zero (same_place b (at n i)) z) ∙ h
  preserved_status G F b e n i (Inner node) z h = preserved_node G F b e node z h
  preserved_status G F b e n i (Closed credit) z h = tt

preserved_left : (G F : Place → Option Handed) (b : Place) → Elsewhere G F b → (n : ℕ) (left : List (ℕ × Status))
    → occurrences_left b n left ≡ 0
    → AgreesLeft G n left → AgreesLeft F n left
preserved_left G F b e n [] z h = tt
preserved_left G F b e n (x ∷ left) z h =
    (preserved_status G F b e n (length left) x.1 (omega (arith, z)) h.0, preserved_left G F b e n left (omega (arith, z)) h.1)

pub preserved_around : (G F : Place → Option Handed) (b : Place) → Elsewhere G F b → (levels : List Level) → occurrences_around b levels ≡ 0
    → AgreesAround G levels → AgreesAround F levels
preserved_around G F b e [] z h = tt
preserved_around G F b e (v ∷ up) z h =
    let here : (occurrences_left b v.number v.left + occurrences_all b v.number
    (suc (length v.left)) v.right) + occurrences_around b up ≡ 0 = z in (
      preserved_left G F b e v.number v.left (omega (arith, here)) h.0,
      preserved_all G F b e v.number (suc (length v.left)) v.right
          (omega (arith, here)) h.1,
      preserved_around G F b e up (omega (arith, here)) h.2,
    )

pub preserved_root : (G F : Place → Option Handed) (b : Place) → Elsewhere G F b → (root : Status) → occurrences b 0 0 root ≡ 0
    → Agrees G 0 0 root
    → Agrees F 0 0 root
preserved_root G F b e root z h = preserved_status G F b e 0 0 root z h

-- what is new has never been handed out
abbrev pub NewIn : (Place → Option Handed) → ℕ → Type 0
NewIn G next = (a : Place) → next ≤ a.node → G a ≡ Some Never

-- a tree that has changed round a place: at numbers that were given before, no more entries are
pub record IsAgreed (G : Place → Option Handed) (next : ℕ) (gone most : Place → ℕ) (root : Status) : Type 0 where
  pub agrees : Agrees G 0 0 root
  pub few : (a : Place) → suc a.node ≤ next → occurrences a 0 0 root + gone a ≤ most a

pub one_place : (a : Place) (n i : ℕ) → suc a.node ≤ n → one_if (same_place a (at n i)) ≡ 0
one_place a n i l = go (a.node == n) refl
  where
    go : (b : Bool) → (a.node == n) ≡ b → one_if (b && (a.index == i)) ≡ 0
    go false e = refl
    go true e = let same : a.node ≡ n = grind arith in let no_way : ⊥ = omega arith in absurd no_way

shut_agreed : (G : Place → Option Handed) (next : ℕ) (v : Level) (up : List Level) (c : Credit) (most : Place → ℕ)
    → AgreesAround G (v ∷ up) → ((a : Place) → occurrences_around a (v ∷ up) ≤ most a)
    → IsAgreed G next (λ a. 0) most (plug (v ∷ up) (Closed c))
shut_agreed G next v up c most h l = record
    { agrees = agrees_in G (v ∷ up) (Closed c) h tt; few = λ a k. omega (arith, l a, occurrences_plug a (v ∷ up) (Closed c)) }

pub folds_agreed : (G : Place → Option Handed) (next : ℕ) (v : Level) (up : List Level) (c : Credit) (o : Option Credit)
    (go : Credit → Grown) (most : Place → ℕ) → AgreesAround G (v ∷ up) → ((a : Place) → occurrences_around a (v ∷ up) ≤ most a)
    → ((k : Credit) → IsAgreed G next (λ a. 0) most (go k).root) → IsAgreed G next (λ a. 0) most (folds next v up c o go).root
folds_agreed G next v up c None go most h l f = shut_agreed G next v up c most h l
folds_agreed G next v [] c (Some total) go most h l f = shut_agreed G next v [] c most h l
folds_agreed G next v (u ∷ up) c (Some total) go most h l f = f _

pub wakes_agreed : (G : Place → Option Handed) (next : ℕ) (v : Level) (up : List Level) (c : Credit) (e : Entry) → NewIn G next
    → AgreesLeft G v.number v.left → AgreesAround G up → (gone most : Place → ℕ)
    → ((a : Place) → (occurrences_left a v.number v.left + occurrences_around a up) + gone a ≤ most a)
    → IsAgreed G next gone most (wakes next v up c e).root
wakes_agreed G next v up c e n l h gone most m = record {
  agrees = agrees_in G (with_right (Inner (single next e)) v ∷ up) (Closed c) (l, ((n (at next 0) (omega arith), tt), tt), h) tt;
  few = λ a k. few_at a k;
}
  where
    few_at : (a : Place) → suc a.node ≤ next → occurrences a 0 0
        (plug (with_right (Inner (single next e)) v ∷ up) (Closed c)) + gone a ≤ most a
    few_at a l =
        let k : occurrences a 0 0 (plug (with_right (Inner (single next e)) v ∷ up) (Closed c))
        ≡ ((occurrences_left a v.number v.left + ((one_if (same_place a
        (at next 0)) + 0) + 0)) + occurrences_around a up) + 0 = occurrences_plug a
        (with_right (Inner (single next e)) v ∷ up) (Closed c) in
        omega (arith, k, m a, one_place a next 0 l)
