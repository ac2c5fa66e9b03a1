-- The clock of the leftmost pending alternative counts what is in front of the list; where nothing is pending, the
-- list is credits and ends alone.
use Rattle.std.proofs.Common.{◌≡◌, ℕ, suc, ◌+◌, Bool, true, false, cond, List, [], ◌∷◌, ◌++◌, length, Option, Some, None, refl, sym, ap}
use Rattle.std.proofs.Common.{◌∙◌, subst, arith}
use Rattle.std.specs.Prelude.{min}
use Rattle.au_model.specs.Terms.Each.{Each}
use Rattle.run_model.specs.Machine.Entries.{Entry, PlainEntry, CatchEntry, FindallEntry, EndEntry}
use Rattle.tree_model.specs.Credits.{greatest}
use Rattle.tree_model.specs.Nodes.{Kind, Hold, Ready, TakenBy, Waiting, Dormant, Node, Numbered, Alternatives, none, alternative, Status}
use Rattle.tree_model.specs.Nodes.{Pending, Inner, Closed}
use Rattle.tree_model.specs.Levels.{Level, Place, Spot, levels_of, pending_in, pending_among, pending_below, pending_of}
use Rattle.tree_model.specs.Orders.{is_closed, first_open_left, first_open, credits_left, clock_of}
use Rattle.tree_model.specs.TreeStates.{TreeState, leftmost, first_spot, pending_spots}
use Rattle.tree_model.specs.Elements.{Element, Credit as CreditElement, EndOf, Plain, Catch, Findall, End}
use Rattle.tree_model.specs.PendingLists.{Way, way_of, element_on, own_credit, list_in, list_among, list_below, pending_list, list_left}
use Rattle.tree_model.specs.PendingLists.{spent_at, front_of, back_of}
use Rattle.tree_model.specs.Ways.{IsOnWay, IsAwake}
use Rattle.tree_model.specs.SoundTrees.{IsOpen, profile, IsSound, IsSoundTree}
use Rattle.interleaving.specs.Quiet.{IsQuiet, inferences}
use Rattle.interleaving.specs.Follows.{lead}
use Rattle.interleaving.proofs.ListRoundLemmas.{around}
use Rattle.interleaving.proofs.PluggedLemmas.{IsIn, all_in}
use Rattle.interleaving.proofs.ContextLemmas.{taken_out}
use Rattle.interleaving.proofs.FrontLemmas.{leftmost_front}
use Rattle.interleaving.proofs.LeadLemmas.{lead-quiet}
use Rattle.interleaving.proofs.LegalLemmas.{awake_entry}

pub quiet-append : (xs ys : List Element) → IsQuiet xs → IsQuiet ys → IsQuiet (xs ++ ys)
quiet-append [] ys q r = r
quiet-append (CreditElement k rs ∷ xs) ys q r = quiet-append xs ys q r
quiet-append (EndOf s ∷ xs) ys q r = quiet-append xs ys q r
quiet-append (Catch s u c a p f ∷ xs) ys q r = quiet-append xs ys q r
quiet-append (Plain p f ∷ xs) ys q r = absurd q
quiet-append (Findall s u results list p f ∷ xs) ys q r = absurd q
quiet-append (End p b ∷ xs) ys q r = absurd q

pub inferences-append : (xs ys : List Element) → inferences (xs ++ ys) ≡ inferences xs + inferences ys
inferences-append [] ys = omega arith
inferences-append (CreditElement k rs ∷ xs) ys = let h = inferences-append xs ys in let all : k + inferences (xs ++ ys)
    ≡ (k + inferences xs) + inferences ys = omega (arith, h) in all
inferences-append (EndOf s ∷ xs) ys = inferences-append xs ys
inferences-append (Catch s u c a p f ∷ xs) ys = inferences-append xs ys
inferences-append (Plain p f ∷ xs) ys = inferences-append xs ys
inferences-append (Findall s u results list p f ∷ xs) ys = inferences-append xs ys
inferences-append (End p b ∷ xs) ys = inferences-append xs ys

-- alternatives that are all closed
abbrev pub AreShut : List (ℕ × Status) → Type 0
AreShut [] = Unit {0}
AreShut (a ∷ left) = (is_closed a.1 ≡ true) × AreShut left

pub shut_all : (n : ℕ) (left : List (ℕ × Status)) → first_open_left n left ≡ None → AreShut left
shut_all n [] h = tt
shut_all n (a ∷ left) h = go (first_open_left n left) refl (is_closed a.1) refl (shut_all n left) h
  where
    go : (o : Option Place) → first_open_left n left ≡ o → (b : Bool) → is_closed a.1 ≡ b → (first_open_left n left ≡ None → AreShut left) →
        elim o as (λ q. Option Place) [ Some p ↦ Some p | None ↦ cond b None (Some (record { node = n; index = length left })) ] ≡ None
        → AreShut (a ∷ left)
    go None e true c rest k = (c, rest e)
    go None e false c rest k = let no_way : ⊥ = cc in absurd no_way
    go (Some p) e b c rest k = let no_way : ⊥ = cc in absurd no_way

-- at each level all to the left is closed
abbrev pub AreClear : List Level → Type 0
AreClear [] = Unit {0}
AreClear (v ∷ up) = AreShut v.left × AreClear up

pub clear_all : (levels : List Level) → first_open levels ≡ None → AreClear levels
clear_all [] h = tt
clear_all (v ∷ up) h = go (first_open up) refl (clear_all up) h
  where
    go : (o : Option Place) → first_open up ≡ o → (first_open up ≡ None → AreClear up)
        → elim o as (λ q. Option Place) [ Some p ↦ Some p | None ↦ first_open_left v.number v.left ] ≡ None → AreClear (v ∷ up)
    go None e rest k = (shut_all v.number v.left k, rest e)
    go (Some p) e rest k = let no_way : ⊥ = cc in absurd no_way

-- of credits to the left
pub left_quiet : (way : Way) (n : ℕ) (kind : Kind) (left : List (ℕ × Status)) → AreShut left → IsQuiet (list_left way n kind left)
left_quiet way n kind [] h = tt
left_quiet way n kind ((spent, Closed c) ∷ left) h = quiet-append (list_left way n kind left) _ (left_quiet way n kind left h.1) tt
left_quiet way n kind ((spent, Pending hold e) ∷ left) h = let no_way : ⊥ = cc in absurd no_way
left_quiet way n kind ((spent, Inner node) ∷ left) h = let no_way : ⊥ = cc in absurd no_way

pub left_counts : (way : Way) (n : ℕ) (kind : Kind) (left : List (ℕ × Status)) → AreShut left → (credits_left left).inferences
    ≡ min greatest (inferences (list_left way n kind left))
left_counts way n kind [] h = omega arith
left_counts way n kind ((spent, Closed c) ∷ left) h =
    let before = left_counts way n kind left h.1 in
    let joined : inferences (list_left way n kind ((spent, Closed c) ∷ left))
    ≡ inferences (list_left way n kind left) + (c.inferences + 0) = inferences-append (list_left way n kind left) _ in
    let here : (credits_left ((spent, Closed c) ∷ left)).inferences ≡ min greatest ((credits_left left).inferences + c.inferences) = refl in
    omega (arith, before, joined, here)
left_counts way n kind ((spent, Pending hold e) ∷ left) h = let no_way : ⊥ = cc in absurd no_way
left_counts way n kind ((spent, Inner node) ∷ left) h = let no_way : ⊥ = cc in absurd no_way

pub front_quiet : (levels : List Level) → AreClear levels → IsQuiet (front_of levels)
front_quiet [] h = tt
front_quiet (v ∷ up) h = quiet-append (front_of up) _ (front_quiet up h.1) (left_quiet (way_of up) v.number v.kind v.left h.0)

pub front_counts : (levels : List Level) → AreClear levels → clock_of levels ≡ min greatest (inferences (front_of levels) + spent_at levels)
front_counts [] h = omega arith
front_counts (v ∷ up) h =
    let above : clock_of up ≡ min greatest (inferences (front_of up) + spent_at up) = front_counts up h.1 in
    let mine : (credits_left v.left).inferences ≡ min greatest (inferences (list_left (way_of up) v.number v.kind v.left)) = left_counts
    (way_of up) v.number v.kind v.left h.0 in
    let joined : inferences (front_of (v ∷ up))
    ≡ inferences (front_of up) + (spent_at up + inferences (list_left (way_of up) v.number v.kind v.left)) = inferences-append
    (front_of up) _ in
    let here : clock_of (v ∷ up) ≡ min greatest (clock_of up + min greatest ((credits_left v.left).inferences + v.spent)) = refl in
    let all : clock_of (v ∷ up) ≡ min greatest (inferences (front_of (v ∷ up)) + v.spent) = omega (arith, above, mine, joined, here) in
    all

pub one_credit : (h : Hold) (e : Entry) (n : ℕ) → profile (Pending h e) ≡ IsOpen → own_credit h n ≡ CreditElement n [] ∷ []
one_credit Ready e n o = refl
one_credit (TakenBy w) e n o = refl
one_credit (Waiting g) e n o = refl
one_credit Dormant e n o = let no_way : ⊥ = cc in absurd no_way

-- an entry that is awake is to be taken
pub awake_stops : (way : Way) (e : Entry) (xs : List Element) → IsAwake e → lead (element_on way e ∷ xs) ≡ 0
awake_stops [] (PlainEntry f) xs a = refl
awake_stops (s ∷ way) (PlainEntry f) xs a = refl
awake_stops [] (EndEntry b) xs a = refl
awake_stops (s ∷ way) (EndEntry b) xs a = refl
awake_stops way (CatchEntry c r f) xs a = absurd a
awake_stops way (FindallEntry results l f) xs a = absurd a

-- the first pending alternative
pub record IsFirst (t : TreeState) (s : Spot) : Type 0 where
  pub inside : IsIn t.root s
  pub clear : AreClear (levels_of s)
  pub opened : profile (Pending s.hold s.entry) ≡ IsOpen
  pub awake : IsAwake s.entry
  pub list : pending_list t.root ≡ front_of (levels_of s)
      ++ (CreditElement (spent_at (levels_of s)) [] ∷ (element_on (way_of (levels_of s)) s.entry ∷ back_of (levels_of s)))
  pub leads : lead (pending_list t.root) ≡ inferences (front_of (levels_of s)) + spent_at (levels_of s)
  pub clock : clock_of (levels_of s) ≡ min greatest (lead (pending_list t.root))

-- the list of a tree round an open place
pub list_round : (root : Status) (s : Spot) → IsIn root s → profile (Pending s.hold s.entry) ≡ IsOpen → pending_list root
    ≡ front_of (levels_of s) ++ (CreditElement (spent_at (levels_of s)) []
    ∷ (element_on (way_of (levels_of s)) s.entry ∷ back_of (levels_of s)))
list_round root s i o =
    ap pending_list (sym i) ∙ (around (levels_of s) (Pending s.hold s.entry)
    ∙ ap (λ credit. front_of (levels_of s) ++ ((credit ++ element_on (way_of (levels_of s)) s.entry ∷ []) ++ back_of (levels_of s)))
    (one_credit s.hold s.entry (spent_at (levels_of s)) o))

first_known : (t : TreeState) → IsSoundTree t → (s : Spot) (ss : List Spot) → pending_spots t ≡ s ∷ ss → IsFirst t s
first_known t h s ss p =
    let f = leftmost_front t.root h.sound s ss p in
    let same : f.first ≡ s = heads f.first s f.others ss (sym f.joined ∙ p) in
    subst (IsFirst t) same (known f.first f.others f.joined f.clear f.opened)
  where
    heads : (a b : Spot) (as_far bs : List Spot) → a ∷ as_far ≡ b ∷ bs → a ≡ b
    heads a b as_far bs e = cc

    known : (s : Spot) (ss : List Spot) → pending_spots t ≡ s ∷ ss → first_open (levels_of s) ≡ None → profile (Pending s.hold s.entry)
        ≡ IsOpen → IsFirst t s
    known s ss q c o =
        let inside : IsIn t.root s = (subst (Each (IsIn t.root)) q (all_in t.root)).0 in
        let clear = clear_all (levels_of s) c in
        let parts = taken_out (levels_of s) (Pending s.hold s.entry) (subst (IsSound []) (sym inside) h.sound) in
        let awake = awake_entry s.hold s.entry o parts.1.1 in
        let list = list_round t.root s inside o in
        let here : lead (CreditElement (spent_at (levels_of s)) []
        ∷ (element_on (way_of (levels_of s)) s.entry ∷ back_of (levels_of s)))
        ≡ spent_at (levels_of s) + 0 = ap (λ n. spent_at (levels_of s) + n)
        (awake_stops (way_of (levels_of s)) s.entry (back_of (levels_of s)) awake) in
        let behind : lead (pending_list t.root)
        ≡ inferences (front_of (levels_of s)) + lead
        (CreditElement (spent_at (levels_of s)) [] ∷ (element_on (way_of (levels_of s)) s.entry ∷ back_of (levels_of s))) = ap lead
        list ∙ lead-quiet (front_of (levels_of s)) _ (front_quiet (levels_of s) clear) in
        let leads : lead (pending_list t.root) ≡ inferences (front_of (levels_of s)) + spent_at (levels_of s) = omega
        (arith, here, behind) in
        let clock : clock_of (levels_of s) ≡ min greatest (lead (pending_list t.root)) = front_counts (levels_of s) clear
        ∙ ap (λ n. min greatest n) (sym leads) in
        record { inside = inside; clear = clear; opened = o; awake = awake; list = list; leads = leads; clock = clock }

pub leftmost_known : (t : TreeState) → IsSoundTree t → (s : Spot) → leftmost t ≡ Some s → IsFirst t s
leftmost_known t h s l = go (pending_spots t) refl l
  where
    go : (spots : List Spot) → pending_spots t ≡ spots → first_spot spots ≡ Some s → IsFirst t s
    go [] p e = let no_way : ⊥ = cc in absurd no_way
    go (r ∷ ss) p e = let same : r ≡ s = cc in subst (IsFirst t) same (first_known t h r ss p)

-- where nothing is pending the list is quiet
pub no_parts : {A : Type 0} → (xs ys : List A) → xs ++ ys ≡ [] → (xs ≡ []) × (ys ≡ [])
no_parts [] ys e = (refl, e)
no_parts (x ∷ xs) ys e = let no_way : ⊥ = cc in absurd no_way

mutual
  quiet_node : (way : Way) (up : List Level) (node : Node) → pending_in up node ≡ [] → IsQuiet (list_in way node)
  quiet_node way up (Numbered n kind alternatives) h = quiet_among way up n kind 0 [] alternatives h

  quiet_among : (way : Way) (up : List Level) (n : ℕ) (kind : Kind) (i : ℕ) (left : List (ℕ × Status)) (others : Alternatives)
      → pending_among up n kind left others ≡ [] → IsQuiet (list_among way n kind i others)
  quiet_among way up n kind i left none h = tt
  quiet_among way up n kind i left (alternative spent status others) h =
      let v : Level = record { number = n; kind = kind; left = left; spent = spent; right = others } in
      let p = no_parts (pending_below v up status) (pending_among up n kind ((spent, status) ∷ left) others) h in
      quiet-append (list_below (record { node = n; index = i; kind = kind } ∷ way) spent status) _
      (quiet_status (record { node = n; index = i; kind = kind } ∷ way) spent v up status p.0)
      (quiet_among way up n kind (suc i) ((spent, status) ∷ left) others p.1)

  quiet_status : (way : Way) (spent : ℕ) (v : Level) (up : List Level) (status : Status) → pending_below v up status ≡ []
      → IsQuiet (list_below way spent status)
  quiet_status way spent v up (Closed c) h = tt
  quiet_status way spent v up (Inner node) h = quiet_node way (v ∷ up) node h
  quiet_status way spent v up (Pending hold e) h = let no_way : ⊥ = cc in absurd no_way

pub no_root : (e : Entry) → IsOnWay [] e → ⊥
no_root (PlainEntry f) h = let no_way : ⊥ = clash h.asked in no_way
  where
    clash : false ≡ true → ⊥
    clash z = cc
no_root (EndEntry b) h = let no_way : ⊥ = clash h in no_way
  where
    clash : false ≡ true → ⊥
    clash z = cc
no_root (CatchEntry c r f) h = let no_way : ⊥ = clash h.asked in no_way
  where
    clash : false ≡ true → ⊥
    clash z = cc
no_root (FindallEntry results l f) h = let no_way : ⊥ = clash h.asked in no_way
  where
    clash : false ≡ true → ⊥
    clash z = cc

pub quiet_root : (root : Status) → IsSound [] root → pending_of root ≡ [] → IsQuiet (pending_list root)
quiet_root (Closed c) h p = tt
quiet_root (Inner node) h p = quiet_node [] [] node p
quiet_root (Pending hold e) h p = absurd (no_root e h.0)

pub none_left : (t : TreeState) → IsSoundTree t → leftmost t ≡ None → IsQuiet (pending_list t.root)
none_left t h l = go (pending_spots t) refl l
  where
    go : (spots : List Spot) → pending_spots t ≡ spots → first_spot spots ≡ None → IsQuiet (pending_list t.root)
    go [] p e = quiet_root t.root h.sound p
    go (r ∷ ss) p e = let no_way : ⊥ = cc in absurd no_way
