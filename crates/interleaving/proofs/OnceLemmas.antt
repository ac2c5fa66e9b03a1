-- No alternative is claimed twice, or out to two workers.
use Rattle.std.proofs.Common.{◌≡◌, ◌≢◌, ℕ, suc, ◌+◌, ◌≤◌, ◌==◌, Bool, true, false, List, [], ◌∷◌, ◌++◌}
use Rattle.std.proofs.Common.{Option, Some, None, refl, sym, ap, ◌∙◌, subst, arith}
use Rattle.std.specs.Prelude.{nat_le}
use Rattle.au_model.specs.Terms.Each.{Each}
use Rattle.run_model.specs.Machine.Entries.{Entry, PlainEntry, CatchEntry, FindallEntry, EndEntry}
use Rattle.tree_model.specs.Nodes.{Hold, Status, Pending}
use Rattle.tree_model.specs.Levels.{Place, same_place, Spot, levels_of, place_of_spot}
use Rattle.tree_model.specs.Pruning.{Task}
use Rattle.tree_model.specs.Events.{Event}
use Rattle.tree_model.specs.TreeStates.{TreeState}
use Rattle.tree_model.specs.HandOuts.{Handed, Never, if_here, handed_by, and_so_on}
use Rattle.tree_model.specs.Ways.{IsOnWay}
use Rattle.tree_model.specs.SoundTrees.{one_if, count_among, count_below, IsSound, IsSoundTree}
use Rattle.tree_model.proofs.CountLemmas.{count_left, count_around, count_plug}
use Rattle.interleaving.proofs.WayLemmas.{cond-true, cond-false}
use Rattle.interleaving.proofs.PluggedLemmas.{IsIn}
use Rattle.interleaving.proofs.HandOutCountLemmas.{handed, Agrees, AgreesAround, occurrences, occurrences_around}
use Rattle.interleaving.proofs.HandOutCountLemmas.{occurrences_plug, agrees_out, Elsewhere, NewIn, IsAgreed}
use Rattle.interleaving.proofs.HandOutPlaceLemmas.{tasks_at, tasks_append, IsOut, each-append, occurs_root}
use Rattle.interleaving.proofs.UnchangedPlaceLemmas.{same_place-is, place_self}
use Rattle.au_term.proofs.LogicLemmas.{number_same}

-- a tree that has not been halted, and how its alternatives have been handed out
pub record IsGoing (G : Place → Option Handed) (t : TreeState) : Type 0 where
  pub agrees : Agrees G 0 0 t.root
  pub new : NewIn G t.next
  pub lost : Each (IsOut G) t.lost
  pub once : (a : Place) → tasks_at a t.lost + occurrences a 0 0 t.root ≤ 1
  pub old : (a : Place) → t.next ≤ a.node → tasks_at a t.lost ≡ 0

pub record IsPreserved (G : Place → Option Handed) (t : TreeState) : Type 0 where
  pub defined : (a : Place) → G a ≢ None
  pub going : t.halted ≡ None → IsGoing G t

-- how it has been handed out after an event
abbrev pub after_one : (Place → Option Handed) → Event → Place → Option Handed
after_one G e a = and_so_on (G a) (handed_by a e)

-- an event at a place
abbrev pub moved_at : (Place → Option Handed) → Place → (Handed → Option Handed) → Place → Option Handed
moved_at G b tr a = and_so_on (G a) (λ h. if_here a b (tr h) h)

is_some : (o : Option Handed) → o ≢ None → o ≡ and_so_on o (λ h. Some h)
is_some None d = absurd (d refl)
is_some (Some h) d = refl

pub flip_place : (a b : Place) → same_place b a ≡ false → same_place a b ≡ false
flip_place a b h = go (same_place a b) refl
  where
    go : (c : Bool) → same_place a b ≡ c → c ≡ false
    go false e = refl
    go true e = let same : a ≡ b = same_place-is a b e in let k : same_place b a ≡ true = ap (λ x. same_place b x) same
        ∙ place_self b in sym k ∙ h

pub elsewhere : (G : Place → Option Handed) (b : Place) (tr : Handed → Option Handed) → ((a : Place) → G a ≢ None)
    → Elsewhere G (moved_at G b tr) b
elsewhere G b tr d a n = go (G a) (d a)
  where
    go : (o : Option Handed) → o ≢ None → and_so_on o (λ h. if_here a b (tr h) h) ≡ o
    go None k = absurd (k refl)
    go (Some h) k = cond-false (same_place a b) (tr h) (Some h) (flip_place a b n)

pub here : (G : Place → Option Handed) (b : Place) (tr : Handed → Option Handed) (h new : Handed) → G b ≡ Some h → tr h ≡ Some new
    → moved_at G b tr b ≡ Some new
here G b tr h new e k = ap (λ o. and_so_on o (λ x. if_here b b (tr x) x)) e
    ∙ (cond-true (same_place b b) (tr h) (Some h) (place_self b) ∙ k)

pub all_defined : (G : Place → Option Handed) (b : Place) (tr : Handed → Option Handed) (new : Handed) → ((a : Place) → G a ≢ None)
    → moved_at G b tr b ≡ Some new → (a : Place) → moved_at G b tr a ≢ None
all_defined G b tr new d k a = go (same_place b a) refl
  where
    some_none : {h : Handed} → Some h ≡ None → ⊥
    some_none z = cc

    go : (c : Bool) → same_place b a ≡ c → moved_at G b tr a ≢ None
    go true e z = let same : b ≡ a = same_place-is b a e in some_none (sym k ∙ (ap (moved_at G b tr) same ∙ z))
    go false e z = d a (sym (elsewhere G b tr d a e) ∙ z)

-- tasks elsewhere
pub lost_elsewhere : (G F : Place → Option Handed) (b : Place) → Elsewhere G F b → (tasks : List Task) → tasks_at b tasks ≡ 0
    → Each (IsOut G) tasks → Each (IsOut F) tasks
lost_elsewhere G F b e [] z h = tt
lost_elsewhere G F b e (task ∷ tasks) z h =
    (e task.at (apart (same_place b task.at) (omega (arith, z))) ∙ h.0, lost_elsewhere G F b e tasks (omega (arith, z)) h.1)
  where
    apart : (c : Bool) → one_if c ≡ 0 → c ≡ false
    apart false k = refl
    apart true k = let no_way : ⊥ = cc in absurd no_way

-- what is known of a spot
pub record IsThere (G : Place → Option Handed) (t : TreeState) (s : Spot) : Type 0 where
  pub inside : IsIn t.root s
  pub around : AgreesAround G (levels_of s)
  pub mine : G (place_of_spot s) ≡ Some (handed s.hold)
  pub alone : occurrences_around (place_of_spot s) (levels_of s) ≡ 0
  pub no_task : tasks_at (place_of_spot s) t.lost ≡ 0
  pub low : suc (place_of_spot s).node ≤ t.next
  pub stands : (a : Place) → occurrences_around a (levels_of s) ≤ occurrences a 0 0 t.root

pub there : (G : Place → Option Handed) (t : TreeState) (s : Spot) → IsGoing G t → IsSoundTree t → IsIn t.root s → IsThere G t s
there G t s g k i =
    let b = place_of_spot s in
    let out = agrees_out G (levels_of s) (Pending s.hold s.entry) (subst (Agrees G 0 0) (sym i) g.agrees) in
    let sum : (a : Place) → occurrences a 0 0 t.root ≡ occurrences_around a (levels_of s) + one_if (same_place a b) = λ a. ap
    (occurrences a 0 0) (sym i)
    ∙ occurrences_plug a (levels_of s) (Pending s.hold s.entry) in
    let mine : one_if (same_place b b) ≡ 1 = ap one_if (place_self b) in
    let v = s.level in
    let counts : count_below v.number t.root
    ≡ (count_around v.number s.above +
    (one_if (v.number == v.number) + (count_left v.number v.left + count_among v.number v.right))) + 0 = ap (count_below v.number)
    (sym i) ∙ count_plug v.number (levels_of s) (Pending s.hold s.entry) in
    let self : one_if (v.number == v.number) ≡ 1 = ap one_if (number_same v.number) in
    record {
      inside = i;
      around = out.0;
      mine = out.1;
      alone = omega (arith, sum b, mine, g.once b);
      no_task = omega (arith, sum b, mine, g.once b);
      low = below v.number (omega (arith, counts, self)) (nat_le t.next v.number) refl;
      stands = λ a. omega (arith, sum a);
    }
  where
    below : (n : ℕ) → 1 ≤ count_below n t.root → (c : Bool) → nat_le t.next n ≡ c → suc n ≤ t.next
    below n p true e = let l : t.next ≤ n = grind arith in let no_way : ⊥ = omega (arith, p, k.fresh n l) in absurd no_way
    below n p false e = grind arith

-- a tree after an event at a spot
pub record IsMoved (F : Place → Option Handed) (t new : TreeState) (s : Spot) (gone : List Task) : Type 0 where
  pub agreed : IsAgreed F t.next (λ a. tasks_at a gone) (λ a. occurrences_around a (levels_of s)) new.root
  pub lost : new.lost ≡ t.lost ++ gone
  pub out : Each (IsOut F) gone
  pub next : t.next ≤ new.next
  pub gone_low : (a : Place) → tasks_at a gone ≤ occurrences_around a (levels_of s)

-- no entry is above all nodes
no_top : (root : Status) → IsSound [] root → (hold : Hold) (e : Entry) → root ≡ Pending hold e → ⊥
no_top root h hold e q = top e (subst (IsSound []) q h).0
  where
    clash : false ≡ true → ⊥
    clash z = cc

    top : (e : Entry) → IsOnWay [] e → ⊥
    top (PlainEntry f) o = clash o.asked
    top (CatchEntry c r f) o = clash o.asked
    top (FindallEntry results l f) o = clash o.asked
    top (EndEntry b) o = clash o

pub moved_going : (G : Place → Option Handed) (t new : TreeState) (s : Spot) (tr : Handed → Option Handed) (h : Handed)
    (gone : List Task) → ((a : Place) → G a ≢ None) → IsGoing G t → IsSoundTree t → IsThere G t s → tr (handed s.hold) ≡ Some h
    → IsSoundTree new →
    IsMoved (moved_at G (place_of_spot s) tr) t new s gone → IsGoing (moved_at G (place_of_spot s) tr) new
moved_going G t new s tr h gone d g k th q kn m =
    let b = place_of_spot s in
    let F = moved_at G b tr in
    record {
      agrees = m.agreed.agrees;
      new = λ a l. new_at a (omega (arith, l, m.next)) (same_place b a) refl;
      lost = subst (Each (IsOut F)) (sym m.lost)
          (each-append (IsOut F) t.lost gone (lost_elsewhere G F b (elsewhere G b tr d) t.lost th.no_task g.lost) m.out);
      once = λ a. once_at a (nat_le t.next a.node) refl;
      old = λ a l. old_at a (omega (arith, l, m.next));
    }
  where
    F : Place → Option Handed
    F = moved_at G (place_of_spot s) tr

    new_at : (a : Place) → t.next ≤ a.node → (c : Bool) → same_place (place_of_spot s) a ≡ c → F a ≡ Some Never
    new_at a l true e = let same : place_of_spot s ≡ a = same_place-is (place_of_spot s) a e in let node : (place_of_spot s).node
        ≡ a.node = ap (λ p. p.node) same in let no_way : ⊥ = omega (arith, th.low, node, l) in absurd no_way
    new_at a l false e = elsewhere G (place_of_spot s) tr d a e ∙ g.new a l

    lost_count : (a : Place) → tasks_at a new.lost ≡ tasks_at a t.lost + tasks_at a gone
    lost_count a = ap (tasks_at a) m.lost ∙ tasks_append a t.lost gone

    no_occurrences : (a : Place) → t.next ≤ a.node → occurrences a 0 0 t.root ≡ 0
    no_occurrences a l = omega (arith, occurs_root a t.root 0 0 (no_top t.root k.sound), k.fresh a.node l)

    old_at : (a : Place) → t.next ≤ a.node → tasks_at a new.lost ≡ 0
    old_at a l = omega (arith, lost_count a, g.old a l, m.gone_low a, th.stands a, no_occurrences a l)

    once_at : (a : Place) → (c : Bool) → nat_le t.next a.node ≡ c → tasks_at a new.lost + occurrences a 0 0 new.root ≤ 1
    once_at a true e = let l : t.next ≤ a.node = grind arith in omega
        (arith, old_at a l, occurs_root a new.root 0 0 (no_top new.root kn.sound), kn.distinct a.node)
    once_at a false e = let l : suc a.node ≤ t.next = grind arith in omega (arith, lost_count a, m.agreed.few a l, th.stands a, g.once a)
