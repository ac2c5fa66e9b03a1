-- Where a ball falls along a branch: to the first catch, from mark to mark, that takes it, or to none.
use Rattle.std.proofs.Common.{◌≡◌, ℕ, suc, ◌+◌, ◌-◌, ◌≤◌, ◌==◌, Bool, true, false, cond, List, [], ◌∷◌, length, Option, Some, None, refl}
use Rattle.std.proofs.Common.{sym, ap, ◌∙◌, subst, arith}
use Rattle.au_term.specs.Term.{Term}
use Rattle.au_model.specs.Terms.Substitutions.{Substitution}
use Rattle.au_model.specs.Terms.Unifier.{unifier}
use Rattle.au_model.specs.Terms.Copies.{copied, copy_takes}
use Rattle.run_model.specs.Programs.Bodies.{call_of}
use Rattle.run_model.specs.Machine.Items.{Item, GoalItem, CatchMark, CollectMark, RemovalItem, Continuation, first_mark}
use Rattle.run_model.specs.Machine.Items.{resolve_continuation}
use Rattle.run_model.specs.Machine.Items.{before, with_next}
use Rattle.run_model.specs.Machine.Entries.{Entry, PlainEntry, CatchEntry, FindallEntry, EndEntry}
use Rattle.run_model.specs.Machine.Balls.{recovered, unwound}
use Rattle.tree_model.specs.Nodes.{Hold, Ready, TakenBy, Waiting, Dormant, Alternatives, none, alternative, Status, Pending, Inner}
use Rattle.tree_model.specs.Nodes.{Closed}
use Rattle.tree_model.specs.Levels.{Level, level_node, plug}
use Rattle.tree_model.specs.Floors.{height_of, right_entry, with_heights, floor_of}
use Rattle.tree_model.specs.PendingLists.{way_of}
use Rattle.tree_model.specs.Ways.{is_on}
use Rattle.tree_model.specs.SoundTrees.{IsOpen, profiles, guards, is_shape}
use Rattle.tree_model.specs.CaughtTrees.{catch_right, with_catch, MarksCaught, AreCaught}
use Rattle.interleaving.proofs.ContextLemmas.{put_profiles, IsLevel, IsAround}
use Rattle.interleaving.proofs.WayLemmas.{cond-true, cond-false, other_number}
use Rattle.interleaving.proofs.RoundtripLemmas.{by_heights, height_low, height_positive}
use Rattle.interleaving.proofs.EntryLemmas.{length-floor}
use Rattle.interleaving.proofs.BallStackLemmas.{nothing_infers, dormant_first}
use Rattle.tree_model.specs.Closing.{dormant_right}
use Rattle.interleaving.proofs.ClosingListLemmas.{Guards, guards_of}
use Rattle.interleaving.proofs.ListEndLemmas.{levels_down}
use Rattle.interleaving.proofs.ListScopeLemmas.{dormant_on}
use Rattle.interleaving.proofs.ListsSoundLemmas.{under_of}
use Rattle.interleaving.proofs.ListMarkLemmas.{no_left, DormantRight, catch_dormant}
use Rattle.interleaving.proofs.CaughtContextLemmas.{RootCaught, level_caught}
use Rattle.au_term.proofs.LogicLemmas.{false_true, not_equal, number_same}

-- the level of the catch that takes the ball, those above it, the recovery, what follows the catch, and the unifier
pub data Catching : Type 0 where
  Uncaught : Catching
  CaughtBy : Level → List Level → Term → Continuation ℕ → Substitution → Catching

abbrev pub caught_or : Option Substitution → Level → List Level → Term → Continuation ℕ → Catching → Catching
caught_or (Some o) v up r f further = CaughtBy v up r f o
caught_or None v up r f further = further

abbrev pub dormant_falls : Term → Level → List Level → Hold → Entry → (Option ℕ → Catching) → Catching
dormant_falls ball v up Dormant (CatchEntry x r f) go = caught_or (unifier ((x, copied ball f.next) ∷ [])) v up r f
    (go (first_mark f.items))
dormant_falls ball v up Dormant (PlainEntry f) go = Uncaught
dormant_falls ball v up Dormant (FindallEntry results l f) go = Uncaught
dormant_falls ball v up Dormant (EndEntry b) go = Uncaught
dormant_falls ball v up Ready e go = Uncaught
dormant_falls ball v up (TakenBy w) e go = Uncaught
dormant_falls ball v up (Waiting g) e go = Uncaught

abbrev pub right_falls : Term → Level → List Level → Alternatives → (Option ℕ → Catching) → Catching
right_falls ball v up (alternative spent (Pending hold e) others) go = dormant_falls ball v up hold e go
right_falls ball v up (alternative spent (Inner node) others) go = Uncaught
right_falls ball v up (alternative spent (Closed c) others) go = Uncaught
right_falls ball v up none go = Uncaught

abbrev pub catching : Term → List Level → Option ℕ → Catching
catching ball [] mark = Uncaught
catching ball (v ∷ up) None = Uncaught
catching ball (v ∷ up) (Some s) = cond (v.number == s) (right_falls ball v up v.right (catching ball up)) (catching ball up (Some s))

-- what follows a catch, by heights
abbrev pub by_heights_of : List Level → Continuation ℕ → Continuation ℕ
by_heights_of up f = record { items = by_heights up f.items; named = f.named; next = f.next }

-- what a ball leaves of the floor
abbrev pub catching_entries : Term → Catching → List Entry
catching_entries ball Uncaught = EndEntry (Some (copied ball 0)) ∷ []
catching_entries ball (CaughtBy v up r f o) = PlainEntry
    (resolve_continuation o (with_next (f.next + copy_takes ball)
    (before (GoalItem (call_of r) (length (floor_of up)) ∷ []) (by_heights_of up f)))) ∷ floor_of up

-- a mark of a branch, whose recovery sleeps
abbrev pub MarkIsDormant : List Level → Option ℕ → Type 0
MarkIsDormant levels None = Unit {0}
MarkIsDormant levels (Some s) = dormant_on levels s ≡ true

abbrev pub mark_height : List Level → Option ℕ → Option ℕ
mark_height levels None = None
mark_height levels (Some s) = Some (height_of levels s - 1)

pub first_height : (levels : List Level) (items : List (Item ℕ)) → first_mark (by_heights levels items)
    ≡ mark_height levels (first_mark items)
first_height levels [] = refl
first_height levels (CatchMark s ∷ items) = refl
first_height levels (GoalItem t s ∷ items) = first_height levels items
first_height levels (CollectMark t s ∷ items) = first_height levels items
first_height levels (RemovalItem n ∷ items) = first_height levels items

pub first_dormant : (levels : List Level) (items : List (Item ℕ)) → MarksCaught (dormant_on levels) items
    → MarkIsDormant levels (first_mark items)
first_dormant levels [] h = tt
first_dormant levels (CatchMark s ∷ items) h = h.0
first_dormant levels (GoalItem t s ∷ items) h = first_dormant levels items h
first_dormant levels (CollectMark t s ∷ items) h = first_dormant levels items h
first_dormant levels (RemovalItem n ∷ items) h = first_dormant levels items h

-- marks that name no such node
pub marks_off : (sleeps : ℕ → Bool) (n : ℕ) (items : List (Item ℕ)) → MarksCaught (with_catch n false sleeps) items
    → MarksCaught sleeps items
marks_off sleeps n [] h = tt
marks_off sleeps n (CatchMark s ∷ items) h = (off (n == s) h.0, marks_off sleeps n items h.1)
  where
    off : (b : Bool) → cond b false (sleeps s) ≡ true → sleeps s ≡ true
    off true k = false_true k
    off false k = k
marks_off sleeps n (GoalItem t s ∷ items) h = marks_off sleeps n items h
marks_off sleeps n (CollectMark t s ∷ items) h = marks_off sleeps n items h
marks_off sleeps n (RemovalItem m ∷ items) h = marks_off sleeps n items h

-- a recovery that sleeps is on the branch
pub dormant_way : (levels : List Level) (s : ℕ) → dormant_on levels s ≡ true → is_on (way_of levels) s ≡ true
dormant_way [] s h = false_true h
dormant_way (v ∷ up) s h = go (v.number == s) (dormant_way up s) h
  where
    go : (b : Bool) → (dormant_on up s ≡ true → is_on (way_of up) s ≡ true) → cond b (catch_right v.right) (dormant_on up s) ≡ true
        → cond b true (is_on (way_of up) s) ≡ true
    go true f k = refl
    go false f k = f k

-- what sleeps is guarded by a first alternative, and nothing else is after
pub dormant_guards : (v : Level) (up : List Level) (e : Entry) → IsLevel up v IsOpen → DormantRight v e → Guards v e
dormant_guards v up e i q =
    let first : length v.left ≡ 0 = dormant_first v.kind v.left (guards e) (profiles q.others)
    (subst (λ r. is_shape v.kind (put_profiles v.left (IsOpen ∷ profiles r)) ≡ true) q.right i.shape) in
    let left : v.left ≡ [] = no_left v.left (ap (λ n. n == 0) first) in
    guards_of v up e i (subst (λ l. Shows l v.right) (sym left) (subst (λ r. dormant_right r ≡ Some e) (sym q.right) refl))
  where
    Shows : List (ℕ × Status) → Alternatives → Type 0
    Shows l r = elim l as (λ x. Option Entry) [ [] ↦ dormant_right r | a ∷ left ↦ None ] ≡ Some e

-- a level whose recovery doesn't sleep for this mark is passed
passed : (ball : Term) (m : ℕ) (up : List Level) (e : Entry) → (m == length (floor_of up)) ≡ false
    → unwound ball (Some m) (e ∷ floor_of up) ≡ unwound ball (Some m) (floor_of up)
passed ball m up (PlainEntry f) h = refl
passed ball m up (FindallEntry results l f) h = refl
passed ball m up (EndEntry b) h = refl
passed ball m up (CatchEntry c r f) h =
    ap (λ b. recovered (cond b (unifier ((c, copied ball f.next) ∷ [])) None) ball r f (floor_of up)
    (unwound ball (cond b (first_mark f.items) (Some m)) (floor_of up))) h

abbrev Lands : Term → List Level → Option ℕ → Type 0
Lands ball levels mark = unwound ball (mark_height levels mark) (floor_of levels) ≡ catching_entries ball (catching ball levels mark)

low_minus : (n k : ℕ) → 1 ≤ k → k ≤ n → (k - 1 == n) ≡ false
low_minus n k a b = not_equal (k - 1) n (omega (arith, a, b))

height_some : (levels : List Level) (s : ℕ) → is_on (way_of levels) s ≡ true → 1 ≤ height_of levels s
height_some levels s h = let z = height_positive levels s h in omega (arith, z)

-- at a catch
falls_here : (ball : Term) (v : Level) (up : List Level) (x r : Term) (f : Continuation ℕ) (s : ℕ) → v.right
    ≡ alternative s (Pending Dormant (CatchEntry x r f)) none → Lands ball up (first_mark f.items)
    → unwound ball (Some (suc (length up) - 1)) (floor_of (v ∷ up))
    ≡ catching_entries ball (right_falls ball v up v.right (catching ball up))
falls_here ball v up x r f s q further = subst Stays (sym q) (marked ∙ at_catch (unifier ((x, copied ball f.next) ∷ [])))
  where
    Stays : Alternatives → Type 0
    Stays right = unwound ball (Some (suc (length up) - 1)) (with_heights up (right_entry right) ∷ floor_of up)
        ≡ catching_entries ball (right_falls ball v up right (catching ball up))

    own : (suc (length up) - 1 == length (floor_of up)) ≡ true
    own = ap (λ n. n == length (floor_of up)) (let z : suc (length up) - 1 ≡ length up = omega arith in z)
        ∙ (ap (λ n. length up == n) (length-floor up) ∙ number_same (length up))

    g : Continuation ℕ
    g = by_heights_of up f

    marked : unwound ball (Some (suc (length up) - 1)) (CatchEntry x r (by_heights_of up f) ∷ floor_of up)
        ≡ recovered (unifier ((x, copied ball f.next) ∷ [])) ball r (by_heights_of up f) (floor_of up)
        (unwound ball (first_mark (by_heights up f.items)) (floor_of up))
    marked = ap (λ b. recovered (cond b (unifier ((x, copied ball f.next) ∷ [])) None) ball r (by_heights_of up f) (floor_of up)
        (unwound ball (cond b (first_mark (by_heights up f.items)) (Some (suc (length up) - 1))) (floor_of up))) own

    at_catch : (o : Option Substitution) → recovered o ball r (by_heights_of up f) (floor_of up)
        (unwound ball (first_mark (by_heights up f.items)) (floor_of up))
        ≡ catching_entries ball (caught_or o v up r f (catching ball up (first_mark f.items)))
    at_catch (Some o) = refl
    at_catch None = ap (λ k. unwound ball k (floor_of up)) (first_height up f.items) ∙ further

-- what a sleeping recovery has marked
pub dormant_marks : (v : Level) (up : List Level) (status : Status) (x r : Term) (f : Continuation ℕ) (s : ℕ)
    → RootCaught (plug (v ∷ up) status) → v.right ≡ alternative s (Pending Dormant (CatchEntry x r f)) none
    → MarksCaught (dormant_on up) f.items
dormant_marks v up status x r f s h q = marks_off (dormant_on up) v.number f.items
    (subst (λ a. AreCaught (dormant_on up) (under_of up) v.number v.kind (suc (length v.left)) a) q (level_caught up v status h).1).0

-- the entries of the floor, and the levels
pub ball_scope_falls : (ball : Term) (levels : List Level) (status : Status) (mark : Option ℕ) → IsAround levels IsOpen
    → RootCaught (plug levels status) → MarkIsDormant levels mark → Lands ball levels mark
ball_scope_falls ball [] status None a h m = refl
ball_scope_falls ball [] status (Some s) a h m = false_true m
ball_scope_falls ball (v ∷ up) status None a h m = nothing_infers ball (floor_of (v ∷ up))
ball_scope_falls ball (v ∷ up) status (Some s) a h m = go (v.number == s) refl m
    (λ k l. ball_scope_falls ball up (Inner (level_node v status)) k a.1 h l)
  where
    Goal : Bool → Type 0
    Goal b = unwound ball (Some (cond b (suc (length up)) (height_of up s) - 1)) (floor_of (v ∷ up))
        ≡ catching_entries ball (cond b (right_falls ball v up v.right (catching ball up)) (catching ball up (Some s)))

    go : (b : Bool) → (v.number == s) ≡ b → cond b (catch_right v.right) (dormant_on up s) ≡ true
        → ((k : Option ℕ) → MarkIsDormant up k → Lands ball up k) → Goal b
    go true e k more =
        let c = catch_dormant v k in
        let q = dormant_guards v up (CatchEntry c.0 c.1 c.2) a.0 c.3 in
        falls_here ball v up c.0 c.1 c.2 q.spent q.right
        (more (first_mark c.2.items) (first_dormant up c.2.items (dormant_marks v up status c.0 c.1 c.2 q.spent h q.right)))
    go false e k more =
        let on = dormant_way up s k in
        let low : height_of up s ≤ length (floor_of up) = subst (λ n. height_of up s ≤ n) (sym (length-floor up)) (height_low up s) in
        passed ball (height_of up s - 1) up (with_heights up (right_entry v.right))
        (low_minus (length (floor_of up)) (height_of up s) (height_some up s on) low) ∙ more (Some s) k

-- the catch that takes a ball is on the branch, its recovery asleep
pub record IsCatcher (ball : Term) (levels : List Level) (v : Level) (up : List Level) (r : Term) (f : Continuation ℕ)
    (o : Substitution) : Type 0 where
  pub catcher : Term
  pub unifies : unifier ((catcher, copied ball f.next) ∷ []) ≡ Some o
  pub sleeper : Guards v (CatchEntry catcher r f)
  pub down : levels_down levels v.number ≡ v ∷ up
  pub on : is_on (way_of levels) v.number ≡ true

abbrev pub IsTaken : Term → List Level → Catching → Type 0
IsTaken ball levels Uncaught = Unit {0}
IsTaken ball levels (CaughtBy v up r f o) = IsCatcher ball levels v up r f o

taken_above : (ball : Term) (v : Level) (up : List Level) (x : Catching) → IsLevel up v IsOpen → IsTaken ball up x → IsTaken ball (v ∷ up) x
taken_above ball v up Uncaught a h = tt
taken_above ball v up (CaughtBy w above r f o) a h =
    let off : (v.number == w.number) ≡ false = other_number (way_of up) v.number w.number a.new h.on (v.number == w.number) refl in
    record {
      catcher = h.catcher;
      unifies = h.unifies;
      sleeper = h.sleeper;
      down = cond-false (v.number == w.number) (v ∷ up) (levels_down up w.number) off ∙ h.down;
      on = cond-false (v.number == w.number) true (is_on (way_of up) w.number) off ∙ h.on;
    }

pub catching_taken : (ball : Term) (levels : List Level) (status : Status) (mark : Option ℕ) → IsAround levels IsOpen
    → RootCaught (plug levels status) → MarkIsDormant levels mark → IsTaken ball levels (catching ball levels mark)
catching_taken ball [] status mark a h m = tt
catching_taken ball (v ∷ up) status None a h m = tt
catching_taken ball (v ∷ up) status (Some s) a h m = go (v.number == s) refl m
    (λ k l. taken_above ball v up (catching ball up k) a.0 (catching_taken ball up (Inner (level_node v status)) k a.1 h l))
  where
    go : (b : Bool) → (v.number == s) ≡ b → cond b (catch_right v.right) (dormant_on up s) ≡ true
        → ((k : Option ℕ) → MarkIsDormant up k → IsTaken ball (v ∷ up) (catching ball up k))
        → IsTaken ball (v ∷ up) (cond b (right_falls ball v up v.right (catching ball up)) (catching ball up (Some s)))
    go false e k more = more (Some s) k
    go true e k more =
        let c = catch_dormant v k in
        let q = dormant_guards v up (CatchEntry c.0 c.1 c.2) a.0 c.3 in
        subst (λ right. IsTaken ball (v ∷ up) (right_falls ball v up right (catching ball up))) (sym q.right)
        (at_catch c.0 c.1 c.2 q (unifier ((c.0, copied ball c.2.next) ∷ [])) refl
        (more (first_mark c.2.items) (first_dormant up c.2.items (dormant_marks v up status c.0 c.1 c.2 q.spent h q.right))))
      where
        at_catch : (x r : Term) (f : Continuation ℕ) → Guards v (CatchEntry x r f) → (o : Option Substitution)
            → unifier ((x, copied ball f.next) ∷ []) ≡ o → IsTaken ball (v ∷ up) (catching ball up (first_mark f.items))
            → IsTaken ball (v ∷ up) (caught_or o v up r f (catching ball up (first_mark f.items)))
        at_catch x r f q (Some o) z t = record {
          catcher = x;
          unifies = z;
          sleeper = q;
          down = cond-true (v.number == v.number) (v ∷ up) (levels_down up v.number)
              (number_same v.number);
          on = cond-true (v.number == v.number) true (is_on (way_of up) v.number) (number_same v.number);
        }
        at_catch x r f q None z t = t
