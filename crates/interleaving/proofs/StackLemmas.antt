-- The ways of own entries over a floor.
use Rattle.std.proofs.Common.{◌≡◌, ℕ, zero, suc, ◌+◌, ◌≤◌, ◌==◌, Bool, true, false, cond, List, [], ◌∷◌, ◌++◌, map, length, drop, Option}
use Rattle.std.proofs.Common.{Some, None, refl, sym, ap, ◌∙◌, subst, arith}
use Rattle.au_term.specs.Term.{Term}
use Rattle.au_model.specs.Terms.Substitutions.{Substitution}
use Rattle.au_model.specs.Terms.Unifier.{unifier}
use Rattle.run_model.specs.Goals.Outcomes.{Solution}
use Rattle.run_model.specs.Machine.Items.{Item, GoalItem, CatchMark, CollectMark, RemovalItem, Continuation, goals_at, resolve_item, before}
use Rattle.run_model.specs.Machine.Items.{with_next, removal_items, removing, without_marks}
use Rattle.run_model.specs.Machine.Entries.{Entry, PlainEntry, CatchEntry, FindallEntry, EndEntry, unified, solution_entries}
use Rattle.tree_model.specs.Shapes.{guard_kind}
use Rattle.tree_model.specs.PendingLists.{Step, Way}
use Rattle.tree_model.specs.Ways.{is_on, is_barrier, in_reach, way_from, way_above, AreScoped, under_query, IsAsked}
use Rattle.interleaving.proofs.WayLemmas.{cond-true, cond-false, below_new}
use Rattle.interleaving.proofs.RoundtripLemmas.{IsPath, weaken_from, weaken_above}
use Rattle.interleaving.proofs.CollapseLemmas.{as_scopes}
use Rattle.au_term.proofs.LogicLemmas.{not_equal, number_same}

-- nodes are named by heights
abbrev pub IsCounted : Way → Type 0
IsCounted [] = Unit {0}
IsCounted (a ∷ way) = (a.node ≡ suc (length way)) × IsCounted way

pub above_counted : (way : Way) (n : ℕ) → IsCounted way → suc (length way) ≤ n → is_on way n ≡ false
above_counted [] n c l = refl
above_counted (a ∷ way) n c l = cond-false (a.node == n) true (is_on way n) (not_equal a.node n (omega (arith, c.0, l)))
    ∙ above_counted way n c.1 (omega arith)

pub counted_path : (way : Way) → IsCounted way → IsPath way
counted_path [] c = tt
counted_path (a ∷ way) c = (above_counted way a.node c.1 (omega (arith, c.0)), counted_path way c.1)

-- the way of what is over entries
abbrev pub entry_step : Entry → ℕ → Step
entry_step e n = record { node = suc n; index = 0; kind = guard_kind (e ∷ []) }

abbrev pub stack_way : List Entry → Way → Way
stack_way [] w = w
stack_way (e ∷ es) w = entry_step e (length es + length w) ∷ stack_way es w

pub length-stack : (es : List Entry) (w : Way) → length (stack_way es w) ≡ length es + length w
length-stack [] w = omega arith
length-stack (e ∷ es) w = let h = length-stack es w in omega (arith, h)

pub counted_stack : (es : List Entry) (w : Way) → IsCounted w → IsCounted (stack_way es w)
counted_stack [] w c = c
counted_stack (e ∷ es) w c = (ap suc (sym (length-stack es w)), counted_stack es w c)

-- an entry over a way
abbrev pub IsOver : Way → Entry → Type 0
IsOver way (PlainEntry f) = IsAsked way (as_scopes f.items)
IsOver way (CatchEntry c r f) = IsAsked way (as_scopes f.items)
IsOver way (FindallEntry results l f) = IsAsked way (as_scopes f.items)
IsOver way (EndEntry b) = ⊥

abbrev pub AreOver : Way → List Entry → Type 0
AreOver w [] = Unit {0}
AreOver w (e ∷ es) = IsOver (stack_way es w) e × AreOver w es

pub drop_over : (w : Way) (k : ℕ) (es : List Entry) → AreOver w es → AreOver w (drop k es)
drop_over w zero es h = h
drop_over w (suc k) [] h = h
drop_over w (suc k) (e ∷ es) h = drop_over w k es h.1

-- scopes
pub resolved_scopes : (s : Substitution) (way : Way) (items : List (Item ℕ)) → AreScoped way (as_scopes items)
    → AreScoped way (as_scopes (map (resolve_item s) items))
resolved_scopes s way [] h = tt
resolved_scopes s way (GoalItem t n ∷ items) h = (h.0, resolved_scopes s (way_from way n) items h.1)
resolved_scopes s way (CatchMark n ∷ items) h = (h.0, resolved_scopes s (way_above way (suc n)) items h.1)
resolved_scopes s way (CollectMark t n ∷ items) h = (h.0, resolved_scopes s (way_above way (suc n)) items h.1)
resolved_scopes s way (RemovalItem number ∷ items) h = resolved_scopes s way items h

pub marks_scopes : (way : Way) (items : List (Item ℕ)) → IsPath way → AreScoped way (as_scopes items)
    → AreScoped way (as_scopes (without_marks items))
marks_scopes way [] p h = h
marks_scopes way (CatchMark s ∷ items) p h = marks_scopes way items p (weaken_above way (suc s) (as_scopes items) p h.0 h.1)
marks_scopes way (GoalItem t s ∷ items) p h = h
marks_scopes way (CollectMark t s ∷ items) p h = h
marks_scopes way (RemovalItem number ∷ items) p h = h

-- the topmost node is in reach
pub top_reach : (way : Way) (n : ℕ) → IsCounted way → n ≡ length way → under_query way ≡ true → in_reach way n ≡ true
top_reach [] n c e u = u
top_reach (a ∷ way) n c e u = cond-true (a.node == n) true _ (ap (λ m. m == n) (c.0 ∙ sym e) ∙ number_same n)

pub top_from : (way : Way) (n : ℕ) → IsCounted way → n ≡ length way → way_from way n ≡ way
top_from [] n c e = refl
top_from (a ∷ way) n c e = cond-true (a.node == n) (a ∷ way) (way_from way n) (ap (λ m. m == n) (c.0 ∙ sym e) ∙ number_same n)

pub top_goals : (way : Way) (n : ℕ) → IsCounted way → n ≡ length way → under_query way ≡ true → (gs : List Term) (items : List (Item ℕ))
    → AreScoped way (as_scopes items) → AreScoped way (as_scopes (goals_at n gs ++ items))
top_goals way n c e u [] items h = h
top_goals way n c e u (g ∷ gs) items h = (
  top_reach way n c e u,
  subst (λ x. AreScoped x (as_scopes (goals_at n gs ++ items))) (sym (top_from way n c e))
      (top_goals way n c e u gs items h),
)

-- goals in a scope in reach
reach_again : (way : Way) (s : ℕ) → in_reach way s ≡ true → in_reach (way_from way s) s ≡ true
reach_again [] s h = h
reach_again (a ∷ way) s h = go (a.node == s) refl (is_barrier a) (reach_again way s) h
  where
    go : (b : Bool) → (a.node == s) ≡ b → (c : Bool) → (in_reach way s ≡ true → in_reach (way_from way s) s ≡ true)
        → cond b true (cond c false (in_reach way s)) ≡ true → in_reach (cond b (a ∷ way) (way_from way s)) s ≡ true
    go true e c f k = cond-true (a.node == s) true _ e
    go false e false f k = f k
    go false e true f k = let no_way : ⊥ = cc in absurd no_way

from_again : (way : Way) (s : ℕ) → way_from (way_from way s) s ≡ way_from way s
from_again [] s = refl
from_again (a ∷ way) s = go (a.node == s) refl (from_again way s)
  where
    go : (b : Bool) → (a.node == s) ≡ b → way_from (way_from way s) s ≡ way_from way s → way_from (cond b (a ∷ way) (way_from way s)) s
        ≡ cond b (a ∷ way) (way_from way s)
    go true e f = cond-true (a.node == s) (a ∷ way) (way_from way s) e
    go false e f = f

goals_from : (way : Way) (s : ℕ) → in_reach way s ≡ true → (gs : List Term) (items : List (Item ℕ))
    → AreScoped (way_from way s) (as_scopes items) → AreScoped (way_from way s) (as_scopes (goals_at s gs ++ items))
goals_from way s r [] items h = h
goals_from way s r (g ∷ gs) items h = (
  reach_again way s r,
  subst (λ x. AreScoped x (as_scopes (goals_at s gs ++ items))) (sym (from_again way s))
      (goals_from way s r gs items h),
)

pub scope_goals : (way : Way) (s : ℕ) → IsPath way → in_reach way s ≡ true → (gs : List Term) (items : List (Item ℕ))
    → AreScoped (way_from way s) (as_scopes items) → AreScoped way (as_scopes (goals_at s gs ++ items))
scope_goals way s p r gs items h = weaken_from way s (as_scopes (goals_at s gs ++ items)) p r (goals_from way s r gs items h)

-- over plain entries
abbrev pub ArePlain : List Entry → Type 0
ArePlain [] = Unit {0}
ArePlain (PlainEntry f ∷ es) = ArePlain es
ArePlain (EndEntry b ∷ es) = ⊥
ArePlain (CatchEntry c r f ∷ es) = ⊥
ArePlain (FindallEntry results l f ∷ es) = ⊥

pub over_plain : (w : Way) (new es : List Entry) (items : List (Item ℕ)) → IsCounted w → ArePlain new
    → IsAsked (stack_way es w) (as_scopes items) → IsAsked (stack_way (new ++ es) w) (as_scopes items)
over_plain w [] es items c p h = h
over_plain w (PlainEntry f ∷ new) es items c p h =
    let k = over_plain w new es items c p h in
    let off : is_on (stack_way (new ++ es) w) (suc (length (new ++ es) + length w)) ≡ false = above_counted (stack_way (new ++ es) w) _
    (counted_stack (new ++ es) w c) (omega (arith, length-stack (new ++ es) w)) in
    record {
      asked = k.asked;
      scoped = below_new (entry_step (PlainEntry f) (length (new ++ es) + length w)) (stack_way (new ++ es) w)
          (as_scopes items) off refl k.scoped;
    }
over_plain w (EndEntry b ∷ new) es items c p h = absurd p
over_plain w (CatchEntry x r f ∷ new) es items c p h = absurd p
over_plain w (FindallEntry results l f ∷ new) es items c p h = absurd p

pub unified_plain : (o : Option Substitution) (f : Continuation ℕ) (new : List Entry) → ArePlain new → ArePlain (unified o f ++ new)
unified_plain None f new p = p
unified_plain (Some s) f new p = p

pub solutions_plain : (n : ℕ) (f : Continuation ℕ) (ss : List Solution) → ArePlain (solution_entries n f ss)
solutions_plain n f [] = tt
solutions_plain n f (s ∷ ss) = unified_plain (unifier s.equations) _ (solution_entries n f ss) (solutions_plain n f ss)

unified_over : (w : Way) (o : Option Substitution) (f : Continuation ℕ) (new es : List Entry) → IsCounted w → ArePlain new
    → IsAsked (stack_way es w) (as_scopes f.items) → AreOver w (new ++ es) → AreOver w ((unified o f ++ new) ++ es)
unified_over w None f new es c p h k = k
unified_over w (Some s) f new es c p h k =
    let g = over_plain w new es f.items c p h in
    (record { asked = g.asked; scoped = resolved_scopes s (stack_way (new ++ es) w) f.items g.scoped }, k)

removal_scopes : (number : Option ℕ) (way : Way) (items : List (Item ℕ)) → AreScoped way (as_scopes items) → AreScoped way (as_scopes (removal_items number ++ items))
removal_scopes None way items h = h
removal_scopes (Some k) way items h = h

pub solutions_over : (w : Way) (n : ℕ) (f : Continuation ℕ) (ss : List Solution) (es : List Entry) → IsCounted w → n
    ≡ length (stack_way es w) → IsAsked (stack_way es w) (as_scopes f.items) → AreOver w es → AreOver w (solution_entries n f ss ++ es)
solutions_over w n f [] es c e h k = k
solutions_over w n f (s ∷ ss) es c e h k =
    unified_over w (unifier s.equations) (with_next (f.next + s.variables) (before (goals_at n s.goals) (removing s.removes f))) (solution_entries n f ss) es
    c (solutions_plain n f ss)
    (record { asked = h.asked; scoped = top_goals (stack_way es w) n (counted_stack es w c) e h.asked s.goals (removing s.removes f).items (removal_scopes s.removes (stack_way es w) f.items h.scoped) })
    (solutions_over w n f ss es c e h k)

-- a cut keeps own entries, or none
pub drop-append : (k : ℕ) (xs ys : List Entry) → k ≤ length xs → drop k (xs ++ ys) ≡ drop k xs ++ ys
drop-append zero xs ys h = refl
drop-append (suc k) [] ys h = let no_way : ⊥ = omega arith in absurd no_way
drop-append (suc k) (x ∷ xs) ys h = drop-append k xs ys (omega arith)

pub from_stack : (w : Way) (es : List Entry) (h k : ℕ) → IsCounted w → k + h ≡ length es + length w → k ≤ length es
    → way_from (stack_way es w) h ≡ stack_way (drop k es) w
from_stack w es h zero c e l = top_from (stack_way es w) h (counted_stack es w c) (omega (arith, e, length-stack es w))
from_stack w [] h (suc k) c e l = let no_way : ⊥ = omega arith in absurd no_way
from_stack w (x ∷ es) h (suc k) c e l =
    let other : (suc (length es + length w) == h) ≡ false = flip_same h (suc (length es + length w))
    (not_equal h (suc (length es + length w)) (omega (arith, e))) in
    cond-false (suc (length es + length w) == h) _ (way_from (stack_way es w) h) other
    ∙ from_stack w es h k c (omega (arith, e)) (omega arith)
  where
    flip_same : (m n : ℕ) → (m == n) ≡ false → (n == m) ≡ false
    flip_same m n q = go (n == m) refl
      where
        go : (b : Bool) → (n == m) ≡ b → b ≡ false
        go false z = refl
        go true z = let same : n ≡ m = grind arith in let no_way : ⊥ = cc (number_same m) in absurd no_way

-- a query stays the innermost one
pub stack_asked : (es : List Entry) (w : Way) → under_query (stack_way es w) ≡ under_query w
stack_asked [] w = refl
stack_asked (PlainEntry f ∷ es) w = stack_asked es w
stack_asked (EndEntry b ∷ es) w = stack_asked es w
stack_asked (CatchEntry c r f ∷ es) w = stack_asked es w
stack_asked (FindallEntry results l f ∷ es) w = stack_asked es w
