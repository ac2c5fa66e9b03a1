-- What a history has handed out, and not taken back, is among what is out.
use Rattle.std.proofs.Common.{◌≡◌, ℕ, ◌+◌, ◌==◌, Bool, true, false, cond, List, [], ◌∷◌, ◌++◌, length, Option, Some, None, refl, sym, ap, ◌∙◌, subst, arith}
use Rattle.std.specs.Prelude.{◌||◌}
use Rattle.std.specs.List.{list_any}
use Rattle.tree_model.specs.Events.{Event, Claim, Nodes, Empty, Collected, Lost, Suspend, Resume, Prune, Answer, Stop}
use Rattle.tree_model.specs.HandOuts.{Handed, Never, Out, Away, Over, claimed, resumed, given_back, handed_by, and_so_on, handed_after}
use Rattle.tree_model.specs.Levels.{Place, same_place}
use Rattle.interleaving.proofs.UnchangedPlaceLemmas.{same_place-is}
use Rattle.tree_core.specs.TasksOut.{without_place, out_by, out_after}

abbrev IsOutAs : Handed → Type 0
IsOutAs (Out w) = Unit {0}
IsOutAs Never = ⊥
IsOutAs Away = ⊥
IsOutAs Over = ⊥

abbrev pub is_among : Place → List Place → Bool
is_among a places = list_any (same_place a) places

still_among : (a b : Place) (places : List Place) → same_place a b ≡ false → is_among a places ≡ true → is_among a (without_place b places) ≡ true
still_among a b [] e h = h
still_among a b (c ∷ places) e h = by_first (same_place b c) refl (still_among a b places e)
  where
    tail : same_place a c ≡ false → is_among a places ≡ true
    tail f = sym (ap (λ (x : Bool). x || is_among a places) f) ∙ h

    by_head : (x : Bool) → same_place a c ≡ x → (is_among a places ≡ true → is_among a (without_place b places) ≡ true)
        → (x || is_among a (without_place b places)) ≡ true
    by_head true f k = refl
    by_head false f k = k (tail f)

    by_first : (x : Bool) → same_place b c ≡ x → (is_among a places ≡ true → is_among a (without_place b places) ≡ true)
        → is_among a (cond x places (c ∷ without_place b places)) ≡ true
    by_first true f k = tail (ap (same_place a) (sym (same_place-is b c f)) ∙ e)
    by_first false f k = by_head (same_place a c) refl k

pub one_less : (a : Place) (places : List Place) → is_among a places ≡ true → length (without_place a places) + 1 ≡ length places
one_less a [] h = absurd (cc h)
one_less a (c ∷ places) h = by_first (same_place a c) (one_less a places) h
  where
    by_first : (x : Bool) → (is_among a places ≡ true → length (without_place a places) + 1 ≡ length places) → (x || is_among a places) ≡ true
        → length (cond x places (c ∷ without_place a places)) + 1 ≡ length (c ∷ places)
    by_first true k f = omega arith
    by_first false k f = let e = k f in omega (arith, e)

-- what an event hands out is added, and only what it takes back is dropped
handing : (a b : Place) (h k : Handed) (now : Option Handed) (places : List Place) → (IsOutAs h → is_among a places ≡ true)
    → cond (same_place a b) now (Some h) ≡ Some k → IsOutAs k → is_among a (b ∷ places) ≡ true
handing a b h k now places i e o = by_place (same_place a b) e
  where
    by_place : (x : Bool) → cond x now (Some h) ≡ Some k → (x || is_among a places) ≡ true
    by_place true f = refl
    by_place false f = i (subst IsOutAs (sym (let same : h ≡ k = cc f in same)) o)

taking : (new : Handed) (w : ℕ) (a b : Place) (h k : Handed) (places : List Place) → (IsOutAs new → ⊥) → (IsOutAs h → is_among a places ≡ true)
    → cond (same_place a b) (given_back new w h) (Some h) ≡ Some k → IsOutAs k → is_among a (without_place b places) ≡ true
taking new w a b h k places n i e o = by_place (same_place a b) refl e
  where
    by_handed : (h : Handed) → given_back new w h ≡ Some k → new ≡ k
    by_handed Never f = absurd (cc f)
    by_handed Away f = absurd (cc f)
    by_handed Over f = absurd (cc f)
    by_handed (Out v) f = by_worker (w == v) f
      where
        by_worker : (x : Bool) → cond x (Some new) None ≡ Some k → new ≡ k
        by_worker true g = cc g
        by_worker false g = absurd (cc g)

    by_place : (x : Bool) → same_place a b ≡ x → cond x (given_back new w h) (Some h) ≡ Some k → is_among a (without_place b places) ≡ true
    by_place true s f = absurd (n (subst IsOutAs (sym (by_handed h f)) o))
    by_place false s f = still_among a b places s (i (subst IsOutAs (sym (let same : h ≡ k = cc f in same)) o))

by_one : (a : Place) (e : Event) (h k : Handed) (places : List Place) → (IsOutAs h → is_among a places ≡ true) → handed_by a e h ≡ Some k
    → IsOutAs k → is_among a (out_by e places) ≡ true
by_one a (Claim w b) h k places i e o = handing a b h k (claimed w h) places i e o
by_one a (Resume w b) h k places i e o = handing a b h k (resumed w h) places i e o
by_one a (Suspend w b frozen) h k places i e o = taking Away w a b h k places (λ x. x) i e o
by_one a (Nodes w b n sizes) h k places i e o = taking Over w a b h k places (λ x. x) i e o
by_one a (Empty w b n) h k places i e o = taking Over w a b h k places (λ x. x) i e o
by_one a (Collected w b n) h k places i e o = taking Over w a b h k places (λ x. x) i e o
by_one a (Lost w b) h k places i e o = taking Over w a b h k places (λ x. x) i e o
by_one a (Prune w b) h k places i e o = taking Over w a b h k places (λ x. x) i e o
by_one a (Answer w b frozen) h k places i e o = taking Over w a b h k places (λ x. x) i e o
by_one a (Stop w) h k places i e o = i (subst IsOutAs (sym (let same : h ≡ k = cc e in same)) o)

by_all : (a : Place) (es : List Event) (h k : Handed) (places : List Place) → (IsOutAs h → is_among a places ≡ true) → handed_after a es h ≡ Some k
    → IsOutAs k → is_among a (out_after es places) ≡ true
by_all a [] h k places i e o = i (subst IsOutAs (sym (let same : h ≡ k = cc e in same)) o)
by_all a (d ∷ es) h k places i e o = by_first (handed_by a d h) refl e (λ m f g. by_all a es m k (out_by d places) (λ p. by_one a d h m places i f p) g o)
  where
    by_first : (x : Option Handed) → handed_by a d h ≡ x → and_so_on x (handed_after a es) ≡ Some k
        → ((m : Handed) → handed_by a d h ≡ Some m → handed_after a es m ≡ Some k → is_among a (out_after es (out_by d places)) ≡ true)
        → is_among a (out_after es (out_by d places)) ≡ true
    by_first None f g go = absurd (cc g)
    by_first (Some m) f g go = go m f g

pub out_is_among : (a : Place) (es : List Event) (w : ℕ) → handed_after a es Never ≡ Some (Out w) → is_among a (out_after es []) ≡ true
out_is_among a es w e = by_all a es Never (Out w) [] (λ x. absurd x) e tt

pub out_more : (es : List Event) (e : Event) (places : List Place) → out_after (es ++ e ∷ []) places ≡ out_by e (out_after es places)
out_more [] e places = refl
out_more (d ∷ es) e places = out_more es e (out_by d places)

pub after_more : (a : Place) (es : List Event) (e : Event) (h : Handed) → handed_after a (es ++ e ∷ []) h ≡ and_so_on (handed_after a es h) (handed_after a (e ∷ []))
after_more a [] e h = refl
after_more a (d ∷ es) e h = by_first (handed_by a d h) (after_more a es e)
  where
    by_first : (o : Option Handed)
        → ((k : Handed) → handed_after a (es ++ e ∷ []) k ≡ and_so_on (handed_after a es k) (handed_after a (e ∷ [])))
        → and_so_on o (handed_after a (es ++ e ∷ [])) ≡ and_so_on (and_so_on o (handed_after a es)) (handed_after a (e ∷ []))
    by_first None k = refl
    by_first (Some x) k = k x
