-- Balls that go down from catch to catch.
use Rattle.std.proofs.Common.{◌≡◌, ℕ, zero, suc, ◌+◌, ◌-◌, ◌<◌, ◌≤◌, Bool, true, false, cond, nat_eq, List, [], ◌∷◌, ◌++◌, length, length-append, map, take, slice_get, IsSomeAnd, Option, Some, None, refl, sym, ap, ap₂, ◌∙◌, subst, arith}
use Rattle.std.proofs.lemmas.Bool.Decides.{nat_tests}
use Rattle.std.proofs.lemmas.List.{take-append-drop}
use Rattle.au_term.specs.Term.{Term}
use Rattle.au_model.specs.Terms.Copies.{copied}
use Rattle.au_model.specs.Terms.Named.{NamedTerm}
use Rattle.au_model.specs.Terms.Substitutions.{Substitution}
use Rattle.au_model.specs.Terms.Unifier.{unifier}
use Rattle.run_model.specs.Machine.Balls.{recovered, unwound}
use Rattle.run_model.specs.Machine.Entries.{Entry, PlainEntry, CatchEntry, FindallEntry, EndEntry}
use Rattle.run_model.specs.Machine.Items.{Item, Continuation, first_mark, resolve_item}
use Rattle.cell_store.specs.StoreView.{text_in}
use Rattle.clause_compile.specs.Places.{CodeView}
use Rattle.region_split.specs.Frames.{scoped_item, next_position}
use Rattle.region_split.specs.ChoicePoints.{height_of_cut, by_height, IsCatching, IsCatchAt, IsMarkOf, alternative_entries}
use Rattle.region_split.specs.Regions.{RegionView, region_setting, entries_of, heights_of, items_here, continuation_here, AreAlternativesIn, IsPositionIn, IsFirstAt, GoesOnIn}
use Rattle.region_split.specs.StackOperations.{CutsTo, TakesNewest}
use Rattle.region_split.specs.declared.choice.Alternatives.TheVariants.{Catch as CatchPoint}
use Rattle.region_split.specs.declared.choice.ChoicePoint.{ChoicePoint}
use Rattle.region_split.specs.declared.frame.FrameItem.{FrameItem}
use Rattle.region_split.specs.declared.frame.FrameItem.TheVariants.{Goal, Call, Cut, True, Fail, CatchEnd, Collect, Removal}
use Rattle.region_split.specs.declared.frame.Position.{Position}
use Rattle.region_split.proofs.MarkLemmas.{cut_kinds}
use Rattle.region_split.proofs.ItemLemmas.{position_more}
use Rattle.region_control.specs.Balls.{is_catch_end, HasFirstCatch, TakesCatch}
use Rattle.region_control.specs.declared.balls.Catch.{Catch}

-- entries above the one whose mark is looked for
pub unwound_past : (ball : Term) (h : ℕ) (above rest : List Entry) → h < length rest → unwound ball (Some h) (above ++ rest) ≡ unwound ball (Some h) rest
unwound_past ball h [] rest lt = refl
unwound_past ball h (PlainEntry f ∷ above) rest lt = unwound_past ball h above rest lt
unwound_past ball h (FindallEntry results l f ∷ above) rest lt = unwound_past ball h above rest lt
unwound_past ball h (EndEntry b ∷ above) rest lt = unwound_past ball h above rest lt
unwound_past ball h (CatchEntry c r f ∷ above) rest lt = by_test (unwound_past ball h above rest lt) (nat_eq h (length (above ++ rest))) refl
  where
    by_test : unwound ball (Some h) (above ++ rest) ≡ unwound ball (Some h) rest → (b : Bool) → nat_eq h (length (above ++ rest)) ≡ b → unwound ball (Some h) (CatchEntry c r f ∷ (above ++ rest)) ≡ unwound ball (Some h) rest
    by_test same true e = let n = length-append above rest in absurd (grind (arith, nat_tests))
    by_test same false e = ap (λ b. recovered (cond b (unifier ((c, copied ball f.next) ∷ [])) None) ball r f (above ++ rest) (unwound ball (cond b (first_mark f.items) (Some h)) (above ++ rest))) e ∙ same

-- the catch of the mark
pub unwound_at : (ball : Term) (h : ℕ) (c r : Term) (f : Continuation ℕ) (es : List Entry) → h ≡ length es → unwound ball (Some h) (CatchEntry c r f ∷ es) ≡ recovered (unifier ((c, copied ball f.next) ∷ [])) ball r f es (unwound ball (first_mark f.items) es)
unwound_at ball h c r f es e = by_test (nat_eq h (length es)) refl
  where
    by_test : (b : Bool) → nat_eq h (length es) ≡ b → unwound ball (Some h) (CatchEntry c r f ∷ es) ≡ recovered (unifier ((c, copied ball f.next) ∷ [])) ball r f es (unwound ball (first_mark f.items) es)
    by_test true t = ap (λ b. recovered (cond b (unifier ((c, copied ball f.next) ∷ [])) None) ball r f es (unwound ball (cond b (first_mark f.items) (Some h)) es)) t
    by_test false t = absurd (grind (arith, nat_tests))

pub uncaught : (ball : Term) (es : List Entry) → unwound ball None es ≡ EndEntry (Some (copied ball 0)) ∷ []
uncaught ball [] = refl
uncaught ball (PlainEntry f ∷ es) = uncaught ball es
uncaught ball (CatchEntry c r f ∷ es) = uncaught ball es
uncaught ball (FindallEntry results l f ∷ es) = uncaught ball es
uncaught ball (EndEntry b ∷ es) = uncaught ball es

-- the first mark by items, as they are with bindings and heights
abbrev mark_of : Substitution → List ℕ → List (Item ℕ) → Option ℕ
mark_of s heights items = first_mark (map (resolve_item s) (map (by_height heights) items))

no_end : (s : Substitution) (heights : List ℕ) (code : CodeView) (item : FrameItem) (cut : ℕ) (items : List (Item ℕ)) → is_catch_end item ≡ false → mark_of s heights (scoped_item code item cut ∷ items) ≡ mark_of s heights items
no_end s heights code (Goal value) cut items e = refl
no_end s heights code (Call value) cut items e = refl
no_end s heights code Cut cut items e = refl
no_end s heights code True cut items e = refl
no_end s heights code Fail cut items e = refl
no_end s heights code CatchEnd cut items e = absurd cc
no_end s heights code (Collect value) cut items e = refl
no_end s heights code (Removal number) cut items e = refl

an_end : (s : Substitution) (heights : List ℕ) (code : CodeView) (item : FrameItem) (cut : ℕ) (items : List (Item ℕ)) → is_catch_end item ≡ true → mark_of s heights (scoped_item code item cut ∷ items) ≡ Some (height_of_cut heights (cut - 1))
an_end s heights code (Goal value) cut items e = absurd cc
an_end s heights code (Call value) cut items e = absurd cc
an_end s heights code Cut cut items e = absurd cc
an_end s heights code True cut items e = absurd cc
an_end s heights code Fail cut items e = absurd cc
an_end s heights code CatchEnd cut items e = refl
an_end s heights code (Collect value) cut items e = absurd cc
an_end s heights code (Removal number) cut items e = absurd cc

pub end_marked : (choices : List ChoicePoint) (item : FrameItem) (cut : ℕ) → is_catch_end item ≡ true → IsMarkOf choices cut item → (0 < cut) × IsCatchAt choices (cut - 1)
end_marked choices (Goal value) cut e m = absurd cc
end_marked choices (Call value) cut e m = absurd cc
end_marked choices Cut cut e m = absurd cc
end_marked choices True cut e m = absurd cc
end_marked choices Fail cut e m = absurd cc
end_marked choices CatchEnd cut e m = m
end_marked choices (Collect value) cut e m = absurd cc
end_marked choices (Removal number) cut e m = absurd cc

-- no mark was passed on the way from one position to another
pub record IsWalking (r : RegionView) (start next : Position) : Type 0 where
  pub position : IsPositionIn r next
  pub same : (named : List NamedTerm) → first_mark (continuation_here named r start).items ≡ first_mark (continuation_here named r next).items

pub walk_begun : (r : RegionView) (p : Position) → IsPositionIn r p → IsWalking r p p
walk_begun r p i = record { position = i; same = λ named. refl }

module _ (r : RegionView) (start p : Position) (w : IsWalking r start p) where
  module _ (item : FrameItem) (cut : ℕ) (first : IsFirstAt r p item cut) where
    pub walk_past : (q : Position) → q ≡ next_position p → is_catch_end item ≡ false → IsWalking r start q
    walk_past q is e = subst (IsWalking r start) (sym is) (record {
      position = position_more r cut (length r.choices) (next_position p) first.scope first.after;
      same = λ named.
          w.same named
          ∙ (ap (mark_of r.store.now.bound (heights_of named r)) first.items
          ∙ no_end r.store.now.bound (heights_of named r) (text_in r.store) item cut (items_here r (next_position p)) e);
    })

    pub fewer_left : (q : Position) → q ≡ next_position p → length (items_here r q) + q.frame < length (items_here r p) + p.frame
    fewer_left q is = let a = ap length first.items in let b = ap (λ (x : Position). length (items_here r x) + x.frame) is in omega (arith, a, b)

    pub catch_found : is_catch_end item ≡ true → HasFirstCatch r start (Some (cut - 1))
    catch_found e = record {
      is = λ named. w.same named ∙ (ap (mark_of r.store.now.bound (heights_of named r)) first.items ∙ an_end r.store.now.bound (heights_of named r) (text_in r.store) item cut (items_here r (next_position p)) e);
      there = (end_marked r.choices item cut e first.mark).1;
    }

  pub walk_on : (q : Position) → GoesOnIn r p q → IsWalking r start q
  walk_on q g = record { position = g.position; same = λ named. w.same named ∙ ap (mark_of r.store.now.bound (heights_of named r)) g.items }

  pub older_left : (q : Position) → GoesOnIn r p q → length (items_here r q) + q.frame < length (items_here r p) + p.frame
  older_left q g = let a = ap length g.items in let o = g.older in omega (arith, a, o)

  pub no_catch : items_here r p ≡ [] → HasFirstCatch r start None
  no_catch e = record { is = λ named. w.same named ∙ ap (mark_of r.store.now.bound (heights_of named r)) e; there = tt }

-- a catch is taken off, with all above it
at_last : (P : ChoicePoint → Type 0) (xs : List ChoicePoint) (c : ChoicePoint) (i : ℕ) → i ≡ length xs → IsSomeAnd (slice_get (xs ++ c ∷ []) i) P → P c
at_last P [] c zero e p = p
at_last P [] c (suc i) e p = absurd (omega (arith, e))
at_last P (x ∷ xs) c zero e p = absurd (omega (arith, e))
at_last P (x ∷ xs) c (suc i) e p = at_last P xs c i (omega (arith, e)) p

pub catch_within : (xs : List ChoicePoint) (over : ℕ) → IsCatchAt xs over → over + 1 ≤ length xs
catch_within [] over h = absurd h
catch_within (x ∷ xs) zero h = omega arith
catch_within (x ∷ xs) (suc over) h = let rest = catch_within xs over h in omega (arith, rest)

module _ (old r1 new : RegionView) (over : ℕ) (c : ChoicePoint) (there : IsCatchAt old.choices over) (cuts : CutsTo old r1 (over + 1)) (takes : TakesNewest r1 new c) where
  pub under : length new.choices ≡ over
  under = let a = ap length takes.choices in let b = length-append new.choices (c ∷ []) in let k = cuts.count in omega (arith, a, b, k)

  pub is_catch : IsCatching c.alternatives
  is_catch =
      at_last (λ x. IsCatching x.alternatives) new.choices c over (sym under)
      (subst (λ cs. IsCatchAt cs over) (sym cuts.choices ∙ takes.choices) ((cut_kinds (over + 1) old.choices over (omega arith)).0 there))

  pub catch_taken : (k : Catch) → c.alternatives ≡ CatchPoint k.catcher k.recovery → k.after ≡ c.after → ((named : List NamedTerm) → height_of_cut (heights_of named new) (length new.choices) ≡ length (entries_of named new)) → TakesCatch old new over k
  catch_taken k is after whole =
      let values = subst (AreAlternativesIn new) is takes.alternatives in
      record {
        above = λ named. take (length (entries_of named old) - height_of_cut (heights_of named old) (over + 1)) (entries_of named old);
        entries = λ named.
            let n = length (entries_of named old) - height_of_cut (heights_of named old) (over + 1) in
            sym (take-append-drop n (entries_of named old))
            ∙ ap (λ es. take n (entries_of named old) ++ es)
            (sym (cuts.entries named)
            ∙ (takes.entries named
            ∙ ap₂ (λ p a. alternative_entries (region_setting named new) new.store.now (length (entries_of named new)) (continuation_here named new p) a ++ entries_of named new) (sym after) is));
        height = λ named.
            sym (cuts.heights named over (omega arith))
            ∙ (sym (takes.heights named over (let u = under in omega (arith, u)))
            ∙ (ap (height_of_cut (heights_of named new)) (sym under) ∙ whole named));
        position = subst (IsPositionIn new) (sym after) takes.position;
        catcher = values.0;
        recovery = values.1;
        many = under;
      }
