-- Clauses that are added to a text stay where they are.
use Rattle.std.proofs.Common.{◌≡◌, ℕ, zero, suc, ◌≤◌, true, List, [], ◌∷◌, ◌++◌, append_assoc, append-nil, length, map, drop, get_or, slice_get, Option, Some, None, refl, sym, ap, ap₂, ◌∙◌, subst, arith}
use Rattle.std.proofs.Math.Seq.{drop-append_seam}
use Rattle.au_term.specs.Term.{Term}
use Rattle.au_model.specs.Terms.Each.{Each}
use Rattle.au_model.specs.Terms.Forms.{is_callable}
use Rattle.au_model.proofs.EachLemmas.{each-more}
use Rattle.run_model.specs.Programs.Clauses.{Clause, clause_variables}
use Rattle.cell_store.proofs.UndoingLemmas.{map-same}
use Rattle.clause_compile.specs.ClauseInvariant.{numbers_from}
use Rattle.clause_compile.specs.CompiledClauses.{clause_bound}
use Rattle.clause_compile.specs.PlacedClauses.{IsClausePlaced}
use Rattle.clause_compile.specs.declared.code.ClausePlaces.{ClausePlaces}
use Rattle.clause_compile.specs.Places.{CodeView, Keeps, IsPlaceOf, meaning_in}
use Rattle.clause_compile.specs.declared.place.Place.{Place}
use Rattle.region_split.specs.Texts.{body_items, IsInnerConstant, IsKeyedArgument, IsPlacedClause, ArePlacedClauses, AddsClause}
use Rattle.region_split.specs.declared.text.BodyItem.{BodyItem}
use Rattle.region_split.specs.declared.text.InnerConstant.{InnerConstant}
use Rattle.region_split.specs.declared.text.KeyedArgument.{KeyedArgument}
use Rattle.region_split.specs.declared.text.PlacedClause.{PlacedClause}
use Rattle.region_split.proofs.HeadLemmas.{among, same_named_key}

-- a body that is there goes on where more is added
followed : (bodies more rest : List BodyItem) (goals : List Place) (at : ℕ) → drop at bodies ≡ body_items goals ++ rest → drop at (bodies ++ more) ≡ body_items goals ++ (rest ++ more)
followed bodies more rest goals zero e = ap (λ xs. xs ++ more) e ∙ append_assoc (body_items goals) rest more
followed [] more rest [] (suc at) e = absurd cc
followed [] more rest (g ∷ goals) (suc at) e = absurd cc
followed (b ∷ bodies) more rest goals (suc at) e = followed bodies more rest goals at e

-- keys stay those of arguments where further names come
still_keyed : (names more : List (List ℕ)) (t : Term) (o : Option KeyedArgument) → IsKeyedArgument names t o → IsKeyedArgument (names ++ more) t o
still_keyed names more t None k = tt
still_keyed names more t (Some a) k = (among names more (Some a.key) k.0, same_named_key names more (Some a.key) k.0 ∙ k.1)

still_inner : (names more : List (List ℕ)) (t : Term) (o : Option InnerConstant) → IsInnerConstant names t o → IsInnerConstant (names ++ more) t o
still_inner names more t None k = tt
still_inner names more t (Some a) k = (among names more (Some a.key) k.0, same_named_key names more (Some a.key) k.0 ∙ k.1)

still_placed : (old new : CodeView) (bodies more : List BodyItem) (c : Clause) (p : PlacedClause) → Keeps old new → IsPlacedClause old bodies c p → IsPlacedClause new (bodies ++ more) c p
still_placed old new bodies more c p k q = record {
  head_there = (k.same p.head q.head_there).0;
  head = (k.same p.head q.head_there).1 ∙ q.head;
  callable = q.callable;
  goals = q.goals;
  following = q.following ++ more;
  body = followed bodies more q.following q.goals p.body q.body;
  goals_there = each-more (IsPlaceOf old) (IsPlaceOf new) (λ g there. (k.same g there).0) q.goals q.goals_there;
  mean = map-same (IsPlaceOf old) (meaning_in new) (meaning_in old) (λ g there. (k.same g there).1) q.goals q.goals_there ∙ q.mean;
  numbered = q.numbered;
  below = q.below;
  keyed = subst (λ names. IsKeyedArgument names c.head p.keyed) (sym k.names_are) (still_keyed old.names k.names c.head p.keyed q.keyed);
  inner = subst (λ names. IsInnerConstant names c.head p.inner) (sym k.names_are) (still_inner old.names k.names c.head p.inner q.inner);
}

pub all_still_placed : (old new : CodeView) (bodies more : List BodyItem) (cs : List Clause) (ps : List PlacedClause) → Keeps old new → ArePlacedClauses old bodies cs ps → ArePlacedClauses new (bodies ++ more) cs ps
all_still_placed old new bodies more [] [] k q = tt
all_still_placed old new bodies more [] (p ∷ ps) k q = absurd q
all_still_placed old new bodies more (c ∷ cs) [] k q = absurd q
all_still_placed old new bodies more (c ∷ cs) (p ∷ ps) k q = (still_placed old new bodies more c p k q.0, all_still_placed old new bodies more cs ps k q.1)

placed-append : (code : CodeView) (bodies : List BodyItem) (cs : List Clause) (ps : List PlacedClause) (c : Clause) (p : PlacedClause) → ArePlacedClauses code bodies cs ps → IsPlacedClause code bodies c p → ArePlacedClauses code bodies (cs ++ c ∷ []) (ps ++ p ∷ [])
placed-append code bodies [] [] c p q one = (one, tt)
placed-append code bodies [] (x ∷ ps) c p q one = absurd q
placed-append code bodies (d ∷ cs) [] c p q one = absurd q
placed-append code bodies (d ∷ cs) (x ∷ ps) c p q one = (q.0, placed-append code bodies cs ps c p q.1 one)

-- one clause more
pub one_more_clause : (old new : CodeView) (before after : List BodyItem) (cs : List Clause) (ps : List PlacedClause) (c : Clause) (p : PlacedClause) → ArePlacedClauses old before cs ps → AddsClause old new before after c p → ArePlacedClauses new after (cs ++ c ∷ []) (ps ++ p ∷ [])
one_more_clause old new before after cs ps c p q a =
    placed-append new after cs ps c p (subst (λ (xs : List BodyItem). ArePlacedClauses new xs cs ps) (sym a.bodies) (all_still_placed old new before a.more cs ps a.keeps q)) a.placed

pub as_many_placed : (code : CodeView) (bodies : List BodyItem) (cs : List Clause) (ps : List PlacedClause) → ArePlacedClauses code bodies cs ps → length ps ≡ length cs
as_many_placed code bodies [] [] q = refl
as_many_placed code bodies [] (p ∷ ps) q = absurd q
as_many_placed code bodies (c ∷ cs) [] q = absurd q
as_many_placed code bodies (c ∷ cs) (p ∷ ps) q = let rest = as_many_placed code bodies cs ps q.1 in omega (arith, rest)

pub placed_at : (code : CodeView) (bodies : List BodyItem) (cs : List Clause) (ps : List PlacedClause) (n : ℕ) (c : Clause) (p : PlacedClause) → ArePlacedClauses code bodies cs ps → slice_get cs n ≡ Some c → p ≡ get_or ps n p → IsPlacedClause code bodies c p
placed_at code bodies [] ps n c p q e is = absurd (grind (arith, e))
placed_at code bodies (d ∷ cs) [] n c p q e is = absurd q
placed_at code bodies (d ∷ cs) (x ∷ ps) zero c p q e is = subst (λ y. IsPlacedClause code bodies y p) (some_same d c e) (subst (IsPlacedClause code bodies d) (sym is) q.0)
  where
    some_same : (y z : Clause) → Some y ≡ Some z → y ≡ z
    some_same y z h = cc
placed_at code bodies (d ∷ cs) (x ∷ ps) (suc n) c p q e is = placed_at code bodies cs ps n c p q.1 e is

-- a clause whose head and goals were placed, and its body behind others
pub clause_added : (old new : CodeView) (before after : List BodyItem) (c : Clause) (places : ClausePlaces) (goals : List Place) (p : PlacedClause) → IsClausePlaced old new c places → is_callable c.head ≡ true → goals ≡ places.goals.items → after ≡ before ++ body_items goals
    → p.head ≡ places.head → p.body ≡ length before → p.vars ≡ places.vars → IsKeyedArgument new.names (meaning_in new places.head) p.keyed → IsInnerConstant new.names (meaning_in new places.head) p.inner → AddsClause old new before after c p
clause_added old new before after c places goals p k callable is bodies head body vars keyed inner =
    let e : goals ≡ places.goals.items = is in
    record {
      keeps = k.keeps;
      more = body_items goals;
      bodies = bodies;
      placed = record {
        head_there = subst (IsPlaceOf new) (sym head) k.head_there;
        head = ap (meaning_in new) head ∙ k.head;
        callable = callable;
        goals = goals;
        following = [];
        body = ap₂ drop body bodies ∙ (drop-append_seam before (body_items goals) ∙ sym (append-nil (body_items goals)));
        goals_there = subst (Each (IsPlaceOf new)) (sym e) k.goals_there;
        mean = ap (map (meaning_in new)) e ∙ k.goals;
        numbered = subst (λ n. clause_variables c ≡ numbers_from 0 n) (sym vars) k.numbered;
        below = subst (λ n. clause_bound c ≤ n) (sym vars) k.below;
        keyed = subst (λ t. IsKeyedArgument new.names t p.keyed) k.head keyed;
        inner = subst (λ t. IsInnerConstant new.names t p.inner) k.head inner;
      };
    }
