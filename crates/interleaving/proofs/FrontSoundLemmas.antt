-- Where the front entry's place has closed, names stay sound.
use Rattle.std.proofs.Common.{◌≡◌, ℕ, ◌==◌, Bool, true, false, cond, List, [], ◌∷◌, ◌++◌, map, length, refl, ap, ◌∙◌, arith, Option}
use Rattle.std.specs.Prelude.{◌&&◌, ◌||◌}
use Rattle.au_term.specs.Term.{Term}
use Rattle.au_model.specs.Terms.Each.{Each}
use Rattle.run_model.specs.Programs.Clauses.{Clause}
use Rattle.run_model.specs.Machine.Items.{Continuation}
use Rattle.tree_model.specs.Nodes.{Kind, Status, Pending, Inner, Closed}
use Rattle.tree_model.specs.Levels.{Level}
use Rattle.tree_model.specs.Pruning.{is_findall}
use Rattle.tree_model.specs.Elements.{Name, same, Element, Credit, Plain, End}
use Rattle.tree_model.specs.PendingLists.{Way, way_of, findall_on, list_left, front_of}
use Rattle.interleaving.specs.Roots.{extends}
use Rattle.interleaving.specs.Views.{IsBlind, IsRecordApart}
use Rattle.interleaving.specs.Sound.{IsSound}
use Rattle.interleaving.proofs.NamingLemmas.{same-itself}
use Rattle.interleaving.proofs.AppendLemmas.{each-append}
use Rattle.interleaving.proofs.SoundEarlyLemmas.{sound_exchange, sound-after}
use Rattle.interleaving.proofs.ClockLemmas.{AreShut, AreClear}

module _ (i n : ℕ) where
  abbrev own : Name → Bool
  own = extends (0 ∷ i ∷ n ∷ [])

  and-none : (b : Bool) → (b && false) ≡ false
  and-none true = refl
  and-none false = refl

  short_name : (m : ℕ) → own (0 ∷ m ∷ []) ≡ false
  short_name m = ap (λ b. b || (same (0 ∷ i ∷ n ∷ []) (m ∷ []) || same (0 ∷ i ∷ n ∷ []) [])) (ap (λ b. true && b) (and-none (i == m)))
      ∙ ap (λ b. b || false) (and-none (0 == m))

  findall_short : (way : Way) → own (findall_on way) ≡ false
  findall_short [] = refl
  findall_short (a ∷ way) = go (is_findall a.kind) (a.index == 0) (findall_short way)
    where
      go : (b c : Bool) → own (findall_on way) ≡ false → own (cond b (cond c (0 ∷ a.node ∷ []) (findall_on way)) (findall_on way)) ≡ false
      go false c h = h
      go true false h = h
      go true true h = short_name a.node

  rows_short : (way : Way) (ts : List Term) → Each (IsRecordApart own) (map (λ t. (findall_on way, t)) ts)
  rows_short way [] = tt
  rows_short way (t ∷ ts) = (findall_short way, rows_short way ts)

  left_short : (way : Way) (m : ℕ) (kind : Kind) (left : List (ℕ × Status)) → AreShut left → Each (IsBlind own) (list_left way m kind left)
  left_short way m kind [] h = tt
  left_short way m kind ((spent, Closed c) ∷ left) h = each-append (IsBlind own) (list_left way m kind left) _
      (left_short way m kind left h.1) (rows_short (record { node = m; index = length left; kind = kind } ∷ way) c.records, (tt, tt))
  left_short way m kind ((spent, Pending hold e) ∷ left) h = let no_way : ⊥ = cc in absurd no_way
  left_short way m kind ((spent, Inner node) ∷ left) h = let no_way : ⊥ = cc in absurd no_way

  pub front_short : (levels : List Level) → AreClear levels → Each (IsBlind own) (front_of levels)
  front_short [] h = tt
  front_short (v ∷ up) h = each-append (IsBlind own) (front_of up) _ (front_short up h.1)
      (tt, left_short (way_of up) v.number v.kind v.left h.0)

  pub own_inside : own (0 ∷ i ∷ n ∷ []) ≡ true
  own_inside = ap (λ b. b || (same (0 ∷ i ∷ n ∷ []) (i ∷ n ∷ []) || (same (0 ∷ i ∷ n ∷ []) (n ∷ []) || same (0 ∷ i ∷ n ∷ []) [])))
      (same-itself (0 ∷ i ∷ n ∷ []))

  pub closed_sound : (clauses : List Clause) (levels : List Level) (sp k : ℕ) (f : Continuation Name) (zs : List Element)
      → AreClear levels → IsSound (front_of levels ++ (Credit sp [] ∷ (Plain (0 ∷ i ∷ n ∷ []) f ∷ zs)))
      → IsSound (front_of levels ++ (Credit k [] ∷ zs))
  closed_sound clauses levels sp k f zs c h =
      let behind : IsSound (Credit sp [] ∷ (Plain (0 ∷ i ∷ n ∷ []) f ∷ zs)) = sound-after (front_of levels) _ h in
      sound_exchange clauses own (front_of levels) (Credit sp [] ∷ Plain (0 ∷ i ∷ n ∷ []) f ∷ []) (Credit k [] ∷ []) zs
      (front_short levels c) (tt, (itself, tt)) (tt, tt) (omega arith) h (tt, behind.1.1)
    where
      itself : own (0 ∷ i ∷ n ∷ []) ≡ true
      itself = ap (λ b. b || (same (0 ∷ i ∷ n ∷ []) (i ∷ n ∷ []) || (same (0 ∷ i ∷ n ∷ []) (n ∷ []) || same (0 ∷ i ∷ n ∷ []) [])))
          (same-itself (0 ∷ i ∷ n ∷ []))

  -- the same after the end of a query
  pub ended_sound : (clauses : List Clause) (levels : List Level) (sp k : ℕ) (ball : Option Term) (zs : List Element) → AreClear levels
      → IsSound (front_of levels ++ (Credit sp [] ∷ (End (0 ∷ i ∷ n ∷ []) ball ∷ zs))) → IsSound (front_of levels ++ (Credit k [] ∷ zs))
  ended_sound clauses levels sp k ball zs c h =
      let behind : IsSound (Credit sp [] ∷ (End (0 ∷ i ∷ n ∷ []) ball ∷ zs)) = sound-after (front_of levels) _ h in
      sound_exchange clauses own (front_of levels) (Credit sp [] ∷ End (0 ∷ i ∷ n ∷ []) ball ∷ []) (Credit k [] ∷ []) zs
      (front_short levels c) (tt, (itself, tt)) (tt, tt) (omega arith) h (tt, behind.1)
    where
      itself : own (0 ∷ i ∷ n ∷ []) ≡ true
      itself = ap (λ b. b || (same (0 ∷ i ∷ n ∷ []) (i ∷ n ∷ []) || (same (0 ∷ i ∷ n ∷ []) (n ∷ []) || same (0 ∷ i ∷ n ∷ []) [])))
          (same-itself (0 ∷ i ∷ n ∷ []))
