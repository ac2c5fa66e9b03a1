-- The floor by names is sound, and so is an alternative's entry over it, where the whole list is.
use Rattle.std.proofs.Common.{◌≡◌, ◌⊎◌, inl, inr, ℕ, suc, ◌==◌, true, false, List, [], ◌∷◌, ◌++◌, map, length, refl, sym, ap, ◌∙◌, subst}
use Rattle.std.proofs.Common.{arith}
use Rattle.au_model.specs.Terms.Each.{Each}
use Rattle.run_model.specs.Machine.Items.{Continuation}
use Rattle.run_model.specs.Machine.Entries.{Entry, PlainEntry, CatchEntry, FindallEntry, EndEntry}
use Rattle.tree_model.specs.Elements.{Name, EndOf}
use Rattle.interleaving.specs.Erased.{from, element_count}
use Rattle.interleaving.specs.Sound.{names, IsMadeElsewhere, IsMarkSound, EachFindall, IsEntrySound, IsRightUnder, IsSound}
use Rattle.tree_model.specs.Nodes.{Kind, ChoiceNode, Ready, TakenBy, Waiting, Dormant, Alternatives, none, alternative, Status, Pending}
use Rattle.tree_model.specs.Nodes.{Inner, Closed}
use Rattle.tree_model.specs.Levels.{Level}
use Rattle.tree_model.specs.Floors.{renamed_item}
use Rattle.tree_model.specs.PendingLists.{Step, Way, way_of, scope_on, named_continuation, element_at, list_among, back_of}
use Rattle.tree_model.specs.Ways.{is_on, AreScoped, IsOnWay}
use Rattle.tree_model.specs.SoundTrees.{guards, IsOpen, IsDormant, profiles, is_shape, AreSound}
use Rattle.interleaving.proofs.WayLemmas.{cond-true, cond-same, other_number}
use Rattle.interleaving.proofs.RoundtripLemmas.{IsPath}
use Rattle.interleaving.proofs.NamingLemmas.{from_own}
use Rattle.interleaving.proofs.CarriedLemmas.{findalls-append, from_first}
use Rattle.interleaving.proofs.SoundEarlyLemmas.{sound-after}
use Rattle.interleaving.proofs.ContextLemmas.{put_profiles, IsAround}
use Rattle.interleaving.proofs.ClosingSoundLemmas.{IsFree, free-above}
use Rattle.interleaving.proofs.GrowingLemmas.{around_path}
use Rattle.interleaving.proofs.ShapeLemmas.{plain_awake}
use Rattle.interleaving.proofs.BallStackLemmas.{dormant_first}
use Rattle.interleaving.proofs.NamedFloorLemmas.{right_named, below_named, from-beside, scope-above}
use Rattle.interleaving.proofs.PublishedBareLemmas.{own_plain}
use Rattle.interleaving.proofs.SkippedLemmas.{last_number, Asleep, Awake, sleeping}
use Rattle.interleaving.proofs.BranchLemmas.{upto, below_from, back_from, pair_older}
use Rattle.interleaving.proofs.LowEntryLemmas.{carried_low, marks_low}
use Rattle.au_term.proofs.LogicLemmas.{true_false, number_same}

-- the findall entries of the floor
findalls_element : (P : Name → Type 0) (n i : ℕ) (way : Way) (e : Entry) → P (0 ∷ n ∷ [])
    → EachFindall P (element_at n i way e ∷ EndOf (i ∷ n ∷ []) ∷ [])
findalls_element P n i way (PlainEntry f) h = tt
findalls_element P n i way (CatchEntry c r f) h = tt
findalls_element P n i way (FindallEntry results l f) h = (h, tt)
findalls_element P n i way (EndEntry b) h = tt

findalls_right : (P : Name → Type 0) (n i : ℕ) (way : Way) (right : Alternatives) → P (0 ∷ n ∷ [])
    → EachFindall P (right_named n i way right)
findalls_right P n i way none h = tt
findalls_right P n i way (alternative spent (Inner node) others) h = tt
findalls_right P n i way (alternative spent (Closed c) others) h = tt
findalls_right P n i way (alternative spent (Pending Ready e) others) h = tt
findalls_right P n i way (alternative spent (Pending (TakenBy w) e) others) h = tt
findalls_right P n i way (alternative spent (Pending (Waiting g) e) others) h = tt
findalls_right P n i way (alternative spent (Pending Dormant e) others) h = findalls_element P n i way e h

pub findalls_low : (P : Name → Type 0) (levels : List Level) → ((m : ℕ) → is_on (way_of levels) m ≡ true → P (0 ∷ m ∷ []))
    → EachFindall P (below_named levels)
findalls_low P [] h = tt
findalls_low P (v ∷ up) h =
    findalls-append P (right_named v.number (suc (length v.left)) (way_of up) v.right) (below_named up)
    (findalls_right P v.number (suc (length v.left)) (way_of up) v.right
    (h v.number (cond-true (v.number == v.number) true _ (number_same v.number))))
    (findalls_low P up (λ m k. h m (cond-same (v.number == m) true (is_on (way_of up) m) k)))

module _ (next : ℕ) (up : List Level) (f : IsFree next up) (a : IsAround up IsOpen) (n i : ℕ) (kind : Kind)
    (off : is_on (way_of up) n ≡ false) (low : IsSound (below_named up)) where
  abbrev step : Step
  step = record { node = n; index = i; kind = kind }

  over : (s : ℕ) → is_on (way_of up) s ≡ true → from (EndOf (i ∷ n ∷ []) ∷ below_named up) (scope_on (way_of up) s)
      ≡ below_named (upto up s)
  over s h = from-beside (way_of up) s i n (below_named up) off ∙ below_from up s

  real : (s : ℕ) → is_on (way_of up) s ≡ true → from (EndOf (i ∷ n ∷ []) ∷ back_of up) (scope_on (way_of up) s) ≡ back_of (upto up s)
  real s h = from-beside (way_of up) s i n (back_of up) off ∙ back_from next up f a s h

  agree : (s : ℕ) → is_on (way_of up) s ≡ true → scope_on (record { node = n; index = i; kind = kind } ∷ way_of up) s
      ≡ scope_on (way_of up) s
  agree s h = scope-above step (way_of up) s (other_number (way_of up) n s off h (n == s) refl)

  path : IsPath (way_of up)
  path = around_path up IsOpen a

  -- the entry of a catch or findall node, whose own end follows
  guard_sound : (g : Continuation ℕ) → AreScoped (way_of up) g.items → Each (IsMarkSound (EndOf (i ∷ n ∷ []) ∷ back_of up))
      (map (renamed_item (scope_on (record { node = n; index = i; kind = kind } ∷ way_of up))
      (scope_on (record { node = n; index = i; kind = kind } ∷ way_of up))) g.items) →
      IsEntrySound (0 ∷ i ∷ n ∷ []) (EndOf (i ∷ n ∷ []) ∷ below_named up)
      ((i ∷ n ∷ []) ∷ names (named_continuation (way_of up) g).items) (named_continuation (way_of up) g).items
  guard_sound g h m =
      let c = carried_low up path (EndOf (i ∷ n ∷ []) ∷ below_named up) over (0 ∷ i ∷ n ∷ []) refl g.items h in
      record {
        carried = record {
          older = (pair_older (0 ∷ i ∷ n ∷ []) refl i n, c.older);
          present = ((below_named up, from_own (i ∷ n ∷ []) (below_named up)), c.present);
          chain = (
            from_first (i ∷ n ∷ []) (below_named up)
                (names (map (renamed_item (scope_on (way_of up)) (scope_on (way_of up))) g.items)),
            c.chain,
          );
        };
        marks = marks_low up path (EndOf (i ∷ n ∷ []) ∷ below_named up) over (EndOf (i ∷ n ∷ []) ∷ back_of up)
            (scope_on (record { node = n; index = i; kind = kind } ∷ way_of up)) agree real (way_of up) g.items (λ r z. z) h m;
        findalls = findalls_low (IsMadeElsewhere (0 ∷ i ∷ n ∷ [])) up (λ m k. pair_older (0 ∷ i ∷ n ∷ []) refl 0 m);
      }

  under : IsRightUnder (EndOf (i ∷ n ∷ []) ∷ below_named up) (i ∷ n ∷ [])
  under = ap element_count (from_own (i ∷ n ∷ []) (below_named up))

  pub dormant_sound : (e : Entry) → (guards e ≡ ChoiceNode → ⊥) → IsOnWay (record { node = n; index = i; kind = kind } ∷ way_of up) e
      → IsSound (element_at n i (record { node = n; index = i; kind = kind } ∷ way_of up) e ∷ EndOf (i ∷ n ∷ []) ∷ back_of up) →
      IsSound (element_at n i (way_of up) e ∷ EndOf (i ∷ n ∷ []) ∷ below_named up)
  dormant_sound (PlainEntry g) k h s = absurd (k refl)
  dormant_sound (EndEntry b) k h s = low
  dormant_sound (CatchEntry c r g) k h s = (guard_sound g h.scoped s.0.marks, under, low)
  dormant_sound (FindallEntry results l g) k h s = (
    guard_sound g h.scoped s.0.marks,
    under,
    findalls_low (λ e. e ≡ 0 ∷ n ∷ [] → ⊥) up
        (λ m o z. true_false (sym o ∙ (ap (is_on (way_of up)) (last_number 0 m 0 n z) ∙ off))),
    low,
  )

-- no plain entry sleeps
not_plain : (kind : Kind) (left : List (ℕ × Status)) (e : Entry) → is_shape kind (put_profiles left (IsOpen ∷ IsDormant (guards e) ∷ []))
    ≡ true → guards e ≡ ChoiceNode → ⊥
not_plain kind [] e h k = plain_awake kind [] (ap (λ j. is_shape kind (IsOpen ∷ IsDormant j ∷ [])) (sym k) ∙ h)
not_plain kind (a ∷ left) e h k = absurd (omega (arith, dormant_first kind (a ∷ left) (guards e) [] h))

pub low_list : (next : ℕ) (levels : List Level) → IsFree next levels → IsAround levels IsOpen → IsSound (back_of levels)
    → IsSound (below_named levels)
low_list next [] f a s = tt
low_list next (v ∷ up) f a s = go (sleeping v.number (suc (length v.left)) (way_of up) v.kind v.left v.right a.0.shape)
    (low_list next up (free-above next v up f) a.1
    (sound-after (list_among (way_of up) v.number v.kind (suc (length v.left)) v.right) (back_of up) s))
  where
    go : Asleep v.right ⊎ Awake v.number (suc (length v.left)) (way_of up) v.right → IsSound (below_named up)
        → IsSound (right_named v.number (suc (length v.left)) (way_of up) v.right ++ below_named up)
    go (inr w) low = subst (λ l. IsSound (l ++ below_named up)) (sym w) low
    go (inl z) low =
        let shape = subst (λ r. is_shape v.kind (put_profiles v.left (IsOpen ∷ profiles r)) ≡ true) z.same a.0.shape in
        let right = subst (λ r. AreSound (way_of up) v.number v.kind (suc (length v.left)) r) z.same a.0.right in
        let whole = subst (λ r. IsSound (list_among (way_of up) v.number v.kind (suc (length v.left)) r ++ back_of up)) z.same s in
        subst (λ r. IsSound (right_named v.number (suc (length v.left)) (way_of up) r ++ below_named up)) (sym z.same)
        (dormant_sound next up (free-above next v up f) a.1 v.number (suc (length v.left)) v.kind a.0.new low z.entry
        (not_plain v.kind v.left z.entry shape) right.0.0 whole)

-- an alternative's entry
pub low_entry : (next : ℕ) (v : Level) (up : List Level) (g : Continuation ℕ) → IsFree next (v ∷ up) → IsAround (v ∷ up) IsOpen
    → IsOnWay (way_of (v ∷ up)) (PlainEntry g) → IsSound (own_plain v up g ∷ back_of (v ∷ up))
    → IsSound (own_plain v up g ∷ below_named (v ∷ up))
low_entry next v up g f a h s =
    let levels = v ∷ up in
    let p = 0 ∷ length v.left ∷ v.number ∷ [] in
    let path = around_path (v ∷ up) IsOpen a in (
      record {
        carried = carried_low (v ∷ up) path (below_named (v ∷ up)) (λ r o. below_from (v ∷ up) r) (0 ∷ length v.left ∷ v.number ∷ []) refl
            g.items h.scoped;
        marks = marks_low (v ∷ up) path (below_named (v ∷ up)) (λ r o. below_from (v ∷ up) r) (back_of (v ∷ up))
            (scope_on (way_of (v ∷ up))) (λ r o. refl) (back_from next (v ∷ up) f a) (way_of (v ∷ up)) g.items (λ r z. z) h.scoped
            s.0.marks;
        findalls = findalls_low (IsMadeElsewhere (0 ∷ length v.left ∷ v.number ∷ [])) (v ∷ up)
            (λ m k. pair_older (0 ∷ length v.left ∷ v.number ∷ []) refl 0 m);
      },
      low_list next (v ∷ up) f a s.1,
    )
