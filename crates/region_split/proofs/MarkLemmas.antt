-- Marks and their choice points.
use Rattle.std.proofs.Common.{◌≡◌, ℕ, zero, suc, ◌+◌, ◌-◌, ◌<◌, ◌≤◌, List, [], ◌∷◌, ◌++◌, append_assoc, append-nil, length, length-append, take, slice_get, IsSomeAnd, refl, sym, subst, arith}
use Rattle.cell_store.specs.StoreView.{Moment}
use Rattle.clause_compile.specs.Places.{CodeView}
use Rattle.region_split.specs.Frames.{LeftItem, PlacedGoal, OwnItem, left_items, left_scope, AreLeftScoped}
use Rattle.region_split.specs.ChoicePoints.{RegionSetting, AreChoicesOver, IsCatching, IsCollecting, IsCatchAt, IsFindallAt, IsMarkOf, IsMarkedIn, AreMarked, AreMarkedOver, frames_kept}
use Rattle.region_split.specs.declared.choice.Alternatives.{Alternatives}
use Rattle.region_split.specs.declared.choice.ChoicePoint.{ChoicePoint}
use Rattle.region_split.specs.declared.frame.Frame.{Frame}
use Rattle.region_split.specs.declared.frame.FrameItem.{FrameItem}
use Rattle.region_split.specs.declared.frame.FrameItem.TheVariants.{Goal, Call, Cut, True, Fail, CatchEnd, Collect, Removal}
use Rattle.region_split.specs.declared.text.BodyItem.{BodyItem}
use Rattle.region_split.proofs.StandingLemmas.{AreSameTo, kept_more}

-- catches are catches still, and findalls are findalls, over fewer than so many choice points
abbrev pub KeepsKinds : ℕ → List ChoicePoint → List ChoicePoint → Type 0
KeepsKinds n xs ys = (i : ℕ) → i < n → (IsCatchAt xs i → IsCatchAt ys i) × (IsFindallAt xs i → IsFindallAt ys i)

mark_kept : (n : ℕ) (xs ys : List ChoicePoint) (item : FrameItem) (cut : ℕ) → KeepsKinds n xs ys → cut ≤ n → IsMarkOf xs cut item → IsMarkOf ys cut item
mark_kept n xs ys (Goal value) cut k le m = tt
mark_kept n xs ys (Call value) cut k le m = tt
mark_kept n xs ys Cut cut k le m = tt
mark_kept n xs ys True cut k le m = tt
mark_kept n xs ys Fail cut k le m = tt
mark_kept n xs ys CatchEnd cut k le m = let some = m.0 in (m.0, (k (cut - 1) (omega (arith, some, le))).0 m.1)
mark_kept n xs ys (Collect value) cut k le m = let some = m.0 in (m.0, (k (cut - 1) (omega (arith, some, le))).1 m.1)
mark_kept n xs ys (Removal number) cut k le m = tt

marked_in_kept : (n : ℕ) (xs ys : List ChoicePoint) (i : LeftItem) → KeepsKinds n xs ys → left_scope i ≤ n → IsMarkedIn xs i → IsMarkedIn ys i
marked_in_kept n xs ys (PlacedGoal place base cut) k le m = tt
marked_in_kept n xs ys (OwnItem item cut) k le m = mark_kept n xs ys item cut k le m

pub marked_kept : (code : CodeView) (next n cut : ℕ) (xs ys : List ChoicePoint) (left : List LeftItem) → KeepsKinds n xs ys → cut ≤ n → AreLeftScoped code next cut left → AreMarked xs left → AreMarked ys left
marked_kept code next n cut xs ys [] k le s m = tt
marked_kept code next n cut xs ys (i ∷ left) k le s m = (marked_in_kept n xs ys i k (omega (arith, le, s.0)) m.0, marked_kept code next n (left_scope i) xs ys left k (omega (arith, le, s.0)) s.2 m.1)

-- the same without scopes, where all are kept
abbrev pub KeepsAllKinds : List ChoicePoint → List ChoicePoint → Type 0
KeepsAllKinds xs ys = (i : ℕ) → (IsCatchAt xs i → IsCatchAt ys i) × (IsFindallAt xs i → IsFindallAt ys i)

pub all_marked : (xs ys : List ChoicePoint) (left : List LeftItem) → KeepsAllKinds xs ys → AreMarked xs left → AreMarked ys left
all_marked xs ys [] k m = tt
all_marked xs ys (i ∷ left) k m = (marked_in_kept (left_scope i) xs ys i (λ j lt. k j) (omega arith) m.0, all_marked xs ys left k m.1)

there_still : (P : ChoicePoint → Type 0) (xs zs : List ChoicePoint) (i : ℕ) → IsSomeAnd (slice_get xs i) P → IsSomeAnd (slice_get (xs ++ zs) i) P
there_still P [] zs i h = absurd h
there_still P (x ∷ xs) zs zero h = h
there_still P (x ∷ xs) zs (suc i) h = there_still P xs zs i h

there_below : (P : ChoicePoint → Type 0) (n : ℕ) (xs : List ChoicePoint) (i : ℕ) → i < n → IsSomeAnd (slice_get xs i) P → IsSomeAnd (slice_get (take n xs) i) P
there_below P zero xs i lt h = absurd (omega (arith, lt))
there_below P (suc n) [] i lt h = absurd h
there_below P (suc n) (x ∷ xs) zero lt h = h
there_below P (suc n) (x ∷ xs) (suc i) lt h = there_below P n xs i (omega (arith, lt)) h

pub more_kinds : (xs zs : List ChoicePoint) → KeepsAllKinds xs (xs ++ zs)
more_kinds xs zs i = (there_still (λ c. IsCatching c.alternatives) xs zs i, there_still (λ c. IsCollecting c.alternatives) xs zs i)

pub cut_kinds : (n : ℕ) (xs : List ChoicePoint) → KeepsKinds n xs (take n xs)
cut_kinds n xs i lt = (there_below (λ c. IsCatching c.alternatives) n xs i lt, there_below (λ c. IsCollecting c.alternatives) n xs i lt)

-- one choice point in another one's place
abbrev pub IsAlike : Alternatives → Alternatives → Type 0
IsAlike a b = (IsCatching a → IsCatching b) × (IsCollecting a → IsCollecting b)

pub changed_kinds : (xs ys : List ChoicePoint) (c d : ChoicePoint) → IsAlike c.alternatives d.alternatives → KeepsAllKinds (xs ++ c ∷ ys) (xs ++ d ∷ ys)
changed_kinds [] ys c d k zero = k
changed_kinds [] ys c d k (suc i) = ((λ h. h), (λ h. h))
changed_kinds (x ∷ xs) ys c d k zero = ((λ h. h), (λ h. h))
changed_kinds (x ∷ xs) ys c d k (suc i) = changed_kinds xs ys c d k i

module _ (bodies : List BodyItem) (frames : List Frame) where
  -- one more on top
  pub marked-append : (below cs : List ChoicePoint) (c : ChoicePoint) → AreMarkedOver bodies frames below cs → AreMarked (below ++ cs) (left_items bodies frames c.after) → AreMarkedOver bodies frames below (cs ++ c ∷ [])
  marked-append below [] c k m = (subst (λ xs. AreMarked xs (left_items bodies frames c.after)) (append-nil below) m, tt)
  marked-append below (d ∷ cs) c k m = (k.0, marked-append (below ++ d ∷ []) cs c k.1 (subst (λ xs. AreMarked xs (left_items bodies frames c.after)) (sym (append_assoc below (d ∷ []) cs)) m))

  -- and taken off
  pub marked_below : (below cs : List ChoicePoint) (c : ChoicePoint) → AreMarkedOver bodies frames below (cs ++ c ∷ []) → AreMarkedOver bodies frames below cs × AreMarked (below ++ cs) (left_items bodies frames c.after)
  marked_below below [] c k = (tt, subst (λ xs. AreMarked xs (left_items bodies frames c.after)) (sym (append-nil below)) k.0)
  marked_below below (d ∷ cs) c k =
      let rest = marked_below (below ++ d ∷ []) cs c k.1 in
      ((k.0, rest.0), subst (λ xs. AreMarked xs (left_items bodies frames c.after)) (append_assoc below (d ∷ []) cs) rest.1)

  pub marked-take : (n : ℕ) (below cs : List ChoicePoint) → AreMarkedOver bodies frames below cs → AreMarkedOver bodies frames below (take n cs)
  marked-take zero below cs k = tt
  marked-take (suc n) below [] k = tt
  marked-take (suc n) below (c ∷ cs) k = (k.0, marked-take n (below ++ c ∷ []) cs k.1)

  both_longer : (xs ys : List ChoicePoint) (z : ChoicePoint) → length xs ≡ length ys → KeepsAllKinds xs ys → KeepsAllKinds (xs ++ z ∷ []) (ys ++ z ∷ [])
  both_longer [] [] z l k i = ((λ h. h), (λ h. h))
  both_longer [] (y ∷ ys) z l k i = absurd (omega (arith, l))
  both_longer (x ∷ xs) [] z l k i = absurd (omega (arith, l))
  both_longer (x ∷ xs) (y ∷ ys) z l k zero = k zero
  both_longer (x ∷ xs) (y ∷ ys) z l k (suc i) = both_longer xs ys z (omega (arith, l)) (λ j. k (suc j)) i

  over_alike : (xs ys cs : List ChoicePoint) → length xs ≡ length ys → KeepsAllKinds xs ys → AreMarkedOver bodies frames xs cs → AreMarkedOver bodies frames ys cs
  over_alike xs ys [] l k m = tt
  over_alike xs ys (c ∷ cs) l k m =
      (all_marked xs ys (left_items bodies frames c.after) k m.0, over_alike (xs ++ c ∷ []) (ys ++ c ∷ []) cs (longer xs ys c l) (both_longer xs ys c l k) m.1)
    where
      longer : (xs ys : List ChoicePoint) (c : ChoicePoint) → length xs ≡ length ys → length (xs ++ c ∷ []) ≡ length (ys ++ c ∷ [])
      longer xs ys c l = simp length-append (omega (arith, l))

  pub marked_changed : (below xs ys : List ChoicePoint) (c : ChoicePoint) (a : Alternatives) → IsAlike c.alternatives a → AreMarkedOver bodies frames below (xs ++ c ∷ ys) → AreMarkedOver bodies frames below (xs ++ record c { alternatives = a } ∷ ys)
  marked_changed below [] ys c a k m =
      let d : ChoicePoint = record c { alternatives = a } in
      (m.0, over_alike (below ++ c ∷ []) (below ++ d ∷ []) ys (simp length-append refl) (changed_kinds below [] c d k) m.1)
  marked_changed below (x ∷ xs) ys c a k m = (m.0, marked_changed (below ++ x ∷ []) xs ys c a k m.1)

-- other frames in which as much is left
pub marked_same : (s : RegionSetting) (fs : List Frame) (n cut frames : ℕ) (below cs : List ChoicePoint) (ms : List Moment) → AreSameTo s fs n → AreChoicesOver s cut frames cs ms → frames_kept frames cs ≤ n → AreMarkedOver s.text.bodies s.frames below cs → AreMarkedOver s.text.bodies fs below cs
marked_same s fs n cut frames below [] ms same k le m = tt
marked_same s fs n cut frames below (c ∷ cs) [] same k le m = absurd k
marked_same s fs n cut frames below (c ∷ cs) (w ∷ ms) same k le m =
    let o = k.0.own in let more = kept_more s (cut + 1) c.frames cs ms k.1 in
    (subst (AreMarked below) (sym (same c.after (omega (arith, o, more, le)))) m.0, marked_same s fs n (cut + 1) c.frames (below ++ c ∷ []) cs ms same k.1 le m.1)
