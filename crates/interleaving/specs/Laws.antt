-- The laws by which a list may be changed.
use Rattle.std.specs.Prelude.{ℕ, suc, ◌+◌, Bool, true, List, [], ◌∷◌, ◌++◌, map, ◌≡◌, ◌<◌, ◌≤◌, false, Option, Some}
use Rattle.std.specs.Option.{option_map}
use Rattle.au_model.specs.Terms.Each.{Each}
use Rattle.run_model.specs.Programs.Clauses.{Clause}
use Rattle.run_model.specs.Machine.Items.{Continuation}
use Rattle.interleaving.specs.Machine.{Drops, Becomes, AsksWorld, Infers, Put, Seek, gives, placed, free_steps, run, is_finished, seen}
use Rattle.interleaving.specs.Machine.{Alike}
use Rattle.tree_model.specs.Elements.{Name, Record, Element, Credit, Plain, EndOf}
use Rattle.interleaving.specs.Scopes.{Shared, Scope, ElementReplacement, act, scoped}
use Rattle.interleaving.specs.Segments.{all_inner, outer, run_alone, search_in, placed_in, Private}
use Rattle.interleaving.specs.Erased.{element_count}
use Rattle.interleaving.specs.Sound.{IsSound}
use Rattle.interleaving.specs.Views.{IsGrown, IsBlind, IsInner, IsUnder}
use Rattle.interleaving.specs.Quiet.{IsQuiet, inferences, records, IsFixed, IsStill}

abbrev pub is_inner_record : (Name → Bool) → Record → Bool
is_inner_record inside r = inside r.0

-- the private run of a segment by so many inferences and the free steps after them; none where it would meet a gate. A
-- collect mark whose findall entry is not inside is left standing
abbrev pub alone : List Clause → (Name → Bool) → ℕ → List Element → Option (List Element)
alone clauses inside k a = option_map (λ s. s.1)
    (run_alone (scoped clauses) (is_inner_record inside) (all_inner (is_inner_record inside)) k a)

-- the same, where records may leave the segment: these records, and what is left
abbrev pub run_off : List Clause → (Name → Bool) → ℕ → List Element → Option (List Record × List Element)
run_off clauses inside k a = run_alone (scoped clauses) (is_inner_record inside) (λ new. true) k a

-- that is a private run
abbrev pub AloneIsPrivate : List Clause → Type 0
AloneIsPrivate clauses = (inside : Name → Bool) (k : ℕ) (a b : List Element) → alone clauses inside k a ≡ Some b
    → Private (scoped clauses) (is_inner_record inside) k [] a b

-- a segment, an entry or a credit in it, between what sees none of it and what has no Findall entry of it
pub record IsSegment (inside : Name → Bool) (pre a zs : List Element) : Type 0 where
  pub grown : IsGrown inside
  pub front : Each (IsBlind inside) pre
  pub own : Each (IsInner inside) a
  pub under : Each (IsUnder inside) zs
  pub some : 0 < element_count a

-- a list may become another: they run alike, and names stay sound
pub record MayBecome (clauses : List Clause) (xs ys : List Element) : Type 0 where
  pub alike : Alike (scoped clauses) xs ys
  pub sound : IsSound xs → IsSound ys

-- a private run may be taken early: its inferences become a credit
abbrev pub Expansion : List Clause → Type 0
Expansion clauses =
    (inside : Name → Bool) (k : ℕ) (pre a b zs : List Element) → IsSegment inside pre a zs → alone clauses inside k a ≡ Some b
    → MayBecome clauses (pre ++ (a ++ zs)) (pre ++ (Credit k [] ∷ (b ++ zs)))

-- so may one that is known as a relation, with the records that leave it
abbrev pub PrivateEarly : List Clause → Type 0
PrivateEarly clauses =
    (inside : Name → Bool) (k : ℕ) (rs : List Record) (pre a b zs : List Element) → IsSegment inside pre a zs
    → Private (scoped clauses) (is_inner_record inside) k rs a b
    → MayBecome clauses (pre ++ (a ++ zs)) (pre ++ (Credit k rs ∷ (b ++ zs)))

-- whatever a segment does by itself may be done early; records for what lies under it go with the credit
abbrev pub DoneEarly : List Clause → Type 0
DoneEarly clauses =
    (inside : Name → Bool) (k : ℕ) (rs : List Record) (pre a b zs : List Element) → IsSegment inside pre a zs
    → run_off clauses inside k a ≡ Some (rs, b)
    → MayBecome clauses (pre ++ (a ++ zs)) (pre ++ (Credit k rs ∷ (b ++ zs)))

-- credits, and ends of scopes and Catch entries of theirs, are one credit; records whose findall is gone go with it
abbrev pub QuietEarly : List Clause → Type 0
QuietEarly clauses =
    (inside : Name → Bool) (pre xs zs : List Element) → IsQuiet xs → IsSegment inside pre xs zs
    → MayBecome clauses (pre ++ (xs ++ zs)) (pre ++ (Credit (inferences xs) (outer (is_inner_record inside) (records xs)) ∷ zs))

-- an inference after credits alone that stays in the segment: a cut, or a ball that is caught there
abbrev pub TakenEarly : List Clause → Type 0
TakenEarly clauses =
    (inside : Name → Bool) (xs : List Element) (x : Element) (p : ElementReplacement) (pre mid b zs : List Element) → IsQuiet xs
    → act clauses x
    ≡ Infers p
    → placed_in (scoped clauses) p (map (gives (scoped clauses) (records xs)) mid) ≡ Some b → IsSegment inside pre (xs ++ (x ∷ mid)) zs
    → MayBecome clauses (pre ++ ((xs ++ (x ∷ mid)) ++ zs))
    (pre ++ (Credit (inferences xs + 1) (outer (is_inner_record inside) (records xs)) ∷ (b ++ zs)))

-- a Findall entry whose goal side is credits alone, with their records
abbrev pub WokenEarly : List Clause → Type 0
WokenEarly clauses =
    (inside : Name → Bool) (xs : List Element) (x y : Element) (pre zs : List Element) → IsQuiet xs
    → act clauses (gives (scoped clauses) (records xs) x) ≡ Becomes y
    → IsSegment inside pre (xs ++ (x ∷ [])) zs
    → MayBecome clauses (pre ++ ((xs ++ (x ∷ [])) ++ zs))
    (pre ++ (Credit (inferences xs) (outer (is_inner_record inside) (records xs)) ∷ (y ∷ zs)))

-- an entry with a collect mark in front is its record
abbrev pub CollectedEarly : List Clause → Type 0
CollectedEarly clauses =
    (inside : Name → Bool) (p : Name) (f : Continuation Name) (rs : List Record) (pre zs : List Element) → act clauses (Plain p f)
    ≡ Drops rs → Each (IsBlind inside) pre → inside p ≡ true
    → MayBecome clauses (pre ++ (Plain p f ∷ zs)) (pre ++ (Credit 0 rs ∷ zs))

-- two segments that come to the same by themselves
abbrev pub SameAlone : List Clause → Type 0
SameAlone clauses =
    (inside : Name → Bool) (k : ℕ) (rs : List Record) (pre a c b zs : List Element) → IsSegment inside pre a zs → IsSegment inside pre c zs
    → run_off clauses inside k a ≡ Some (rs, b) → run_off clauses inside k c ≡ Some (rs, b)
    → Alike (scoped clauses) (pre ++ (a ++ zs)) (pre ++ (c ++ zs))

-- credits and ends of scopes that nothing in front names are one credit
abbrev pub OneCredit : List Clause → Type 0
OneCredit clauses =
    (inside : Name → Bool) (pre xs zs : List Element) → IsQuiet xs → Each (IsInner inside) xs → Each (IsBlind inside) pre
    → Alike (scoped clauses) (pre ++ (xs ++ zs)) (pre ++ (Credit (inferences xs) (records xs) ∷ zs))

-- neighbouring credits may be added, and an empty one left out, anywhere
abbrev pub CreditsAdd : List Clause → Type 0
CreditsAdd clauses =
    (j k : ℕ) (rs qs : List Record) (pre zs : List Element)
    → MayBecome clauses (pre ++ (Credit j rs ∷ Credit k qs ∷ zs)) (pre ++ (Credit (j + k) (rs ++ qs) ∷ zs))

abbrev pub NoCredit : List Clause → Type 0
NoCredit clauses = (pre zs : List Element) → MayBecome clauses (pre ++ (Credit 0 [] ∷ zs)) (pre ++ zs)

-- a gate after credits alone is the next step of the list after them: from there on the old list in the old world, and
-- the new list in the new world, are in the same states
abbrev pub FrontGate : List Clause → Type 0
FrontGate clauses =
    (xs : List Element) (x : Element) (g : Shared → Shared × ElementReplacement) (zs : List Element) (w : Shared) (n : ℕ) → IsQuiet xs
    → act clauses x ≡ AsksWorld g
    → let m = scoped clauses in
    let k = inferences xs in
    run m (k + suc n) w (free_steps m [] (xs ++ (x ∷ zs)))
    ≡ run m (k + suc n) (g w).0 (free_steps m [] (Credit (k + 1) [] ∷ placed m (g w).1 (map (gives m (records xs)) zs)))

-- the same where the credits stay where they are
abbrev pub FrontGateInPlace : List Clause → Type 0
FrontGateInPlace clauses =
    (xs : List Element) (x : Element) (g : Shared → Shared × ElementReplacement) (ys zs : List Element) (w : Shared) (n : ℕ) → IsQuiet xs
    → act clauses x ≡ AsksWorld g → (g w).1 ≡ Put ys → Each IsFixed ys
    → let m = scoped clauses in
    let k = inferences xs in
    run m (k + suc n) w (free_steps m [] (xs ++ (x ∷ zs))) ≡ run m (k + suc n) (g w).0 (free_steps m [] (xs ++ (Credit 1 [] ∷ (ys ++ zs))))

-- a cut after credits alone below its scope is taken at once, the credits staying where they are
abbrev pub CutInPlace : List Clause → Type 0
CutInPlace clauses =
    (inside : Name → Bool) (xs : List Element) (p : Name) (f after : Continuation Name) (h : Name) (pre mid zs : List Element)
    → IsQuiet xs → act clauses (Plain p f) ≡ Infers (Seek (Scope h (Plain p after)))
    → search_in (scoped clauses) (Scope h (Plain p after)) mid ≡ Some (Plain p after ∷ EndOf h ∷ [])
    → IsSegment inside pre (xs ++ (Plain p f ∷ mid)) zs
    → Alike (scoped clauses) (pre ++ ((xs ++ (Plain p f ∷ mid)) ++ zs))
    (pre ++ ((xs ++ (Credit 1 [] ∷ Plain p after ∷ EndOf h ∷ [])) ++ zs))

-- after credits alone that give no records, a cut or a ball is taken at once in the whole list: a ball that nothing
-- catches ends the query
abbrev pub TakenInFront : List Clause → Type 0
TakenInFront clauses =
    (xs : List Element) (x : Element) (p : ElementReplacement) (pre mid : List Element) → Each IsStill pre → IsQuiet xs → act clauses x
    ≡ Infers p
    → MayBecome clauses (pre ++ (xs ++ (x ∷ mid)))
    (pre ++ (Credit (inferences xs + 1) [] ∷ placed (scoped clauses) p (map (gives (scoped clauses) (records xs)) mid)))

-- credits in front may be one, their records given at once
abbrev pub RecordsGiven : List Clause → Type 0
RecordsGiven clauses =
    (xs pre zs : List Element) → Each IsStill pre → IsQuiet xs
    → MayBecome clauses (pre ++ (xs ++ zs)) (pre ++ (Credit (inferences xs) [] ∷ map (gives (scoped clauses) (records xs)) zs))

-- credits of more inferences than are looked at can't be told apart
abbrev pub EnoughCredit : List Clause → Type 0
EnoughCredit clauses =
    (j k : ℕ) (os rs : List Record) (n : ℕ) (w : Shared) (pre zs : List Element) → n < j → n < k
    → let m = scoped clauses in seen (run m n w (free_steps m [] (pre ++ (Credit j os ∷ zs))))
    ≡ seen (run m n w (free_steps m [] (pre ++ (Credit k rs ∷ zs))))

-- credits in front of anything pass without a change of the world, one inference after the other
pub record CreditsPass (clauses : List Clause) (xs zs : List Element) (w : Shared) : Type 0 where
  pub passed : run (scoped clauses) (inferences xs) w (free_steps (scoped clauses) [] (xs ++ zs))
      ≡ (w, free_steps (scoped clauses) [] (map (gives (scoped clauses) (records xs)) zs))
  pub world : (n : ℕ) → n ≤ inferences xs → (run (scoped clauses) n w (free_steps (scoped clauses) [] (xs ++ zs))).0 ≡ w
  pub going : (n : ℕ) → n < inferences xs → is_finished (run (scoped clauses) n w (free_steps (scoped clauses) [] (xs ++ zs))).1 ≡ false

-- credits alone end with their last inference
abbrev pub CreditsEnd : List Clause → Type 0
CreditsEnd clauses = (xs : List Element) (w : Shared) (n : ℕ) → IsQuiet xs
    → run (scoped clauses) (inferences xs + n) w (free_steps (scoped clauses) [] xs) ≡ (w, [])
