-- What a sound tree keeps round a place, and what at the place itself.
use Rattle.std.proofs.Common.{◌≡◌, ℕ, suc, Bool, true, false, List, [], ◌∷◌, length, refl, sym, ap, ◌∙◌}
use Rattle.tree_model.specs.Nodes.{Kind, Alternatives, alternative, Status, Inner}
use Rattle.tree_model.specs.Levels.{Level, put_left, level_node, plug}
use Rattle.tree_model.specs.PendingLists.{Way, way_of}
use Rattle.tree_model.specs.Ways.{is_on}
use Rattle.tree_model.specs.SoundTrees.{Profile, IsOpen, IsDormant, IsShut, profile, profiles, is_shape}
use Rattle.tree_model.specs.SoundTrees.{some_open, is_live, AreSound, IsSound}

-- alternatives to the left, the nearest first
abbrev pub LeftSound : Way → ℕ → Kind → List (ℕ × Status) → Type 0
LeftSound way n kind [] = Unit {0}
LeftSound way n kind (a ∷ left) = IsSound (record { node = n; index = length left; kind = kind } ∷ way) a.1 × LeftSound way n kind left

abbrev pub put_profiles : List (ℕ × Status) → List Profile → List Profile
put_profiles [] ps = ps
put_profiles (a ∷ left) ps = put_profiles left (profile a.1 ∷ ps)

abbrev pub level_profiles : Level → Profile → List Profile
level_profiles v p = put_profiles v.left (p ∷ profiles v.right)

pub record IsLevel (up : List Level) (v : Level) (p : Profile) : Type 0 where
  pub new : is_on (way_of up) v.number ≡ false
  pub shape : is_shape v.kind (level_profiles v p) ≡ true
  pub left : LeftSound (way_of up) v.number v.kind v.left
  pub right : AreSound (way_of up) v.number v.kind (suc (length v.left)) v.right

-- round a place whose status has this profile
abbrev pub IsAround : List Level → Profile → Type 0
IsAround [] p = Unit {0}
IsAround (v ∷ up) p = IsLevel up v p × IsAround up IsOpen

pub profiles-put : (left : List (ℕ × Status)) (others : Alternatives) → profiles (put_left left others) ≡ put_profiles left (profiles others)
profiles-put [] others = refl
profiles-put (a ∷ left) others = profiles-put left (alternative a.0 a.1 others)

sound-split : (way : Way) (n : ℕ) (kind : Kind) (left : List (ℕ × Status)) (others : Alternatives)
    → AreSound way n kind 0 (put_left left others) → LeftSound way n kind left × AreSound way n kind (length left) others
sound-split way n kind [] others h = (tt, h)
sound-split way n kind (a ∷ left) others h =
    let k = sound-split way n kind left (alternative a.0 a.1 others) h in
    ((k.1.0, k.0), k.1.1)

sound-join : (way : Way) (n : ℕ) (kind : Kind) (left : List (ℕ × Status)) (others : Alternatives) → LeftSound way n kind left
    → AreSound way n kind (length left) others → AreSound way n kind 0 (put_left left others)
sound-join way n kind [] others h k = k
sound-join way n kind (a ∷ left) others h k = sound-join way n kind left (alternative a.0 a.1 others) h.1 (h.0, k)

pub taken_out : (levels : List Level) (status : Status) → IsSound [] (plug levels status)
    → IsAround levels (profile status) × IsSound (way_of levels) status
taken_out [] status h = (tt, h)
taken_out (v ∷ up) status h =
    let k = taken_out up (Inner (level_node v status)) h in
    let parts = sound-split (way_of up) v.number v.kind v.left (alternative v.spent status v.right) k.1.3 in
    let shape : is_shape v.kind (level_profiles v (profile status))
    ≡ true = ap (is_shape v.kind) (sym (profiles-put v.left (alternative v.spent status v.right))) ∙ k.1.1 in
    ((record { new = k.1.0; shape = shape; left = parts.0; right = parts.1.1 }, k.0), parts.1.0)

-- whether the innermost node is open where its place has this profile
abbrev pub live_at : List Level → Profile → Bool
live_at [] p = true
live_at (v ∷ up) p = is_live (way_of up) (level_profiles v p)

pub put_open : (left : List (ℕ × Status)) (ps : List Profile) → some_open ps ≡ true → some_open (put_profiles left ps) ≡ true
put_open [] ps h = h
put_open (a ∷ left) ps h = put_open left (profile a.1 ∷ ps) (open_after (profile a.1) ps h)
  where
    open_after : (p : Profile) (ps : List Profile) → some_open ps ≡ true → some_open (p ∷ ps) ≡ true
    open_after IsOpen ps h = refl
    open_after IsShut ps h = h
    open_after (IsDormant k) ps h = refl

pub live_open : (levels : List Level) → live_at levels IsOpen ≡ true
live_open [] = refl
live_open (v ∷ []) = refl
live_open (v ∷ u ∷ up) = put_open v.left (IsOpen ∷ profiles v.right) refl

pub put_in : (levels : List Level) (status : Status) → live_at levels (profile status) ≡ true → IsAround levels (profile status)
    → IsSound (way_of levels) status → IsSound [] (plug levels status)
put_in [] status l h k = k
put_in (v ∷ up) status l h k =
    let all = sound-join (way_of up) v.number v.kind v.left (alternative v.spent status v.right) h.0.left (k, h.0.right) in
    let shape : is_shape v.kind (profiles (put_left v.left (alternative v.spent status v.right)))
    ≡ true = ap (is_shape v.kind) (profiles-put v.left (alternative v.spent status v.right)) ∙ h.0.shape in
    let live : is_live (way_of up) (profiles (put_left v.left (alternative v.spent status v.right)))
    ≡ true = ap (is_live (way_of up)) (profiles-put v.left (alternative v.spent status v.right)) ∙ l in
    put_in up (Inner (level_node v status)) (live_open up) h.1 (h.0.new, shape, live, all)
