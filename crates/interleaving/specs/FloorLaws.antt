-- When two segments stand for the same entries, whatever they are on.
use Rattle.std.specs.Prelude.{Bool, List, ◌++◌, ◌≡◌}
use Rattle.au_model.specs.Terms.Each.{Each}
use Rattle.tree_model.specs.Elements.{Name, Element}
use Rattle.interleaving.specs.Erased.{height, erased}
use Rattle.interleaving.specs.Views.{IsBlind, IsInner}
use Rattle.interleaving.specs.Sound.{IsPresent, IsSound}
use Rattle.interleaving.specs.OwnRuns.{IsFloor}

-- scopes that have one height in the floor have one in the other list
abbrev pub RespectsHeights : List Element → List Element → Type 0
RespectsHeights floor zs = (s t : Name) → IsPresent floor s → IsPresent floor t → height floor s ≡ height floor t → height zs s
    ≡ height zs t

-- segments that stand for the same entries over a floor do so over what it tells of
abbrev pub FloorIsEnough : Type 0
FloorIsEnough =
    (floor zs b c : List Element) → IsFloor floor → RespectsHeights floor zs → IsSound (b ++ floor) → IsSound (c ++ floor)
    → erased (b ++ floor)
    ≡ erased (c ++ floor)
    → erased (b ++ zs) ≡ erased (c ++ zs)

-- and so do the lists with anything in front that names nothing of theirs
abbrev pub FrontIsSame : Type 0
FrontIsSame =
    (inside : Name → Bool) (pre b c zs : List Element) → Each (IsBlind inside) pre → Each (IsInner inside) b → Each (IsInner inside) c
    → erased (b ++ zs) ≡ erased (c ++ zs)
    → erased (pre ++ (b ++ zs)) ≡ erased (pre ++ (c ++ zs))
