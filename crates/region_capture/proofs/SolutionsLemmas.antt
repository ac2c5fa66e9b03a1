-- Solutions that are tried and undone one after another.
use Rattle.std.proofs.Common.{◌≡◌, List, ◌∷◌, ◌++◌, Option, sym, subst}
use Rattle.std.specs.Option.{option_to_list}
use Rattle.au_model.specs.Terms.Named.{NamedTerm}
use Rattle.run_model.specs.Machine.Entries.{Entry}
use Rattle.region_split.specs.Regions.{RegionView}
use Rattle.region_split.specs.Solutions.{SolutionView}
use Rattle.region_split.specs.SolutionTrials.{AreSolutionsHere}
use Rattle.region_split.specs.declared.choice.Alternatives.TheVariants.{Solutions}
use Rattle.region_split.specs.declared.frame.Position.{Position}
use Rattle.region_capture.specs.CapturedItems.{ItemLists}
use Rattle.region_capture.specs.CaptureSteps.{CapturesUpTo, CapturesSolution, entries_here}
use Rattle.region_capture.specs.declared.captured.CapturedAlternative.{CapturedAlternative}
use Rattle.region_capture.specs.declared.captured.CapturedKind.TheVariants.{Choice}
use Rattle.region_capture.proofs.MeantLemmas.{captures_on}

pub solutions_on : (start r new : RegionView) (first lists more : ItemLists) (all : List NamedTerm → List Entry) (solution : SolutionView) (left rest others : List SolutionView) (after : Position) (taken now : List CapturedAlternative) (o : Option CapturedAlternative)
    → CapturesUpTo Choice start r first lists all (entries_here r (Solutions left) after) taken → left ≡ solution ∷ rest → CapturesSolution r new lists more solution rest after o others → now ≡ taken ++ option_to_list o
    → CapturesUpTo Choice start new first more all (entries_here new (Solutions others) after) now
solutions_on start r new first lists more all solution left rest others after taken now o before is own pushed =
    let from : CapturesUpTo Choice start r first lists all (entries_here r (Solutions (solution ∷ rest)) after) taken
    = subst (λ (ss : List SolutionView). CapturesUpTo Choice start r first lists all (entries_here r (Solutions ss) after) taken) is before in
    subst (CapturesUpTo Choice start new first more all (entries_here new (Solutions others) after)) (sym pushed)
    (subst (λ (ss : List SolutionView). CapturesUpTo Choice start new first more all (entries_here new (Solutions ss) after) (taken ++ option_to_list o)) (sym own.same)
    (captures_on Choice start r new first lists more all (entries_here r (Solutions (solution ∷ rest)) after) (entries_here new (Solutions rest) after) taken (option_to_list o) from own.captures))

pub solutions_there : (r new : RegionView) (lists more : ItemLists) (solution : SolutionView) (rest others : List SolutionView) (after : Position) (o : Option CapturedAlternative) → CapturesSolution r new lists more solution rest after o others → AreSolutionsHere new others
solutions_there r new lists more solution rest others after o own = subst (AreSolutionsHere new) (sym own.same) own.there
