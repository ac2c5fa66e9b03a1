-- What is left where a goal was taken.
use Rattle.std.proofs.Common.{◌≡◌, List, ◌∙◌}
use Rattle.au_model.specs.Terms.Named.{NamedTerm}
use Rattle.run_model.specs.Machine.Entries.{Entry}
use Rattle.region_split.specs.Regions.{RegionView}
use Rattle.region_control.specs.Replies.{Leaves}
use Rattle.region_control.specs.declared.replies.AfterGoal.{AfterGoal}
use Rattle.region_control.specs.declared.replies.AfterGoal.TheVariants.{At, Failed, Uncaught, AsksWorld}

-- entries that are the same
pub leaves_same : (e f : List NamedTerm → List Entry) (new : RegionView) (after : AfterGoal) → ((named : List NamedTerm) → f named ≡ e named) → Leaves e new after → Leaves f new after
leaves_same e f new (At p) same h = ((λ named. same named ∙ h.0 named), h.1)
leaves_same e f new Failed same h = λ named. same named ∙ h named
leaves_same e f new (Uncaught ball) same h = λ named. same named ∙ h named
leaves_same e f new AsksWorld same h = h
