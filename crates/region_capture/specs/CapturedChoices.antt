-- What choice points that were taken off a region stand for.
use Rattle.std.specs.Prelude.{◌≡◌, ◌⊎◌, ℕ, ◌+◌, ◌<◌, ◌≤◌, List, [], ◌∷◌, ◌++◌, length, map}
use Rattle.au_model.specs.Terms.Each.{Each}
use Rattle.au_model.specs.Terms.Named.{NamedTerm}
use Rattle.au_model.specs.Terms.Substitutions.{Substitution}
use Rattle.run_model.specs.Machine.Entries.{Entry}
use Rattle.run_model.specs.Machine.Items.{Item, GoalItem, CatchMark, CollectMark, RemovalItem}
use Rattle.region_split.specs.ChoicePoints.{height_of_cut}
use Rattle.branch_bindings.specs.Extensions.{ExtendsBy}
use Rattle.region_capture.specs.CapturedItems.{ItemLists}
use Rattle.region_capture.specs.CapturedMeanings.{captured_bindings, MeantAlternative, meant_entry, AreMeant, IsKindBelow}
use Rattle.region_capture.specs.declared.captured.CapturedAlternative.{CapturedAlternative}
use Rattle.region_capture.specs.declared.captured.CapturedChoice.{CapturedChoice}
use Rattle.region_capture.specs.declared.captured.CapturedKind.{CapturedKind}
use Rattle.region_capture.specs.declared.captured.CapturedKind.TheVariants.{Choice, Catch, Findall}

-- what was bound, with how many variables
pub record BoundThen : Type 0 where
  pub bound : Substitution
  pub next : ℕ

-- its kind, what was bound when it came, and its alternatives
pub record MeantChoice : Type 0 where
  pub kind : CapturedKind
  pub came : BoundThen
  pub alternatives : List MeantAlternative

abbrev pub group_entries : List ℕ → List NamedTerm → MeantChoice → List Entry
group_entries heights named m = map (meant_entry m.kind heights named) m.alternatives

-- a catch and a findall have one alternative
abbrev pub IsAloneOf : CapturedKind → ℕ → Type 0
IsAloneOf Choice count = Unit {0}
IsAloneOf (Catch catcher recovery) count = count ≡ 1
IsAloneOf (Findall list results) count = count ≡ 1

-- a choice point over so many others, where this was bound when the one under it came
pub record CapturesChoice (lists : ItemLists) (under : BoundThen) (cut : ℕ) (c : CapturedChoice) (m : MeantChoice) : Type 0 where
  pub kind : c.kind ≡ m.kind
  pub below : ExtendsBy under.bound m.came.bound c.next (captured_bindings c.below)
  pub next : m.came.next ≡ c.next
  pub more : under.next ≤ c.next
  pub alternatives : AreMeant lists m.came.bound c.next cut c.alternatives.items m.alternatives
  pub alone : IsAloneOf m.kind (length m.alternatives)
  pub terms : (a : CapturedAlternative) → c.alternatives.items ≡ a ∷ [] → IsKindBelow a.next m.kind

-- what was bound when the newest came, or at the start
abbrev pub bound_under : BoundThen → List MeantChoice → BoundThen
bound_under start [] = start
bound_under start (m ∷ ms) = m.came

-- choice points, the newest first, over so many others
abbrev pub CaptureChoices : ItemLists → BoundThen → ℕ → List CapturedChoice → List MeantChoice → Type 0
CaptureChoices lists start cut [] [] = Unit {0}
CaptureChoices lists start cut [] (m ∷ ms) = ⊥
CaptureChoices lists start cut (c ∷ cs) [] = ⊥
CaptureChoices lists start cut (c ∷ cs) (m ∷ ms) = CapturesChoice lists (bound_under start ms) (cut + length ms) c m × CaptureChoices lists start cut cs ms

-- their entries, those of the newest on top
abbrev pub meant_entries : List ℕ → List NamedTerm → List MeantChoice → List Entry
meant_entries heights named [] = []
meant_entries heights named (m ∷ ms) = group_entries heights named m ++ meant_entries heights named ms

-- a cut that leaves so many of them, the oldest, and so many choice points under them leaves their entries and so many others
abbrev pub AreHeightsOf : List ℕ → List NamedTerm → ℕ → ℕ → List MeantChoice → Type 0
AreHeightsOf heights named cut others [] = height_of_cut heights cut ≡ others
AreHeightsOf heights named cut others (m ∷ ms) =
    (height_of_cut heights (cut + length (m ∷ ms)) ≡ length (meant_entries heights named (m ∷ ms)) + others) × AreHeightsOf heights named cut others ms

-- the one that is over so many choice points has one alternative, where these are over so many others
pub record IsGuardOver (cut : ℕ) (ms : List MeantChoice) (over : ℕ) : Type 0 where
  pub newer : List MeantChoice
  pub guard : MeantChoice
  pub older : List MeantChoice
  pub are : ms ≡ newer ++ guard ∷ older
  pub place : over ≡ cut + length older
  pub alone : length guard.alternatives ≡ 1

-- an item that marks such a one, or one of the others, if any
abbrev pub MarksGuard : ℕ → List MeantChoice → Item ℕ → Type 0
MarksGuard cut ms (GoalItem t c) = Unit {0}
MarksGuard cut ms (CatchMark over) = (over < cut) ⊎ IsGuardOver cut ms over
MarksGuard cut ms (CollectMark t over) = (over < cut) ⊎ IsGuardOver cut ms over
MarksGuard cut ms (RemovalItem number) = Unit {0}

abbrev pub MarkGuards : ℕ → List MeantChoice → MeantAlternative → Type 0
MarkGuards cut ms a = Each (MarksGuard cut ms) a.items
