-- What an alternative that was taken off a region goes on with.
use Rattle.std.specs.Prelude.{◌≡◌, ℕ, ◌≤◌, List, [], ◌∷◌, map}
use Rattle.au_term.specs.Term.{var_bound}
use Rattle.au_term.specs.declared.segment.Binding.{Binding}
use Rattle.au_model.specs.Terms.Each.{Each}
use Rattle.au_model.specs.Terms.Named.{NamedTerm}
use Rattle.au_model.specs.Terms.Substitutions.{Substitution, resolve}
use Rattle.run_model.specs.Machine.Items.{Item, Continuation, resolve_continuation}
use Rattle.run_model.specs.Machine.Entries.{Entry, PlainEntry, CatchEntry, FindallEntry}
use Rattle.region_split.specs.ChoicePoints.{by_height}
use Rattle.branch_bindings.specs.Extensions.{WrittenBindings, ExtendsBy}
use Rattle.region_capture.specs.CapturedItems.{ItemLists, HasItems, IsItemOver}
use Rattle.region_capture.specs.declared.captured.CapturedAlternative.{CapturedAlternative}
use Rattle.region_capture.specs.declared.captured.CapturedKind.{CapturedKind}
use Rattle.region_capture.specs.declared.captured.CapturedKind.TheVariants.{Choice, Catch, Findall}

abbrev pub captured_bindings : List Binding → WrittenBindings
captured_bindings bs = map (λ b. (b.var, b.value)) bs

-- its items as they are written, what is bound, and the next variable number
pub record MeantAlternative : Type 0 where
  pub items : List (Item ℕ)
  pub bound : Substitution
  pub next : ℕ

-- what is left to do of it, with scopes by the heights of choice points, where the query's named variables are these terms before
-- anything is bound
abbrev pub meant_continuation : List ℕ → List NamedTerm → MeantAlternative → Continuation ℕ
meant_continuation heights named a = resolve_continuation a.bound (record { items = map (by_height heights) a.items; named = named; next = a.next })

-- the entry for which it stands at a choice point of a kind
abbrev pub meant_entry : CapturedKind → List ℕ → List NamedTerm → MeantAlternative → Entry
meant_entry Choice heights named a = PlainEntry (meant_continuation heights named a)
meant_entry (Catch catcher recovery) heights named a = CatchEntry (resolve a.bound catcher) (resolve a.bound recovery) (meant_continuation heights named a)
meant_entry (Findall list results) heights named a = FindallEntry (map (resolve a.bound) results.items) (resolve a.bound list) (meant_continuation heights named a)

-- the variables of what a catch or a findall has are below a number
abbrev pub IsKindBelow : ℕ → CapturedKind → Type 0
IsKindBelow next Choice = Unit {0}
IsKindBelow next (Catch catcher recovery) = (var_bound catcher ≤ next) × (var_bound recovery ≤ next)
IsKindBelow next (Findall list results) = (var_bound list ≤ next) × Each (λ t. var_bound t ≤ next) results.items

-- an alternative goes on with this over so many choice points: what is bound was made of what was bound at one moment, with so many
-- variables, by its bindings
pub record MeansAlternative (lists : ItemLists) (before : Substitution) (first cut : ℕ) (a : CapturedAlternative) (m : MeantAlternative) : Type 0 where
  pub items : HasItems lists a.first m.items
  pub extends : ExtendsBy before m.bound a.next (captured_bindings a.bindings)
  pub next : m.next ≡ a.next
  pub more : first ≤ a.next
  pub over : Each (IsItemOver a.next cut) m.items

-- alternatives in their order
abbrev pub AreMeant : ItemLists → Substitution → ℕ → ℕ → List CapturedAlternative → List MeantAlternative → Type 0
AreMeant lists before first cut [] [] = Unit {0}
AreMeant lists before first cut [] (m ∷ ms) = ⊥
AreMeant lists before first cut (a ∷ taken) [] = ⊥
AreMeant lists before first cut (a ∷ taken) (m ∷ ms) = MeansAlternative lists before first cut a m × AreMeant lists before first cut taken ms
