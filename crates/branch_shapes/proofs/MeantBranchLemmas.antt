-- Branches whose goals are the items of entries.
use Rattle.std.proofs.Common.{◌≡◌, ℕ, suc, ◌==◌, Bool, true, false, cond, List, [], ◌∷◌, map, refl, sym, ap, ap₂, ◌∙◌, subst}
use Rattle.au_model.specs.Terms.Each.{Each}
use Rattle.au_model.specs.Terms.Substitutions.{Substitution}
use Rattle.clause_compile.specs.declared.event.Branch.{Branch}
use Rattle.run_model.specs.Machine.Entries.{Entry, PlainEntry}
use Rattle.run_model.specs.Machine.Items.{Item, GoalItem, CatchMark, CollectMark, RemovalItem, Continuation, resolve_item, resolve_continuation}
use Rattle.tree_model.specs.Floors.{renamed_item, renamed_continuation, with_nodes}
use Rattle.tree_model.specs.Shapes.{cuts_of_items, cuts_of_entry}
use Rattle.tree_nodes.specs.Bodies.{BodyKind, ChoiceBody, ConditionBody, CatchBody, FindallBody, QueryBody}
use Rattle.branch_reading.specs.Readings.{guard_meant, entry_beside}
use Rattle.branch_shapes.specs.GroupLaws.{IsWholeHeight, HasWholeCuts}
use Rattle.branch_shapes.specs.ExtendedWays.{number_after, continuation_of}
use Rattle.branch_shapes.specs.MeantBranches.{Placement, floor_in, scope_in, continuation_in, GoalsMean, MeantBranchesShow, MeantEntriesAreWhole}
use Rattle.branch_shapes.proofs.ChoiceScopeLemmas.{items_are_named, items_are_whole}

-- names and bindings are of different parts of an item
module _ (scope mark : ℕ → ℕ) (s : Substitution) where
  item_apart : (i : Item ℕ) → renamed_item scope mark (resolve_item s i) ≡ resolve_item s (renamed_item scope mark i)
  item_apart (GoalItem t h) = refl
  item_apart (CatchMark h) = refl
  item_apart (CollectMark t h) = refl
  item_apart (RemovalItem number) = refl

  items_apart : (items : List (Item ℕ))
      → map (renamed_item scope mark) (map (resolve_item s) items) ≡ map (resolve_item s) (map (renamed_item scope mark) items)
  items_apart [] = refl
  items_apart (i ∷ items) = ap₂ (λ j js. j ∷ js) (item_apart i) (items_apart items)

  pub continuation_apart : (f : Continuation ℕ)
      → renamed_continuation scope mark (resolve_continuation s f) ≡ resolve_continuation s (renamed_continuation scope mark f)
  continuation_apart f = ap
      (λ items. (let g : Continuation ℕ = record { items = items; named = (resolve_continuation s f).named; next = f.next } in g)) (items_apart f.items)

module _ (name : ℕ → ℕ) (s : Substitution) where
  guard_named : (kind : BodyKind) (f : Continuation ℕ)
      → with_nodes name (guard_meant kind s f) ≡ guard_meant kind s (renamed_continuation name (λ h. name (suc h)) f)
  guard_named ChoiceBody f = refl
  guard_named ConditionBody f = refl
  guard_named (CatchBody catcher recovery) f = refl
  guard_named (FindallBody results list) f = refl
  guard_named QueryBody f = refl

  beside_named : (kind : BodyKind) (i : ℕ) (f : Continuation ℕ)
      → with_nodes name (entry_beside kind i s f) ≡ entry_beside kind i s (renamed_continuation name (λ h. name (suc h)) f)
  beside_named kind i f = by_test (i == 1)
    where
      by_test : (t : Bool) → with_nodes name (cond t (guard_meant kind s f) (PlainEntry f))
          ≡ cond t (guard_meant kind s (renamed_continuation name (λ h. name (suc h)) f)) (PlainEntry (renamed_continuation name (λ h. name (suc h)) f))
      by_test true = guard_named kind f
      by_test false = refl

-- cuts are as before
cuts_stay : (s : Substitution) (items : List (Item ℕ)) → cuts_of_items (map (resolve_item s) items) ≡ cuts_of_items items
cuts_stay s [] = refl
cuts_stay s (GoalItem t h ∷ items) = ap (λ hs. h ∷ hs) (cuts_stay s items)
cuts_stay s (CatchMark h ∷ items) = cuts_stay s items
cuts_stay s (CollectMark t h ∷ items) = cuts_stay s items
cuts_stay s (RemovalItem number ∷ items) = cuts_stay s items

guard_cuts : (kind : BodyKind) (s : Substitution) (f : Continuation ℕ) → cuts_of_entry (guard_meant kind s f) ≡ cuts_of_items f.items
guard_cuts ChoiceBody s f = refl
guard_cuts ConditionBody s f = refl
guard_cuts (CatchBody catcher recovery) s f = refl
guard_cuts (FindallBody results list) s f = refl
guard_cuts QueryBody s f = refl

beside_cuts : (kind : BodyKind) (i : ℕ) (s : Substitution) (f : Continuation ℕ) → cuts_of_entry (entry_beside kind i s f) ≡ cuts_of_items f.items
beside_cuts kind i s f = by_test (i == 1)
  where
    by_test : (t : Bool) → cuts_of_entry (cond t (guard_meant kind s f) (PlainEntry f)) ≡ cuts_of_items f.items
    by_test true = guard_cuts kind s f
    by_test false = refl

module _ (p : Placement) (before : Substitution) (next : ℕ) (kind : BodyKind) (i : ℕ) (branch : Branch) (e : Entry)
    (h : GoalsMean p before next kind i branch e) where
  abbrev name : ℕ → ℕ
  name = scope_in p

  abbrev over : Continuation ℕ
  over = continuation_in p (number_after branch.segment) h.items

  named_is : continuation_of p.named branch ≡ renamed_continuation name (λ k. name (suc k)) over
  named_is = ap (λ items. (let g : Continuation ℕ = record { items = items; named = p.named; next = number_after branch.segment } in g))
      (h.goals ∙ sym (items_are_named p.number p.levels p.groups h.items h.over))

  pub goals_show : entry_beside kind i h.now (resolve_continuation h.now (continuation_of p.named branch)) ≡ with_nodes name e
  goals_show =
      ap (λ f. entry_beside kind i h.now (resolve_continuation h.now f)) named_is
      ∙ (ap (entry_beside kind i h.now) (sym (continuation_apart name (λ k. name (suc k)) h.now over))
      ∙ (sym (beside_named name h.now kind i (resolve_continuation h.now over)) ∙ ap (with_nodes name) (sym h.means)))

  pub cuts_whole : HasWholeCuts (floor_in p) p.groups e
  cuts_whole = subst (λ cuts. Each (IsWholeHeight (floor_in p) p.groups) cuts)
      (sym (ap cuts_of_entry h.means ∙ (beside_cuts kind i h.now (resolve_continuation h.now over) ∙ cuts_stay h.now over.items)))
      (items_are_whole (floor_in p) p.groups h.items)

pub meant_branches_show : MeantBranchesShow
meant_branches_show p there b i e h = record {
  now = h.goals.now;
  branch = h.branch;
  is = h.is;
  leads = h.goals.leads;
  below = h.goals.below;
  means = goals_show p there (number_after b.segment) b.kind i h.branch e h.goals;
}

pub meant_entries_are_whole : MeantEntriesAreWhole
meant_entries_are_whole p there b i e h = cuts_whole p there (number_after b.segment) b.kind i h.branch e h.goals
