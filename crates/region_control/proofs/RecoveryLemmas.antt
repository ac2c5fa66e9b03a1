-- A catch that takes a copy of a ball.
use Rattle.std.proofs.Common.{◌≡◌, ℕ, ◌+◌, List, [], ◌∷◌, length, map, Option, Some, refl, sym, ap, ap₂, ◌∙◌, subst, arith}
use Rattle.au_term.specs.Term.{Term}
use Rattle.au_model.specs.Terms.Copies.{copied, copy_takes}
use Rattle.au_model.specs.Terms.Named.{NamedTerm}
use Rattle.au_model.specs.Terms.Substitutions.{Substitution, resolve}
use Rattle.au_model.specs.Terms.Unifier.{unifier}
use Rattle.run_model.specs.Programs.Bodies.{call_of}
use Rattle.run_model.specs.Machine.Balls.{recovered}
use Rattle.run_model.specs.Machine.Entries.{Entry, PlainEntry}
use Rattle.run_model.specs.Machine.Items.{GoalItem, Continuation, before, with_next, resolve_continuation}
use Rattle.binding_array.specs.declared.cell.BindingCell.{BindingCell}
use Rattle.cell_store.specs.StoreView.{StoreView, IsValidStore, IsValueIn, AddsText, text_in, value_term, meaning, with_numbers, with_substitution}
use Rattle.cell_store.specs.UnificationSteps.{OnlyBinds, AreUnified}
use Rattle.cell_store.proofs.SubstitutionLemmas.{value_raised}
use Rattle.region_split.proofs.TrialLemmas.{same_parts}
use Rattle.region_split.specs.ChoicePoints.{Standing, height_of_cut, by_height}
use Rattle.region_split.specs.Regions.{RegionView, standing, entries_of, heights_of, items_here, continuation_here, IsPositionIn, IsPositionOver}
use Rattle.region_split.specs.StackOperations.{KeepsPositions, StaysStanding, PutsBefore, item_here}
use Rattle.region_split.specs.declared.frame.FrameItem.TheVariants.{Call}
use Rattle.region_split.specs.declared.frame.Position.{Position}
use Rattle.region_split.proofs.ItemLemmas.{position_more}
use Rattle.region_split.proofs.ResultLemmas.{copy_unbound}
use Rattle.region_split.proofs.TrialLemmas.{resolved_twice, items_twice, named_twice}
use Rattle.region_control.specs.Balls.{Recovers}
use Rattle.region_control.specs.declared.balls.Catch.{Catch}

-- the copy is put behind the text
module _ (r r1 r2 : RegionView) (ball : Term) (c : Catch) (copy : BindingCell) (takes : ℕ) (valid : IsValidStore r.store) (takes_is : takes ≡ copy_takes ball) (widened : r1 ≡ record r { store = with_numbers takes r.store })
    (adds : AddsText r1.store r2.store) (means : value_term r2.store copy ≡ copied ball r.store.now.next) where
  raised : (v : BindingCell) → IsValueIn r.store v → IsValueIn r1.store v
  raised v i = subst (λ (x : RegionView). IsValueIn x.store v) (sym widened) (value_raised (text_in r.store) r.store.now.next (r.store.now.next + takes) v (omega arith) i)

  pub still_there : (v : BindingCell) → IsValueIn r.store v → IsValueIn r2.store v
  still_there v i = (adds.values v (raised v i)).0

  bound_same : r2.store.now.bound ≡ r.store.now.bound
  bound_same = adds.bound ∙ ap (λ (x : RegionView). x.store.now.bound) widened

  pub means_same : (v : BindingCell) → IsValueIn r.store v → meaning r2.store v ≡ meaning r.store v
  means_same v i = ap₂ resolve bound_same ((adds.values v (raised v i)).1 ∙ ap (λ (x : RegionView). value_term x.store v) widened)

  copy_means : meaning r2.store copy ≡ copied ball r.store.now.next
  copy_means = ap₂ resolve bound_same means ∙ copy_unbound r.store.now.bound ball r.store.now.next valid.new

  pub same_unifier : (o : Option Substitution) → IsValueIn r.store c.catcher → unifier ((meaning r2.store c.catcher, meaning r2.store copy) ∷ []) ≡ o → unifier ((meaning r.store c.catcher, copied ball r.store.now.next) ∷ []) ≡ o
  same_unifier o i e = ap₂ (λ t u. unifier ((t, u) ∷ [])) (sym (means_same c.catcher i)) (sym copy_means) ∙ e

  module _ (stays1 : StaysStanding r r1) (stays2 : StaysStanding r1 r2) (keeps : KeepsPositions r1 r2 (length r1.frames)) (after : IsPositionIn r c.after) where
    many1 : length r1.choices ≡ length r.choices
    many1 = ap (λ (x : RegionView). length x.choices) stays1.others

    after1 : IsPositionIn r1 c.after
    after1 = subst (λ n. IsPositionOver r1 n c.after) (sym many1) (stays1.position (length r.choices) c.after after)

    follows : (named : List NamedTerm) → continuation_here named r2 c.after ≡ with_next (r.store.now.next + copy_takes ball) (continuation_here named r c.after)
    follows named =
        let same : continuation_here named r2 c.after ≡ continuation_here named r1 c.after = (let e = keeps.same named c.after after1.frame after1 in cc) in
        same
        ∙ (ap (λ (x : RegionView). continuation_here named x c.after) widened
        ∙ ap (λ n. with_next (r.store.now.next + n) (continuation_here named r c.after)) takes_is)

    -- the catch takes it
    module _ (r3 last : RegionView) (u : AreUnified c.catcher copy r2.store r3.store) (kept : OnlyBinds r2.store r3.store) (stays3 : StaysStanding r2 r3) (catcher : IsValueIn r.store c.catcher) (recovery : IsValueIn r.store c.recovery)
        (cut : ℕ) (p : Position) (cut_is : cut ≡ length r3.choices) (height : (named : List NamedTerm) → height_of_cut (heights_of named r3) cut ≡ length (entries_of named r3)) (put : PutsBefore r3 last (item_here r3 (Call c.recovery) cut) cut c.after p) where
      abbrev s3 : Substitution
      s3 = r3.store.now.bound

      bound_is : r3 ≡ record r2 { store = with_substitution s3 r2.store }
      bound_is = stays3.others ∙ ap (λ (x : StoreView). record r2 { store = x }) kept.others

      stands : (named : List NamedTerm) → standing named r3 ≡ standing named r
      stands named = stays3.stands named ∙ (stays2.stands named ∙ stays1.stands named)

      follows_bound : (named : List NamedTerm) → continuation_here named r3 c.after ≡ resolve_continuation u.further (continuation_here named r2 c.after)
      follows_bound named =
          ap (λ (x : RegionView). continuation_here named x c.after) bound_is
          ∙ same_parts (items_twice r2.store.now.bound u.further s3 u.binds.bound (map (by_height (heights_of named r2)) (items_here r2 c.after))) (named_twice r2.store.now.bound u.further s3 u.binds.bound named) refl

      goal_bound : resolve s3 (value_term r3.store c.recovery) ≡ resolve u.further (meaning r.store c.recovery)
      goal_bound =
          ap (λ (x : RegionView). resolve s3 (value_term x.store c.recovery)) bound_is
          ∙ (resolved_twice r2.store.now.bound u.further s3 u.binds.bound (value_term r2.store c.recovery) ∙ ap (resolve u.further) (means_same c.recovery recovery))

      -- the recovery in some scope before what follows
      abbrev recovery_before : Term → ℕ → Continuation ℕ → List Entry → List Entry
      recovery_before t n f es = PlainEntry (before (GoalItem (call_of t) n ∷ []) f) ∷ es

      pub takes_ball : Recovers r last ball c p
      takes_ball = record {
        entries = λ named further.
            let es = entries_of named r in
            let f = continuation_here named r c.after in
            let goes_on : continuation_here named r3 c.after ≡ resolve_continuation u.further (with_next (r.store.now.next + copy_takes ball) f) = follows_bound named ∙ ap (resolve_continuation u.further) (follows named) in
            let n : height_of_cut (heights_of named r3) cut ≡ length es = height named ∙ ap (λ (x : Standing). length x.entries) (stands named) in
            ap (λ o. recovered o ball (meaning r.store c.recovery) f es further) (same_unifier (Some u.further) catcher u.unified)
            ∙ sym (ap₂ (λ g (x : Standing). PlainEntry g ∷ x.entries) (put.goes_on named) (put.stands named ∙ stands named)
            ∙ (ap₂ (λ t k. recovery_before t k (continuation_here named r3 c.after) es) goal_bound n
            ∙ ap (λ g. recovery_before (resolve u.further (meaning r.store c.recovery)) (length es) g es) goes_on));
        position = position_more last cut (length last.choices) p (let m = ap (λ (x : RegionView). length x.choices) put.others in omega (arith, m, cut_is)) put.position;
      }
