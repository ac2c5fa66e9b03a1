-- A catcher takes a copy of a ball in a store with what is bound at its catch.
use Rattle.std.proofs.Common.{◌≡◌, ℕ, ◌+◌, false, [], ◌∷◌, map, None, sym, ap, ap₂, ◌∙◌, subst, arith}
use Rattle.au_term.specs.Term.{Term}
use Rattle.au_term.specs.declared.segment.Segment.{Segment}
use Rattle.au_model.specs.Terms.Copies.{copied, copy_takes}
use Rattle.au_model.specs.Terms.Substitutions.{resolve}
use Rattle.au_model.specs.Terms.Unifier.{unifier}
use Rattle.binding_array.specs.declared.cell.BindingCell.{BindingCell}
use Rattle.cell_store.specs.StoreView.{Moment, StoreView, IsComposition, IsValidStore, IsValueIn, AddsText, text_in, value_term, meaning, substitution, over_floor, with_numbers}
use Rattle.cell_store.specs.UnificationSteps.{AreUnified, IsUnified}
use Rattle.cell_store.proofs.SubstitutionLemmas.{value_raised}
use Rattle.region_split.proofs.ResultLemmas.{copy_unbound}
use Rattle.region_capture.specs.CaptureSteps.{AreWrittenOverFloor}
use Rattle.branch_bindings.specs.Extensions.{ExtendsBy}
use Rattle.branch_shapes.specs.ExtendedWays.{number_after}
use Rattle.task_stops.specs.TakenBalls.{taken_over, LeadsToTaken}

-- the catcher was put behind the text, then a copy of the ball with new variables
pub record IsAsked (st0 st2 st4 : StoreView) (catcher ball : Term) (takes : ℕ) (cv pv : BindingCell) : Type 0 where
  pub valid : IsValidStore st2
  pub first : AddsText (over_floor st0) st2
  pub there : IsValueIn st2 cv
  pub term : value_term st2 cv ≡ catcher
  pub takes_is : takes ≡ copy_takes ball
  pub second : AddsText (with_numbers takes st2) st4
  pub copy : value_term st4 pv ≡ copied ball st2.now.next

module _ (st0 st2 st4 : StoreView) (catcher ball : Term) (takes : ℕ) (cv pv : BindingCell) (q : IsAsked st0 st2 st4 catcher ball takes cv pv) where
  abbrev m : Moment
  m = st0.now

  bound_same : substitution st4 ≡ m.bound
  bound_same = q.second.bound ∙ q.first.bound

  raised : IsValueIn (with_numbers takes st2) cv
  raised = value_raised (text_in st2) st2.now.next (st2.now.next + takes) cv (omega arith) q.there

  pub still_there : IsValueIn st4 cv
  still_there = (q.second.values cv raised).0

  catcher_means : meaning st4 cv ≡ resolve m.bound catcher
  catcher_means = ap₂ resolve bound_same ((q.second.values cv raised).1 ∙ q.term)

  copy_means : meaning st4 pv ≡ copied ball m.next
  copy_means = ap₂ resolve q.second.bound q.copy ∙ (copy_unbound (substitution st2) ball st2.now.next q.valid.new ∙ ap (copied ball) q.first.next)

  asked_is : taken_over m catcher ball ≡ unifier ((meaning st4 cv, meaning st4 pv) ∷ [])
  asked_is = ap₂ (λ t u. unifier ((t, u) ∷ [])) (sym catcher_means) (sym copy_means)

  pub not_taken : IsUnified cv pv st4 st4 false → taken_over m catcher ball ≡ None
  not_taken h = asked_is ∙ h

  module _ (st5 : StoreView) (u : AreUnified cv pv st4 st5) (segment : Segment) (base : segment.base ≡ st2.now.next) (vars : segment.vars ≡ takes) (written : AreWrittenOverFloor st5 segment.bindings) where
    floor_is : st5.floor ≡ m
    floor_is = ap (λ (st : StoreView). st.floor) u.binds.others ∙ (q.second.floor ∙ q.first.floor)

    next_is : st5.now.next ≡ number_after segment
    next_is =
        ap (λ (st : StoreView). st.now.next) u.binds.others
        ∙ (q.second.next ∙ (let a = base in let b = vars in let e : st2.now.next + takes ≡ segment.base + segment.vars = omega (arith, a, b) in e))

    pub taken : LeadsToTaken m catcher ball segment
    taken = record {
      unifier = u.further;
      takes = asked_is ∙ u.unified;
      after = substitution st5;
      composed = subst (λ s. IsComposition s u.further (substitution st5)) bound_same u.binds.bound;
      leads = record {
        numbers = let a = base in let b = q.first.next in omega (arith, a, b);
        extends =
            subst (λ n. ExtendsBy m.bound (substitution st5) n (map (λ b. (b.var, b.value)) segment.bindings)) next_is
            (subst (λ (x : Moment). ExtendsBy x.bound (substitution st5) st5.now.next (map (λ b. (b.var, b.value)) segment.bindings)) floor_is written);
      };
      base = base ∙ q.first.next;
      numbers = let a = base in let b = vars in let c = q.first.next in let d = q.takes_is in omega (arith, a, b, c, d);
    }
