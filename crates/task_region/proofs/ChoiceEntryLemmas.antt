-- What choice points stand for, by their kinds.
use Rattle.std.proofs.Common.{◌≡◌, ℕ, List, [], ◌∷◌, Option, Some, None, refl, subst}
use Rattle.au_term.specs.Term.{Term}
use Rattle.au_model.specs.Terms.Each.{Each}
use Rattle.au_model.specs.Terms.Named.{NamedTerm}
use Rattle.au_model.specs.Terms.Substitutions.{Substitution}
use Rattle.au_model.specs.Terms.Unifier.{unifier}
use Rattle.au_model.proofs.EachLemmas.{each-append}
use Rattle.run_model.specs.Goals.Outcomes.{Solution}
use Rattle.run_model.specs.Machine.Items.{Continuation, with_next, before, goals_at, removing}
use Rattle.run_model.specs.Machine.Entries.{Entry, PlainEntry, CatchEntry, FindallEntry, EndEntry, unified, solution_entry, solution_entries}
use Rattle.cell_store.specs.StoreView.{Moment}
use Rattle.region_split.specs.ChoicePoints.{RegionSetting, Standing, nothing_standing, alternative_entries, choice_entries, with_entries_on_top, standing_over}
use Rattle.region_split.specs.QueryEnds.{IsEnd}
use Rattle.region_split.specs.Regions.{RegionView, region_setting, entries_of}
use Rattle.region_split.specs.declared.choice.Alternatives.{Alternatives}
use Rattle.region_split.specs.declared.choice.Alternatives.TheVariants.{Clauses, Solutions, Elsewhere, Catch, Findall, QueryEnd}
use Rattle.region_split.specs.declared.choice.ChoicePoint.{ChoicePoint}

-- no end
abbrev pub IsNoEndEntry : Entry → Type 0
IsNoEndEntry (PlainEntry f) = Unit {0}
IsNoEndEntry (CatchEntry c r f) = Unit {0}
IsNoEndEntry (FindallEntry results l f) = Unit {0}
IsNoEndEntry (EndEntry b) = ⊥

-- no end with a ball
abbrev pub HasNoBall : Entry → Type 0
HasNoBall (PlainEntry f) = Unit {0}
HasNoBall (CatchEntry c r f) = Unit {0}
HasNoBall (FindallEntry results l f) = Unit {0}
HasNoBall (EndEntry None) = Unit {0}
HasNoBall (EndEntry (Some b)) = ⊥

module _ (P : Entry → Type 0) (plain : (f : Continuation ℕ) → P (PlainEntry f)) where
  unified_each : (o : Option Substitution) (f : Continuation ℕ) → Each P (unified o f)
  unified_each None f = tt
  unified_each (Some s) f = (plain _, tt)

  solutions_each : (h : ℕ) (f : Continuation ℕ) (ss : List Solution) → Each P (solution_entries h f ss)
  solutions_each h f [] = tt
  solutions_each h f (s ∷ ss) =
      each-append P (solution_entry h f s) (solution_entries h f ss)
      (unified_each (unifier s.equations) (with_next _ (before (goals_at h s.goals) (removing s.removes f)))) (solutions_each h f ss)

pub alternatives_no_end : (s : RegionSetting) (m : Moment) (h : ℕ) (f : Continuation ℕ) (a : Alternatives) → (IsEnd a → ⊥) → Each IsNoEndEntry (alternative_entries s m h f a)
alternatives_no_end s m h f (Clauses goal clause left) n = solutions_each IsNoEndEntry (λ g. tt) h f _
alternatives_no_end s m h f (Solutions left) n = solutions_each IsNoEndEntry (λ g. tt) h f _
alternatives_no_end s m h f Elsewhere n = (tt, tt)
alternatives_no_end s m h f (Catch catcher recovery) n = (tt, tt)
alternatives_no_end s m h f (Findall list results) n = (tt, tt)
alternatives_no_end s m h f QueryEnd n = absurd (n tt)

pub end_is : (s : RegionSetting) (m : Moment) (h : ℕ) (f : Continuation ℕ) (a : Alternatives) → IsEnd a → alternative_entries s m h f a ≡ EndEntry None ∷ []
end_is s m h f (Clauses goal clause left) e = absurd e
end_is s m h f (Solutions left) e = absurd e
end_is s m h f Elsewhere e = absurd e
end_is s m h f (Catch catcher recovery) e = absurd e
end_is s m h f (Findall list results) e = absurd e
end_is s m h f QueryEnd e = refl

alternatives_no_ball : (s : RegionSetting) (m : Moment) (h : ℕ) (f : Continuation ℕ) (a : Alternatives) → Each HasNoBall (alternative_entries s m h f a)
alternatives_no_ball s m h f (Clauses goal clause left) = solutions_each HasNoBall (λ g. tt) h f _
alternatives_no_ball s m h f (Solutions left) = solutions_each HasNoBall (λ g. tt) h f _
alternatives_no_ball s m h f Elsewhere = (tt, tt)
alternatives_no_ball s m h f (Catch catcher recovery) = (tt, tt)
alternatives_no_ball s m h f (Findall list results) = (tt, tt)
alternatives_no_ball s m h f QueryEnd = (tt, tt)

standing_no_ball : (s : RegionSetting) (below : Standing) (cs : List ChoicePoint) (ms : List Moment) → Each HasNoBall below.entries → Each HasNoBall (standing_over s below cs ms).entries
standing_no_ball s below [] ms h = h
standing_no_ball s below (c ∷ cs) [] h = h
standing_no_ball s below (c ∷ cs) (m ∷ ms) h =
    standing_no_ball s (with_entries_on_top (choice_entries s below c m) below) cs ms
    (each-append HasNoBall (choice_entries s below c m) below.entries (alternatives_no_ball s m _ _ c.alternatives) h)

pub no_ball_stands : (named : List NamedTerm) (r : RegionView) (b : Term) (es : List Entry) → entries_of named r ≡ EndEntry (Some b) ∷ es → ⊥
no_ball_stands named r b es e = (subst (Each HasNoBall) e (standing_no_ball (region_setting named r) nothing_standing r.choices r.store.marks tt)).0
