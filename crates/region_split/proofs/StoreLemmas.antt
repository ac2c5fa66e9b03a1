-- A region whose store goes on.
use Rattle.std.proofs.Common.{◌≡◌, ℕ, ◌+◌, List, [], ◌∷◌, length, map, refl, sym, ap, ap₂, ◌∙◌, subst, arith}
use Rattle.au_model.specs.Terms.Each.{Each}
use Rattle.au_model.specs.Terms.Named.{NamedTerm}
use Rattle.au_model.specs.Terms.Substitutions.{Substitution, resolve}
use Rattle.run_model.specs.Machine.Items.{Item, Continuation, resolve_continuation, with_next}
use Rattle.run_model.specs.Machine.Entries.{PlainEntry, FindallEntry, CatchEntry, solution_entries}
use Rattle.clause_compile.specs.Places.{CodeView, Keeps}
use Rattle.cell_store.specs.StoreView.{Moment, StoreView, AddsText, over_floor, text_in, with_numbers}
use Rattle.cell_store.proofs.SubstitutionLemmas.{value_kept}
use Rattle.clause_index.specs.Cursors.{numbers_left}
use Rattle.region_split.specs.Candidates.{entries_of_clauses}
use Rattle.region_split.specs.Frames.{AreLeftScoped, left_items, item_in}
use Rattle.region_split.specs.ChoicePoints.{RegionSetting, Standing, code_at, continuation_at, alternative_entries, choice_entries, standing_over, nothing_standing, with_entries_on_top, by_height, AreAlternativesAt, AreChoicesOver}
use Rattle.region_split.specs.Regions.{RegionView, region_setting, left_here, heights_of, continuation_here, standing, IsConsistentRegion, IsPositionOver}
use Rattle.region_split.specs.StackOperations.{KeepsPositions, StaysStanding}
use Rattle.region_split.specs.declared.choice.Alternatives.{Alternatives}
use Rattle.region_split.specs.declared.choice.Alternatives.TheVariants.{Clauses, Solutions, Elsewhere, Catch, Findall, QueryEnd}
use Rattle.region_split.specs.declared.choice.ChoicePoint.{ChoicePoint}
use Rattle.region_split.specs.declared.frame.Position.{Position}
use Rattle.au_model.proofs.EachLemmas.{each-more}
use Rattle.region_split.specs.Solutions.{IsSolutionAt}
use Rattle.region_split.proofs.SolutionLemmas.{solution_there, solutions_same}
use Rattle.region_split.proofs.ScopeLemmas.{scoped_further, scoped_kept, items_kept}
use Rattle.region_split.proofs.StandingLemmas.{choices_named}

pub stays_further : (r : RegionView) (n : ℕ) → StaysStanding r (record r { store = with_numbers n r.store })
stays_further r n = record {
  stands = λ named. refl;
  position = λ cut p i. record { frame = i.frame; scoped = scoped_further (text_in r.store) r.store.now.next (r.store.now.next + n) cut (left_here r p) (omega arith) i.scoped; marked = i.marked };
  marks = refl;
  floor = refl;
  others = refl;
}

pub stays_same : (r : RegionView) → StaysStanding r r
stays_same r = record { stands = λ named. refl; position = λ cut p i. i; marks = refl; floor = refl; others = refl }

-- the state of the store becomes its floor
pub floored_region : (r : RegionView) → r.choices ≡ [] → r.store.marks ≡ [] → IsConsistentRegion r → IsConsistentRegion (record r { store = over_floor r.store })
floored_region r none unmarked k = record { program = k.program; choices = rw none (rw unmarked tt); frames = k.frames; older = k.older; marked = k.marked; ends = k.ends }

pub none_of_them : (ms : List Moment) → length ms ≡ 0 → ms ≡ []
none_of_them [] e = refl
none_of_them (m ∷ ms) e = absurd (omega (arith, e))

-- what is left at a position stays where text was added
pub goes_on_there : (r new : RegionView) → AddsText r.store new.store → StaysStanding r new → (cut : ℕ) (p : Position) → IsPositionOver r cut p → (named : List NamedTerm) → continuation_here named new p ≡ continuation_here named r p
goes_on_there r new adds stays cut p i named =
    let by : List ℕ → Substitution → ℕ → List (Item ℕ) → Continuation ℕ = λ hs s n items. resolve_continuation s (record { items = map (by_height hs) items; named = named; next = n }) in
    let items = map (item_in (text_in r.store)) (left_here r p) in
    ap (λ left. by (heights_of named new) new.store.now.bound new.store.now.next (map (item_in (text_in new.store)) left)) (ap (λ (x : RegionView). left_here x p) stays.others)
    ∙ (ap (by (heights_of named new) new.store.now.bound new.store.now.next) (items_kept (text_in r.store) (text_in new.store) r.store.now.next cut (left_here r p) adds.keeps i.scoped)
    ∙ (ap (λ (st : Standing). by st.heights new.store.now.bound new.store.now.next items) (stays.stands named)
    ∙ ap₂ (λ s n. by (heights_of named r) s n items) adds.bound adds.next))

-- with further names
abbrev with_text : CodeView → List (List ℕ) → RegionSetting → RegionSetting
with_text program names s = record s { program = program; names = names }

module _ (program : CodeView) (names : List (List ℕ)) (s : RegionSetting) where
  abbrev now : RegionSetting
  now = with_text program names s

  abbrev IsKept : Moment → Type 0
  IsKept m = Keeps (code_at s m) (code_at now m)

  kept_values : (m : Moment) (a : Alternatives) → IsKept m → AreAlternativesAt s m a → AreAlternativesAt now m a
  kept_values m (Clauses goal clause left) k v = ((value_kept (code_at s m) (code_at now m) m.next goal k v.0).0, v.1, v.2)
  kept_values m (Solutions left) k v = each-more (IsSolutionAt (code_at s m) m.next) (IsSolutionAt (code_at now m) m.next) (λ solution there. solution_there (code_at s m) (code_at now m) m.next k solution there) left v
  kept_values m Elsewhere k v = tt
  kept_values m (Catch catcher recovery) k v = ((value_kept (code_at s m) (code_at now m) m.next catcher k v.0).0, (value_kept (code_at s m) (code_at now m) m.next recovery k v.1).0)
  kept_values m (Findall list results) k v = ((value_kept (code_at s m) (code_at now m) m.next list k v.0).0, v.1)
  kept_values m QueryEnd k v = v

  kept_alternatives : (m : Moment) (h : ℕ) (f : Continuation ℕ) (a : Alternatives) → IsKept m → AreAlternativesAt s m a → alternative_entries now m h f a ≡ alternative_entries s m h f a
  kept_alternatives m h f (Clauses goal clause left) k v = ap (λ t. entries_of_clauses s.text (resolve m.bound t) m.next h f (clause ∷ numbers_left s.text.heads left)) (value_kept (code_at s m) (code_at now m) m.next goal k v.0).1
  kept_alternatives m h f (Solutions left) k v = ap (solution_entries h f) (solutions_same (code_at s m) (code_at now m) m.next k m.bound left v)
  kept_alternatives m h f Elsewhere k v = refl
  kept_alternatives m h f (Catch catcher recovery) k v =
      ap₂ (λ t u. CatchEntry (resolve m.bound t) (resolve m.bound u) f ∷ []) (value_kept (code_at s m) (code_at now m) m.next catcher k v.0).1 (value_kept (code_at s m) (code_at now m) m.next recovery k v.1).1
  kept_alternatives m h f (Findall list results) k v = ap (λ t. FindallEntry results.terms (resolve m.bound t) (with_next results.next f) ∷ []) (value_kept (code_at s m) (code_at now m) m.next list k v.0).1
  kept_alternatives m h f QueryEnd k v = refl

  kept_continuation : (hs : List ℕ) (m : Moment) (cut : ℕ) (p : Position) → IsKept m → AreLeftScoped (code_at s m) m.next cut (left_items s.text.bodies s.frames p) → continuation_at now hs m p ≡ continuation_at s hs m p
  kept_continuation hs m cut p k scoped =
      ap (λ items. resolve_continuation m.bound (record { items = map (by_height hs) items; named = s.named; next = m.next })) (items_kept (code_at s m) (code_at now m) m.next cut (left_items s.text.bodies s.frames p) k scoped)

  pub kept_choices : (cut frames : ℕ) (cs : List ChoicePoint) (ms : List Moment) → Each IsKept ms → AreChoicesOver s cut frames cs ms → AreChoicesOver now cut frames cs ms
  kept_choices cut frames [] [] ks k = tt
  kept_choices cut frames [] (m ∷ ms) ks k = absurd k
  kept_choices cut frames (c ∷ cs) [] ks k = absurd k
  kept_choices cut frames (c ∷ cs) (m ∷ ms) ks k =
      (record { own = k.0.own; older = k.0.older; scoped = scoped_kept (code_at s m) (code_at now m) m.next cut (left_items s.text.bodies s.frames c.after) ks.0 k.0.scoped; values = kept_values m c.alternatives ks.0 k.0.values }, kept_choices (cut + 1) c.frames cs ms ks.1 k.1)

  pub kept_standing : (cut frames : ℕ) (below : Standing) (cs : List ChoicePoint) (ms : List Moment) → Each IsKept ms → AreChoicesOver s cut frames cs ms → standing_over now below cs ms ≡ standing_over s below cs ms
  kept_standing cut frames below [] ms ks k = refl
  kept_standing cut frames below (c ∷ cs) [] ks k = refl
  kept_standing cut frames below (c ∷ cs) (m ∷ ms) ks k =
      let h = length below.entries in
      let own : choice_entries now below c m ≡ choice_entries s below c m =
      kept_alternatives m h (continuation_at now below.heights m c.after) c.alternatives ks.0 k.0.values
      ∙ ap (λ f. alternative_entries s m h f c.alternatives) (kept_continuation below.heights m cut c.after ks.0 k.0.scoped) in
      ap (λ es. standing_over now (with_entries_on_top es below) cs ms) own ∙ kept_standing (cut + 1) c.frames (with_entries_on_top (choice_entries s below c m) below) cs ms ks.1 k.1

-- terms are made behind the text
module _ (r : RegionView) (k : IsConsistentRegion r) (new : StoreView) (adds : AddsText r.store new) where
  abbrev added : RegionView
  added = record r { store = new }

  kept_marks : Each (IsKept new.program new.names (region_setting [] r)) r.store.marks
  kept_marks = adds.at_marks

  abbrev at_floor : List NamedTerm → Moment → RegionSetting
  at_floor named f = record (region_setting named added) { floor = f }

  pub added_region : IsConsistentRegion added
  added_region = record {
    program = adds.program ∙ k.program;
    choices = subst (λ f. AreChoicesOver (at_floor [] f) 0 0 r.choices new.marks) (sym adds.floor)
        (subst (AreChoicesOver (at_floor [] r.store.floor) 0 0 r.choices) (sym adds.marks) (kept_choices new.program new.names (region_setting [] r) 0 0 r.choices r.store.marks kept_marks k.choices));
    frames = k.frames;
    older = k.older;
    marked = k.marked;
    ends = k.ends;
  }

  stands : (named : List NamedTerm) → standing named added ≡ standing named r
  stands named =
      ap (λ f. standing_over (at_floor named f) nothing_standing r.choices new.marks) adds.floor
      ∙ ap (λ ms. standing_over (at_floor named r.store.floor) nothing_standing r.choices ms) adds.marks
      ∙ kept_standing new.program new.names (region_setting named r) 0 0 nothing_standing r.choices r.store.marks kept_marks (choices_named (region_setting [] r) named 0 0 r.choices r.store.marks k.choices)

  position : (cut : ℕ) (p : Position) → IsPositionOver r cut p → IsPositionOver added cut p
  position cut p i = record {
    frame = i.frame;
    scoped = subst (λ n. AreLeftScoped (text_in new) n cut (left_here r p)) (sym adds.next) (scoped_kept (text_in r.store) (text_in new) r.store.now.next cut (left_here r p) adds.keeps i.scoped);
    marked = i.marked;
  }

  pub text_added : StaysStanding r added
  text_added = record { stands = stands; position = position; marks = adds.marks; floor = adds.floor; others = refl }

  pub positions_kept : KeepsPositions r added (length r.frames)
  positions_kept = record {
    position = λ cut p le i. position cut p i;
    same = λ named p le i. ap PlainEntry (goes_on_there r added adds text_added (length r.choices) p i named);
  }
