-- The run by names and the run by heights.
use Rattle.std.specs.Prelude.{ℕ, Bool, List, [], ◌∷◌, ◌++◌, map, ◌≡◌, ◌<◌, ◌+◌, Some}
use Rattle.au_model.specs.Terms.Each.{Each}
use Rattle.run_model.specs.Machine.Items.{Continuation}
use Rattle.run_model.specs.Programs.Clauses.{Clause}
use Rattle.run_model.specs.Programs.Jobs.{Job}
use Rattle.run_model.specs.Machine.Runs.{seq}
use Rattle.interleaving.specs.Machine.{Infers, AsksWorld, Put, Seek, gives, placed, is_finished, free_steps, run, Alike}
use Rattle.tree_model.specs.Elements.{Name, Element, Credit, Plain, EndOf}
use Rattle.interleaving.specs.Scopes.{Shared, Scope, ElementReplacement, act, shared, first_shared, opened_elements, scoped}
use Rattle.interleaving.specs.HeightMachine.{height_entries, height_at_rest, height_run}
use Rattle.interleaving.specs.Erased.{element_count, erased}
use Rattle.interleaving.specs.Sound.{IsSound}
use Rattle.interleaving.specs.Segments.{search_in}
use Rattle.interleaving.specs.Views.{IsBlind, IsInner}
use Rattle.interleaving.specs.Quiet.{inferences, records}
use Rattle.interleaving.specs.Laws.{IsSegment, MayBecome}
use Rattle.interleaving.specs.Counted.{counted_steps}

-- after so many inferences the list by names stands for the list by heights, over the same world, and both or neither
-- have ended
pub record SameRun (clauses : List Clause) (xs : List Element) (n : ℕ) (w : Shared) : Type 0 where
  pub erases : (let s = run (scoped clauses) n w (free_steps (scoped clauses) [] xs) in (s.0, erased s.1))
      ≡ height_run clauses n (w, height_at_rest (erased xs))
  pub over : is_finished (run (scoped clauses) n w (free_steps (scoped clauses) [] xs)).1
      ≡ is_finished (height_run clauses n (w, height_at_rest (erased xs))).1

abbrev pub HeightsRun : List Clause → Type 0
HeightsRun clauses = (xs : List Element) → IsSound xs → (n : ℕ) (w : Shared) → SameRun clauses xs n w

-- lists that stand for the same heights run alike, whatever their names
abbrev pub NamesAreFree : List Clause → Type 0
NamesAreFree clauses = (xs ys : List Element) → IsSound xs → IsSound ys → erased xs ≡ erased ys → Alike (scoped clauses) xs ys

-- lists that run alike take the same number of inferences
abbrev pub has_ended : List Clause → Shared → List Element → ℕ → Bool
has_ended clauses w xs n = is_finished (run (scoped clauses) n w (free_steps (scoped clauses) [] xs)).1

abbrev pub AlikeCounts : List Clause → Type 0
AlikeCounts clauses =
    (xs ys : List Element) → Alike (scoped clauses) xs ys → (n : ℕ) (w : Shared) → counted_steps (has_ended clauses w xs) n
    ≡ counted_steps (has_ended clauses w ys) n

-- the list of a job's first query
abbrev pub opening_list : Job → List Element
opening_list job = opened_elements [] job.queries

-- the sequential run by names
pub record IsNamedRun (job : Job) (n : ℕ) : Type 0 where
  pub sound : IsSound (opening_list job)
  pub state : (run (scoped job.clauses) n (first_shared job) (free_steps (scoped job.clauses) [] (opening_list job))).0 ≡ shared (seq job n)
  pub entries : erased (run (scoped job.clauses) n (first_shared job) (free_steps (scoped job.clauses) [] (opening_list job))).1
      ≡ height_entries (seq job n).entries
  pub over : has_ended job.clauses (first_shared job) (opening_list job) n ≡ is_finished (seq job n).entries
  pub inferences : (seq job n).inferences ≡ counted_steps (has_ended job.clauses (first_shared job) (opening_list job)) n

-- a segment may be exchanged for one that is sound where it is
abbrev pub SoundExchange : Type 0
SoundExchange =
    (inside : Name → Bool) (pre a b zs : List Element) → Each (IsBlind inside) pre → Each (IsInner inside) a → Each (IsInner inside) b
    → 0 < element_count a
    → IsSound (pre ++ (a ++ zs)) → IsSound (b ++ zs) → IsSound (pre ++ (b ++ zs))

-- a cut in place leaves sound names, where no record in front of it is for what it drops
abbrev pub SoundCut : List Clause → Type 0
SoundCut clauses =
    (inside : Name → Bool) (p : Name) (f after : Continuation Name) (h : Name) (pre mid zs : List Element)
    → IsSegment inside pre (Plain p f ∷ mid) zs → act clauses (Plain p f) ≡ Infers (Seek (Scope h (Plain p after)))
    → search_in (scoped clauses) (Scope h (Plain p after)) mid ≡ Some (Plain p after ∷ EndOf h ∷ [])
    → IsSound (pre ++ ((Plain p f ∷ mid) ++ zs)) → IsSound (pre ++ ((Credit 1 [] ∷ Plain p after ∷ EndOf h ∷ []) ++ zs))

-- so does a gate after credits alone
abbrev pub SoundGate : List Clause → Type 0
SoundGate clauses =
    (xs : List Element) (x : Element) (g : Shared → Shared × ElementReplacement) (zs : List Element) (w : Shared) → act clauses x
    ≡ AsksWorld g
    → IsSound (xs ++ (x ∷ zs))
    → IsSound (Credit (inferences xs + 1) [] ∷ placed (scoped clauses) (g w).1 (map (gives (scoped clauses) (records xs)) zs))

abbrev pub SoundGateInPlace : List Clause → Type 0
SoundGateInPlace clauses =
    (inside : Name → Bool) (xs : List Element) (x : Element) (g : Shared → Shared × ElementReplacement) (ys zs : List Element) (w : Shared)
    → IsSegment inside xs (x ∷ []) zs → act clauses x ≡ AsksWorld g → (g w).1 ≡ Put ys
    → IsSound (xs ++ (x ∷ zs)) → IsSound (xs ++ (Credit 1 [] ∷ (ys ++ zs)))

-- what a list may become may be named anew
abbrev pub NamedAnew : List Clause → Type 0
NamedAnew clauses = (xs mid ys : List Element) → MayBecome clauses xs mid → IsSound xs → IsSound ys → erased ys ≡ erased mid
    → Alike (scoped clauses) xs ys
