-- A run that ends on its tree.
use Rattle.std.proofs.Common.{◌≡◌, ◌≢◌, inl, inr, ℕ, ◌≤◌, List, [], ◌∷◌, Option, Some, None, length, drop, refl, sym, ap, ◌∙◌, subst, append-nil}
use Rattle.au_io.specs.FaultCounts.{Appended, AppendedPrefix}
use Rattle.run_model.specs.declared.ending.RunEnding.{RunEnding}
use Rattle.run_model.specs.declared.ending.RunEnding.TheVariants.{Finished, Halted, Budget, WriteFault, NoMemory}
use Rattle.run_model.specs.declared.ending.RunEnd.{RunEnd}
use Rattle.run_model.specs.Laws.RunLaws.{IsPrefixOf}
use Rattle.run_model.specs.Machine.Entries.{Entry}
use Rattle.run_model.specs.Machine.Runs.{seq, text_of, ending_by, ending_of}
use Rattle.run_model.specs.Programs.Jobs.{Job}
use Rattle.stack_run.specs.RunEnds.{IsRun, IsRunBy, IsWholeRun}
use Rattle.tree_core.specs.Histories.{History, state_of}
use Rattle.tree_core.specs.KeptPromises.{KeepsPromises}
use Rattle.scheduler.specs.Endings.{IsEndOf, ClosesFrom, cut_short_by}
use Rattle.scheduler.specs.Pieces.{HasPutOut, PutsOn}
use Rattle.scheduler.proofs.PieceLemmas.{all_put, front_put, puts_on}

-- no run ends by the outside
pub not_outside : (job : Job) (budget : ℕ) → (ending_of job budget ≢ WriteFault) × (ending_of job budget ≢ NoMemory)
not_outside job budget = by_left (seq job budget).entries (seq job budget).halted
  where
    by_left : (es : List Entry) (o : Option ℕ) → (ending_by es o ≢ WriteFault) × (ending_by es o ≢ NoMemory)
    by_left [] None = ((λ e. cc), (λ e. cc))
    by_left [] (Some k) = ((λ e. cc), (λ e. cc))
    by_left (x ∷ es) o = ((λ e. cc), (λ e. cc))

whole_by : (end : RunEnding) (job : Job) (budget : ℕ) (before after : Option (List ℕ)) (r : RunEnd) → end ≢ WriteFault → end ≢ NoMemory
    → IsWholeRun job budget before after r → IsRunBy end job budget before after r
whole_by Finished job budget before after r w m h = h
whole_by (Halted k) job budget before after r w m h = h
whole_by Budget job budget before after r w m h = h
whole_by WriteFault job budget before after r w m h = absurd (w refl)
whole_by NoMemory job budget before after r w m h = absurd (m refl)

-- all was put out
whole_run : (h : History) (r : RunEnd) (before after : Option (List ℕ)) → IsEndOf h r → Appended before after (text_of h.job h.budget) → IsRun h.job h.budget before after r
whole_run h r before after is out =
    let outside = not_outside h.job h.budget in
    whole_by r.end h.job h.budget before after r (λ e. outside.0 (sym is.ending ∙ e)) (λ e. outside.1 (sym is.ending ∙ e))
    (record { ended = is.ending; bytes = out; answers = is.answers; inferences = is.inferences })

-- it was cut short
pub cut_by_fault : (job : Job) (budget : ℕ) (before after : Option (List ℕ)) → AppendedPrefix before after (text_of job budget) → IsRun job budget before after (cut_short_by WriteFault)
cut_by_fault job budget before after out = record { bytes = out; answers = refl; inferences = refl }

pub cut_by_memory : (job : Job) (budget : ℕ) (before after : Option (List ℕ)) → AppendedPrefix before after (text_of job budget) → IsRun job budget before after (cut_short_by NoMemory)
cut_by_memory job budget before after out = record { bytes = out; answers = refl; inferences = refl }

-- what has been put out so far is a front
pub so_far : (text : List ℕ) (put : ℕ) (before now : Option (List ℕ)) → HasPutOut text put before now → AppendedPrefix before now text
so_far text put None now h = tt
so_far text put (Some old) now h = (put, h.front)

pub nothing_yet : (text : List ℕ) (o : Option (List ℕ)) → AppendedPrefix o o text
nothing_yet text None = tt
nothing_yet text (Some old) = (0, ap Some (sym (append-nil old)))

-- the rest is put out at the end
pub closes_run : (h : History) (put : ℕ) (before now after : Option (List ℕ)) (end r : RunEnd) (written : List ℕ) → IsEndOf h end → written ≡ text_of h.job h.budget
    → HasPutOut (text_of h.job h.budget) put before now → ClosesFrom written put now after end r → IsRun h.job h.budget before after r
closes_run h put before now after end r written is whole out (inl c) =
    subst (IsRun h.job h.budget before after) (sym c.0)
    (whole_run h end before after is
    (all_put (text_of h.job h.budget) put c.1.0 before now after out (subst (λ (bytes : List ℕ). PutsOn bytes put 1 c.1.0 now after) whole c.1.1)))
closes_run h put before now after end r written is whole out (inr c) =
    subst (IsRun h.job h.budget before after) (sym c.0)
    (cut_by_fault h.job h.budget before after
    (front_put (text_of h.job h.budget) written (record { rest = []; joined = sym whole ∙ sym (append-nil written) }) put before now out after c.1 c.2))

-- the same of a tree of this job, within this budget
pub closes_at : (job : Job) (budget : ℕ) (h : History) (put : ℕ) (before now after : Option (List ℕ)) (end r : RunEnd) (written : List ℕ) → h.job ≡ job → h.budget ≡ budget
    → IsEndOf h end → written ≡ (state_of h).world.written → HasPutOut (text_of job budget) put before now → ClosesFrom written put now after end r → IsRun job budget before after r
closes_at job budget h put before now after end r written e f is all out closes =
    subst (λ (j : Job). HasPutOut (text_of j budget) put before now → IsRun j budget before after r) e
    (subst (λ (b : ℕ). HasPutOut (text_of h.job b) put before now → IsRun h.job b before after r) f
    (λ o. closes_run h put before now after end r written is (all ∙ is.text) o closes)) out

-- what a tree of this job has written is a front of its text
front_at : (job : Job) (budget : ℕ) (h : History) (written : List ℕ) → h.job ≡ job → h.budget ≡ budget → KeepsPromises h → written ≡ (state_of h).world.written
    → IsPrefixOf written (text_of job budget)
front_at job budget h written e f keeps all =
    subst (λ (j : Job). IsPrefixOf written (text_of j budget)) e
    (subst (λ (b : ℕ). IsPrefixOf written (text_of h.job b)) f
    (subst (λ (bytes : List ℕ). IsPrefixOf bytes (text_of h.job h.budget)) (sym all) keeps.prefix.text))

pub puts_on_at : (job : Job) (budget : ℕ) (h : History) (written : List ℕ) → h.job ≡ job → h.budget ≡ budget → KeepsPromises h → written ≡ (state_of h).world.written
    → (put least next : ℕ) (before now after : Option (List ℕ)) → HasPutOut (text_of job budget) put before now → PutsOn written put least next now after
    → HasPutOut (text_of job budget) next before after
puts_on_at job budget h written e f keeps all put least next before now after out puts =
    puts_on (text_of job budget) written (front_at job budget h written e f keeps all) put before now out least next after puts

pub fails_at : (job : Job) (budget : ℕ) (h : History) (written : List ℕ) → h.job ≡ job → h.budget ≡ budget → KeepsPromises h → written ≡ (state_of h).world.written
    → (put : ℕ) (before now after : Option (List ℕ)) → HasPutOut (text_of job budget) put before now → put ≤ length written → AppendedPrefix now after (drop put written)
    → IsRun job budget before after (cut_short_by WriteFault)
fails_at job budget h written e f keeps all put before now after out le a =
    cut_by_fault job budget before after (front_put (text_of job budget) written (front_at job budget h written e f keeps all) put before now out after le a)
