-- The ending by that of the load and of the run.
use Rattle.std.proofs.Common.{◌≡◌, ◌∙◌, ◌⊎◌, inl, inr, ℕ, ◌<◌, List, length, Option, Some, None, Result, Ok, Err, refl, sym, ap, subst, arith}
use Rattle.std.specs.Prelude.{IfOk, IfErr, IfSome}
use Rattle.std.proofs.lemmas.List.{take_all}
use Rattle.std.specs.Result.{IsErrOf}
use Rattle.run_model.specs.declared.ending.Ending.{Ending}
use Rattle.run_model.specs.declared.ending.Ending.TheVariants.{Finished as ItFinished, Halted as ItHalted, Budget as ItsBudget, Refused, TooLong, Usage, ReadFault, WriteFault as ItsWriteFault, NoMemory as ItsMemory}
use Rattle.run_model.specs.declared.ending.RunEnding.{RunEnding}
use Rattle.run_model.specs.declared.ending.RunEnding.TheVariants.{Finished, Halted, Budget, WriteFault, NoMemory}
use Rattle.run_model.specs.declared.ending.RunEnd.{RunEnd}
use Rattle.au_model.specs.declared.types.FaultKind.{FaultKind}
use Rattle.std.specs.Str.{chars, IsUtf8, IsValidUpTo}
use Rattle.run_model.specs.Programs.Jobs.{Job}
use Rattle.text_load.specs.LoadedTexts.{first_loading}
use Rattle.text_load.proofs.UniqueLoadLemmas.{one_job, no_fault}
use Rattle.run_model.specs.Machine.Runs.{ending_of}
use Rattle.stack_run.specs.RunEnds.{IsRun, IsRunBy}
use Rattle.toplevel.specs.Library.{library_text}
use Rattle.aurora_cli.specs.ProgramTexts.{StandsFor, IsRefusedText, no_text, text_fault}
use Rattle.aurora_cli.specs.Endings.{IsTextRead, IsJobLoaded, EndsBy, IsComplete, ending_after}
use Rattle.aurora_cli.specs.LoadFaults.{IsLoadFault, IsTextFault}

pub load_fault : (r : Result Job Ending) (held : Option (List ℕ)) (bytes text : List ℕ) → bytes ≡ text → IsTextRead held text → IfErr r (IsTextFault bytes) → IfErr r (IsLoadFault held)
load_fault (Ok job) held bytes text e k h = tt
load_fault (Err (Refused line column kind)) held bytes text e k h = record { text = text; read = k; refused = subst (λ (b : List ℕ). IsRefusedText b line column kind) e h }
load_fault (Err ItsMemory) held bytes text e k h = tt
load_fault (Err TooLong) held bytes text e k h = absurd h
load_fault (Err ReadFault) held bytes text e k h = absurd h
load_fault (Err ItFinished) held bytes text e k h = absurd h
load_fault (Err (ItHalted n)) held bytes text e k h = absurd h
load_fault (Err ItsBudget) held bytes text e k h = absurd h
load_fault (Err (Usage n)) held bytes text e k h = absurd h
load_fault (Err ItsWriteFault) held bytes text e k h = absurd h

pub loaded_job : (r : Result Job Ending) (held : Option (List ℕ)) (bytes text : List ℕ) → bytes ≡ text → IsTextRead held text → IfOk r (λ job. StandsFor bytes job) → IfOk r (IsJobLoaded held)
loaded_job (Ok job) held bytes text e k h = record { text = text; read = k; stands = subst (λ (b : List ℕ). StandsFor b job) e h }
loaded_job (Err x) held bytes text e k h = tt

pub no_valid : (bytes : List ℕ) (n : ℕ) → IsValidUpTo bytes n → IsUtf8 bytes → ⊥
no_valid bytes n v u = v.longest (length bytes) v.short (subst IsUtf8 (sym (take_all (length bytes) bytes (omega arith))) u)

stands_alone : (bytes : List ℕ) (job other : Job) → StandsFor bytes job → StandsFor bytes other → job ≡ other
stands_alone bytes job other h k = one_job library_text (chars bytes) job other h.loads k.loads

pub not_both : (bytes : List ℕ) (job : Job) (line column : ℕ) (kind : FaultKind) → StandsFor bytes job → IsRefusedText bytes line column kind → ⊥
not_both bytes job line column kind h (no_text v) = no_valid bytes _ v h.utf8
not_both bytes job line column kind h (text_fault utf8 r) = no_fault first_loading h.loads.own (chars bytes) r.from kind h.loads.text_is r.fault

module _ (held : Option (List ℕ)) (job : Job) (budget : ℕ) (before ending_of_run : Option (List ℕ)) (r : RunEnd) (loaded : IsJobLoaded held job) where
  by_end : (end : RunEnding) → r.end ≡ end → IsRunBy end job budget before ending_of_run r → EndsBy (ending_after end) held budget before ending_of_run
  by_end Finished q w = record { job = job; loaded = loaded; ends = ap ending_after (sym q ∙ w.ended); bytes = w.bytes }
  by_end (Halted k) q w = record { job = job; loaded = loaded; ends = ap ending_after (sym q ∙ w.ended); bytes = w.bytes }
  by_end Budget q w = record { job = job; loaded = loaded; ends = ap ending_after (sym q ∙ w.ended); bytes = w.bytes }
  by_end WriteFault q w = record { job = job; loaded = loaded; bytes = w.bytes }
  by_end NoMemory q w = inr (record { job = job; loaded = loaded; bytes = w.bytes })

  pub ran : (e : Ending) → IsRun job budget before ending_of_run r → e ≡ ending_after r.end → EndsBy e held budget before ending_of_run
  ran e run is = subst (λ k. EndsBy k held budget before ending_of_run) (sym is) (by_end r.end refl run)

  whole_by : (j : Job) → job ≡ j → (end : RunEnding) → r.end ≡ end → IsRunBy end job budget before ending_of_run r → (end ≡ WriteFault → ⊥)
      → (ending_after end ≡ ending_after (ending_of j budget)) ⊎ (ending_after end ≡ ItsMemory)
  whole_by j same Finished q w n = inl (ap ending_after (sym q ∙ (w.ended ∙ ap (λ k. ending_of k budget) same)))
  whole_by j same (Halted k) q w n = inl (ap ending_after (sym q ∙ (w.ended ∙ ap (λ k. ending_of k budget) same)))
  whole_by j same Budget q w n = inl (ap ending_after (sym q ∙ (w.ended ∙ ap (λ k. ending_of k budget) same)))
  whole_by j same WriteFault q w n = absurd (n refl)
  whole_by j same NoMemory q w n = inr refl

pub complete_run : (held : Option (List ℕ)) (job : Job) (budget : ℕ) (before ending_of_run : Option (List ℕ)) (r : RunEnd) (e : Ending) → IsJobLoaded held job → IsRun job budget before ending_of_run r → e ≡ ending_after r.end
    → (r.end ≡ WriteFault → ⊥) → IfSome held (IsComplete e budget)
complete_run None job budget before ending_of_run r e loaded run is n = tt
complete_run (Some told) job budget before ending_of_run r e loaded run is n = λ j short s.
    let same = stands_alone told job j (subst (λ t. StandsFor t job) loaded.read loaded.stands) s in
    subst (λ k. (k ≡ ending_after (ending_of j budget)) ⊎ (k ≡ ItsMemory)) (sym is) (whole_by (Some told) job budget before ending_of_run r loaded j same r.end refl run n)

fault_by : (told : List ℕ) (e : Ending) (budget : ℕ) → IsLoadFault (Some told) e → (e ≡ ReadFault → ⊥) → (e ≡ TooLong → 16777216 < length told) → IsComplete e budget told
fault_by told (Refused line column kind) budget f r l = λ j short s. absurd (not_both told j line column kind s (subst (λ (t : List ℕ). IsRefusedText t line column kind) f.read f.refused))
fault_by told TooLong budget f r l = λ j short s. absurd (let long = l refl in omega (arith, long, short))
fault_by told ReadFault budget f r l = absurd (r refl)
fault_by told ItsMemory budget f r l = λ j short s. inr refl
fault_by told ItFinished budget f r l = absurd f
fault_by told (ItHalted k) budget f r l = absurd f
fault_by told ItsBudget budget f r l = absurd f
fault_by told (Usage k) budget f r l = absurd f
fault_by told ItsWriteFault budget f r l = absurd f

pub complete_fault : (held : Option (List ℕ)) (e : Ending) (budget : ℕ) → IsLoadFault held e → (IsErrOf {T = Job} (Err e) ReadFault → ⊥) → (IsErrOf {T = Job} (Err e) TooLong → IfSome held (λ told. 16777216 < length told)) → IfSome held (IsComplete e budget)
complete_fault None e budget f r l = tt
complete_fault (Some told) e budget f r l = fault_by told e budget f (λ q. r (ap (λ x. Err x) q)) (λ q. l (ap (λ x. Err x) q))
