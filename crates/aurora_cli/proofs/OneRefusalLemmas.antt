-- A text that is refused or too long is answered so.
use Rattle.std.proofs.Common.{◌≡◌, inl, inr, ℕ, ◌<◌, ◌≤◌, List, length, take, Option, Some, None, Err, refl, ap, subst, arith}
use Rattle.std.specs.Prelude.{IfSome}
use Rattle.std.specs.Result.{IsErrOf}
use Rattle.std.specs.Str.{chars, IsValidUpTo}
use Rattle.au_model.specs.declared.types.FaultKind.{FaultKind}
use Rattle.au_model.specs.declared.types.FaultKind.TheVariants.{NotUtf8}
use Rattle.au_model.specs.Syntax.TextFaults.{line_after, column_after}
use Rattle.run_model.specs.declared.ending.Ending.{Ending}
use Rattle.run_model.specs.declared.ending.Ending.TheVariants.{Finished, Halted, Budget, Refused, TooLong, Usage, ReadFault, WriteFault, NoMemory}
use Rattle.run_model.specs.Programs.Jobs.{Job}
use Rattle.text_load.proofs.UniqueLoadLemmas.{one_refusal}
use Rattle.aurora_cli.specs.ProgramTexts.{StandsFor, IsRefusedText, no_text, text_fault}
use Rattle.aurora_cli.specs.Endings.{IsJobLoaded, IsRefusedAs, ComesOfText}
use Rattle.aurora_cli.specs.LoadFaults.{IsLoadFault}
use Rattle.aurora_cli.proofs.EndingLemmas.{no_valid, not_both}

-- bytes are text up to one place only
one_place : (bytes : List ℕ) (m n : ℕ) → IsValidUpTo bytes m → IsValidUpTo bytes n → m ≡ n
one_place bytes m n v w =
    let up : m < n → ⊥ = λ lt. v.longest n lt w.front in
    let down : n < m → ⊥ = λ lt. w.longest m lt v.front in
    grind (arith, up, down)

same_refusal : (line column other_line other_column : ℕ) (kind other : FaultKind) → line ≡ other_line → column ≡ other_column → kind ≡ other → Refused line column kind ≡ Refused other_line other_column other
same_refusal line column other_line other_column kind other l c k = cc (l, c, k)

one_refused : (bytes : List ℕ) (line column other_line other_column : ℕ) (kind other : FaultKind) → IsRefusedText bytes line column kind → IsRefusedText bytes other_line other_column other
    → Refused line column kind ≡ Refused other_line other_column other
one_refused bytes line column other_line other_column kind other (no_text {n = m} v) (no_text {n = n} w) =
    ap (λ (k : ℕ). Refused (line_after (chars (take k bytes))) (column_after (chars (take k bytes))) NotUtf8) (one_place bytes m n v w)
one_refused bytes line column other_line other_column kind other (no_text v) (text_fault u r) = absurd (no_valid bytes _ v u)
one_refused bytes line column other_line other_column kind other (text_fault u r) (no_text v) = absurd (no_valid bytes _ v u)
one_refused bytes line column other_line other_column kind other (text_fault u r) (text_fault w s) =
    let same = one_refusal (chars bytes) line column other_line other_column kind other r s in
    same_refusal line column other_line other_column kind other same.0 same.1 same.2

no_refusal : (e : Ending) (told : List ℕ) (job : Job) → StandsFor told job → length told ≤ 16777216 → IsRefusedAs e told
no_refusal e told job stands short = record {
  refused = λ line column kind few r. absurd (not_both told job line column kind stands r);
  too_long = λ long. absurd (omega (arith, long, short));
}

pub refused_run : (held : Option (List ℕ)) (job : Job) (e : Ending) → IsJobLoaded held job → IfSome held (λ told. length told ≤ 16777216) → IfSome held (IsRefusedAs e)
refused_run None job e loaded short = tt
refused_run (Some told) job e loaded short = no_refusal e told job (subst (λ (t : List ℕ). StandsFor t job) loaded.read loaded.stands) short

as_told : (told : List ℕ) (e : Ending) → IsLoadFault (Some told) e → (e ≡ ReadFault → ⊥) → (e ≡ TooLong → 16777216 < length told) → (ComesOfText e → length told ≤ 16777216) → IsRefusedAs e told
as_told told (Refused line column kind) f r l s = record {
  refused = λ other_line other_column other few q. inl (one_refused told line column other_line other_column kind other (subst (λ (t : List ℕ). IsRefusedText t line column kind) f.read f.refused) q);
  too_long = λ long. absurd (let short = s tt in omega (arith, long, short));
}
as_told told TooLong f r l s = record {
  refused = λ line column kind few q. absurd (let long = l refl in omega (arith, long, few));
  too_long = λ long. inl refl;
}
as_told told ReadFault f r l s = absurd (r refl)
as_told told NoMemory f r l s = record { refused = λ line column kind few q. inr refl; too_long = λ long. inr refl }
as_told told Finished f r l s = absurd f
as_told told (Halted k) f r l s = absurd f
as_told told Budget f r l s = absurd f
as_told told (Usage k) f r l s = absurd f
as_told told WriteFault f r l s = absurd f

pub refused_fault : (held : Option (List ℕ)) (e : Ending) → IsLoadFault held e → (IsErrOf {T = Job} (Err e) ReadFault → ⊥) → (IsErrOf {T = Job} (Err e) TooLong → IfSome held (λ told. 16777216 < length told))
    → (ComesOfText e → IfSome held (λ told. length told ≤ 16777216)) → IfSome held (IsRefusedAs e)
refused_fault None e f r l s = tt
refused_fault (Some told) e f r l s = as_told told e f (λ q. r (ap (λ x. Err x) q)) (λ q. l (ap (λ x. Err x) q)) s
