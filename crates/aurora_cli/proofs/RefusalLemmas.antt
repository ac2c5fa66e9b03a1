-- What refuses bytes.
use Rattle.std.proofs.Common.{◌≡◌, ◌∙◌, inl, inr, ℕ, List, ◌++◌, take, length, sym, ap, subst}
use Rattle.std.specs.Str.{chars, IsUtf8, IsValidUpTo}
use Rattle.au_model.specs.Syntax.Characters.{chars_from}
use Rattle.run_model.specs.Programs.Jobs.{Job}
use Rattle.au_model.specs.declared.types.FaultKind.TheVariants.{NotUtf8}
use Rattle.au_model.specs.Syntax.TextFaults.{IsLineAndColumn, line_after, column_after}
use Rattle.text_load.specs.LoadOutcome.{IsLoadRefusal}
use Rattle.text_load.specs.LoadedTexts.{FirstFault, IsRefused, LoadsTo, first_loading}
use Rattle.text_load.specs.declared.reading.LoadRefusal.{LoadRefusal}
use Rattle.text_load.specs.declared.reading.LoadRefusal.TheVariants.{Refused, NoMemory}
use Rattle.text_load.proofs.UniqueLoadLemmas.{no_fault}
use Rattle.toplevel.specs.Library.{library_text}
use Rattle.toplevel.proofs.LibraryLemmas.{library-loads}
use Rattle.aurora_cli.specs.LoadFaults.{IsTextFault, refused_as}
use Rattle.aurora_cli.specs.ProgramTexts.{StandsFor, IsRefusedText, no_text, text_fault}
use Rattle.term_reader.proofs.FaultyTokenLemmas.{at-end as none_after}
use Rattle.std.proofs.Common.{append-nil}

whole_before : (text before : List ℕ) → chars text ≡ before ++ chars_from text (length text) → before ≡ chars text
whole_before text before e = sym (e ∙ (ap (λ cs. before ++ cs) (none_after text) ∙ append-nil before))

pub no_text_at : (bytes text : List ℕ) (n line column : ℕ) → IsValidUpTo bytes n → text ≡ take n bytes → IsLineAndColumn text (chars_from text (length text)) line column → IsRefusedText bytes line column NotUtf8
no_text_at bytes text n line column v e p =
    let before : p.before ≡ chars (take n bytes) = whole_before text p.before p.splits ∙ ap chars e in
    let l : line ≡ line_after (chars (take n bytes)) = p.line_is ∙ ap line_after before in
    let c : column ≡ column_after (chars (take n bytes)) = p.column_is ∙ ap column_after before in
    subst (λ x. IsRefusedText bytes x column NotUtf8) (sym l) (subst (λ y. IsRefusedText bytes (line_after (chars (take n bytes))) y NotUtf8) (sym c) (no_text v))

module _ (library bytes text : List ℕ) (loaded_first : library ≡ library_text) (same : text ≡ bytes) (utf8 : IsUtf8 bytes) where
  pub refused_text : (r : LoadRefusal) → IsLoadRefusal library (chars text) r → IsTextFault bytes (refused_as r)
  refused_text (Refused line column kind) (inl r) = absurd (no_fault first_loading library-loads.0 library_text r.from kind library-loads.1 (subst (λ (l : List ℕ). FirstFault first_loading l kind r.from) loaded_first r.fault))
  refused_text (Refused line column kind) (inr r) = text_fault utf8 (subst (λ (b : List ℕ). IsRefused (chars b) line column kind) same r.text_is)
  refused_text NoMemory r = tt

  pub stands_for : (job : Job) → LoadsTo library (chars text) job → StandsFor bytes job
  stands_for job h = record { utf8 = utf8; loads = subst (λ (b : List ℕ). LoadsTo library_text (chars b) job) same (subst (λ (l : List ℕ). LoadsTo l (chars text) job) loaded_first h) }
