-- A text loads to one job, or has one first fault.
use Rattle.std.proofs.Common.{◌≡◌, ◌∙◌, ℕ, true, List, [], ◌++◌, Result, Ok, Err, refl, sym, ap, ap₂, subst}
use Rattle.std.proofs.lemmas.List.{append_cancel_right}
use Rattle.run_model.specs.Programs.Jobs.{Job}
use Rattle.au_model.specs.Syntax.Layout.{Gap, GapThen, begins_layout, after_layout}
use Rattle.au_model.specs.Syntax.Primaries.{Setting}
use Rattle.au_model.specs.Syntax.Tokens.{tokens_of}
use Rattle.au_model.specs.Syntax.Words.{next_word}
use Rattle.au_model.specs.Syntax.TermTexts.{SpellsTermWithEnd, is_over}
use Rattle.au_model.specs.Syntax.Trees.{Tree}
use Rattle.au_model.specs.declared.types.FaultKind.{FaultKind}
use Rattle.term_reader.proofs.FirstTokenLemmas.{tokens-none}
use Rattle.term_reader.proofs.FirstFaultLemmas.{same-fault}
use Rattle.term_reader.proofs.UniqueReadingLemmas.{same_reading}
use Rattle.au_model.specs.Syntax.TextFaults.{line_after, column_after}
use Rattle.text_load.specs.Sentences.{sentence}
use Rattle.text_load.specs.LoadedTexts.{Loading, Loads, no_more, one_more, FirstFault, unread, refused, further, LoadsTo, IsRefused, job_of, first_loading, taken}
use Rattle.text_load.proofs.SentenceLemmas.{no_operand}
use Rattle.term_reader.proofs.FaultyTokenLemmas.{no_word as last_none}

-- where nothing but layout is left, no term is spelled
over_spells_none : (s : Setting) (cs rest : List ℕ) (t : Tree) → is_over cs ≡ true → SpellsTermWithEnd s cs t rest → ⊥
over_spells_none s cs rest t over h = no_operand (tokens_of cs) (tokens-none cs (last_none (next_word cs) (begins_layout cs) over)) h.spelled

one_tree : (s : Setting) (cs rest other : List ℕ) (t u : Tree) → SpellsTermWithEnd s cs t rest → SpellsTermWithEnd s cs u other → t ≡ u
one_tree s cs rest other t u h k = (same_reading s 1200 (tokens_of cs) _ _ t u h.spelled k.spelled).1

one_rest : (s : Setting) (cs rest other : List ℕ) (t u : Tree) → SpellsTermWithEnd s cs t rest → SpellsTermWithEnd s cs u other → rest ≡ other
one_rest s cs rest other t u h k = sym h.left ∙ k.left

same_answer : {A B : Type 0} (r : Result A B) (a b : A) → r ≡ Ok a → r ≡ Ok b → a ≡ b
same_answer r a b e f = cc

no_answer : {A B : Type 0} (r : Result A B) (a : A) (b : B) → r ≡ Ok a → r ≡ Err b → ⊥
no_answer r a b e f = cc

same_error : {A B : Type 0} (r : Result A B) (a b : B) → r ≡ Err a → r ≡ Err b → a ≡ b
same_error r a b e f = cc

-- the same term takes the text to one place and one state
one_step : (l m n : Loading) (cs rest other : List ℕ) (t u : Tree) → SpellsTermWithEnd l.setting cs t rest → SpellsTermWithEnd l.setting cs u other
    → taken l (sentence t) ≡ Ok m → taken l (sentence u) ≡ Ok n → m ≡ n
one_step l m n cs rest other t u h k e f = same_answer (taken l (sentence t)) m n e (ap (λ v. taken l (sentence v)) (one_tree l.setting cs rest other t u h k) ∙ f)

one_end : (l a b : Loading) (cs : List ℕ) → Loads l cs a → Loads l cs b → a ≡ b
one_end l a b cs (no_more over) (no_more other) = refl
one_end l a b cs (no_more over) (one_more h s more) = absurd (over_spells_none l.setting cs _ _ over h)
one_end l a b cs (one_more h s more) (no_more over) = absurd (over_spells_none l.setting cs _ _ over h)
one_end l a b cs (one_more {mid = m} {rest = r} {t = t} h s more) (one_more {mid = n} {rest = q} {t = u} k z others) =
    one_end m a b r more (subst (λ x. Loads m x b) (sym (one_rest l.setting cs r q t u h k)) (subst (λ x. Loads x q b) (sym (one_step l m n cs r q t u h k s z)) others))

pub one_job : (library text : List ℕ) (job other : Job) → LoadsTo library text job → LoadsTo library text other → job ≡ other
one_job library text job other h k =
    h.is ∙ (ap₂ job_of (one_end first_loading h.others k.others library h.library_is k.library_is) (one_end first_loading h.own k.own text h.text_is k.text_is) ∙ sym k.is)

bad_step : (l m : Loading) (cs rest other : List ℕ) (t u : Tree) (kind : FaultKind) → SpellsTermWithEnd l.setting cs t rest → SpellsTermWithEnd l.setting cs u other
    → taken l (sentence t) ≡ Ok m → taken l (sentence u) ≡ Err kind → ⊥
bad_step l m cs rest other t u kind h k e f = no_answer (taken l (sentence t)) m kind e (ap (λ v. taken l (sentence v)) (one_tree l.setting cs rest other t u h k) ∙ f)

pub no_fault : (l all : Loading) (cs from : List ℕ) (kind : FaultKind) → Loads l cs all → FirstFault l cs kind from → ⊥
no_fault l all cs from kind (no_more over) (unread more none fault) = let f : ⊥ = cc in absurd f
no_fault l all cs from kind (no_more over) (refused h bad place) = over_spells_none l.setting cs _ _ over h
no_fault l all cs from kind (no_more over) (further h s fault) = over_spells_none l.setting cs _ _ over h
no_fault l all cs from kind (one_more h s more) (unread left none fault) = none _ _ h
no_fault l all cs from kind (one_more h s more) (refused k bad place) = bad_step l _ cs _ _ _ _ kind h k s bad
no_fault l all cs from kind (one_more {mid = m} {rest = r} {t = t} h s more) (further {mid = n} {rest = q} {t = u} k z fault) =
    no_fault m all r from kind more (subst (λ x. FirstFault m x kind from) (sym (one_rest l.setting cs r q t u h k)) (subst (λ x. FirstFault x q kind from) (sym (one_step l m n cs r q t u h k s z)) fault))

-- ---- the first fault

same_place : (g : Gap) (us vs : List ℕ) → g ≡ GapThen us → g ≡ GapThen vs → us ≡ vs
same_place g us vs e f = cc

one_kind : (l : Loading) (cs rest other : List ℕ) (t u : Tree) (j k : FaultKind) → SpellsTermWithEnd l.setting cs t rest → SpellsTermWithEnd l.setting cs u other
    → taken l (sentence t) ≡ Err j → taken l (sentence u) ≡ Err k → j ≡ k
one_kind l cs rest other t u j k h i e f = same_error (taken l (sentence t)) j k e (ap (λ v. taken l (sentence v)) (one_tree l.setting cs rest other t u h i) ∙ f)

one_fault : (l : Loading) (cs us vs : List ℕ) (j k : FaultKind) → FirstFault l cs j us → FirstFault l cs k vs → (j ≡ k) × (us ≡ vs)
one_fault l cs us vs j k (unread more none fault) (unread left nothing other) = same-fault l.setting cs us vs j k fault other
one_fault l cs us vs j k (unread more none fault) (refused h bad place) = absurd (none _ _ h)
one_fault l cs us vs j k (unread more none fault) (further h s other) = absurd (none _ _ h)
one_fault l cs us vs j k (refused h bad place) (unread more none fault) = absurd (none _ _ h)
one_fault l cs us vs j k (refused h bad place) (refused i worse there) = (one_kind l cs _ _ _ _ j k h i bad worse, same_place (after_layout cs) us vs place there)
one_fault l cs us vs j k (refused h bad place) (further i s other) = absurd (bad_step l _ cs _ _ _ _ j i h s bad)
one_fault l cs us vs j k (further h s fault) (unread more none other) = absurd (none _ _ h)
one_fault l cs us vs j k (further h s fault) (refused i bad place) = absurd (bad_step l _ cs _ _ _ _ k h i s bad)
one_fault l cs us vs j k (further {mid = m} {rest = r} {t = t} h s fault) (further {mid = n} {rest = q} {t = u} i z other) =
    one_fault m r us vs j k fault (subst (λ x. FirstFault m x k vs) (sym (one_rest l.setting cs r q t u h i)) (subst (λ x. FirstFault x q k vs) (sym (one_step l m n cs r q t u h i s z)) other))

pub one_refusal : (text : List ℕ) (line column other_line other_column : ℕ) (kind other : FaultKind) → IsRefused text line column kind → IsRefused text other_line other_column other → (line ≡ other_line) × (column ≡ other_column) × (kind ≡ other)
one_refusal text line column other_line other_column kind other h i =
    let same = one_fault first_loading text h.from i.from kind other h.fault i.fault in
    let before = append_cancel_right h.before i.before i.from (ap (λ cs. h.before ++ cs) (sym same.1) ∙ (sym h.splits ∙ i.splits)) in
    (h.line_is ∙ (ap line_after before ∙ sym i.line_is), h.column_is ∙ (ap column_after before ∙ sym i.column_is), same.0)
