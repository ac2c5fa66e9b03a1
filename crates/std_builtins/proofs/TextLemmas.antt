-- Texts and the items that spell them.
use Rattle.std.proofs.Common.{◌≡◌, Bool, true, false, ℕ, zero, suc, ◌+◌, ◌<◌, ◌≤◌, List, [], ◌∷◌, ◌++◌, length, take, get_or, map, ℤ, pos, Result, Ok, Err, refl, sym, ap, ap₂, ◌∙◌, subst, arith}
use Rattle.std.specs.Prelude.{Vec, String, IsErrAnd, codes}
use Rattle.std.specs.Str.{chars}
use Rattle.std.specs.Global.{Global}
use Rattle.au_term.specs.Term.{Term, VarTerm, IntTerm, AtomTerm, Compound}
use Rattle.au_term.specs.PrefixOrder.{top_of}
use Rattle.au_term.proofs.SubtermLemmas.{atom_of_top}
use Rattle.au_term.specs.declared.cell.Cell.TheVariants.{Var as VarCell, Atom as AtomCell}
use Rattle.std.specs.Fmt.{signed_decimal}
use Rattle.std.specs.List.{list_all}
use Rattle.au_model.specs.Terms.Forms.{list_term}
use Rattle.au_model.specs.Terms.ErrorTerms.{instantiation_error, type_error}
use Rattle.run_model.specs.Goals.BuiltinAnswers.{Answer, equal}
use Rattle.run_model.specs.Goals.ListForms.{ListForm, ProperList, PartialList, NoList, list_form}
use Rattle.run_model.specs.Goals.TermTests.{is_integer}
use Rattle.run_model.specs.Goals.AtomGoals.{with_each, is_bound, is_open_integer, item_for, is_character_code, no_code, with_counts, atom_length_answer, code_of, coded_answer, with_list, with_text, spelling_answer, CharacterList, ByCharacters, ByCodes}
use Rattle.run_model.specs.Goals.NumberTexts.{number_in_text, numbered_answer, written_answer, number_text}
use Rattle.std_builtins.specs.Answers.{IsAnswer}
use Rattle.std_builtins.specs.Characters.{IsCharacterOf}
use Rattle.std_builtins.specs.Checks.{IsPassed}
use Rattle.std_builtins.specs.Texts.{item_test, item_error, AreItemsRead, IsTextOfItems}
use Rattle.std_builtins.specs.declared.answer.Solution.{Solution}
use Rattle.std_builtins.specs.declared.answer.BuiltinRefusal.{BuiltinRefusal}
use Rattle.std_builtins.specs.declared.answer.BuiltinRefusal.TheVariants.{Fault, NoMemory}
use Rattle.std_builtins.specs.declared.spelling.Spelling.{Spelling as SpellingCode}
use Rattle.std_builtins.specs.declared.spelling.Spelling.TheVariants.{Characters, Codes}
use Rattle.std_builtins.proofs.CheckLemmas.{refused}

pub map_last : {X Y : Type 0} (f : X → Y) (xs : List X) (x : X) → map f (xs ++ x ∷ []) ≡ map f xs ++ f x ∷ []
map_last f [] x = refl
map_last f (y ∷ xs) x = ap (λ ys. f y ∷ ys) (map_last f xs x)

pub map_itself : {X : Type 0} (xs : List X) → map (λ x. x) xs ≡ xs
map_itself [] = refl
map_itself (x ∷ xs) = ap (λ ys. x ∷ ys) (map_itself xs)

pub taken_more : {X Y : Type 0} (f : X → Y) (xs : List X) (i : ℕ) (x : X) → i < length xs → x ≡ get_or xs i x → map f (take (i + 1) xs) ≡ map f (take i xs) ++ f x ∷ []
taken_more f [] i x lt is = absurd (omega arith)
taken_more f (y ∷ xs) zero x lt is = ap (λ z. f z ∷ []) (sym is)
taken_more f (y ∷ xs) (suc i) x lt is = let e : suc i + 1 ≡ suc (i + 1) = omega arith in ap (λ n. map f (take n (y ∷ xs))) e ∙ ap (λ ys. f y ∷ ys) (taken_more f xs i x (omega arith) is)

pub taken_all : {X Y : Type 0} (f : X → Y) (xs : List X) (i : ℕ) → length xs ≤ i → map f (take i xs) ≡ map f xs
taken_all f [] zero le = refl
taken_all f [] (suc i) le = refl
taken_all f (y ∷ xs) zero le = absurd (omega arith)
taken_all f (y ∷ xs) (suc i) le = ap (λ ys. f y ∷ ys) (taken_all f xs i (omega arith))

pub coded_made : (c n made x : Term) (z : ℤ) (d : ℕ) (r : Result (Vec Solution Global) BuiltinRefusal) → n ≡ IntTerm z → IsCharacterOf z d → made ≡ AtomTerm (d ∷ []) → x ≡ c → IsAnswer (equal x made) r → IsAnswer (coded_answer c n) r
coded_made c n made x z d r is h e same k =
    let found : coded_answer c (IntTerm (pos d)) ≡ equal c (AtomTerm (d ∷ [])) = rw h.1 refl in
    let all : coded_answer c n ≡ equal x made = ap (coded_answer c) (is ∙ ap IntTerm h.0) ∙ (found ∙ ap₂ equal (sym same) (sym e)) in
    subst (λ a. IsAnswer a r) (sym all) k

pub length_asked : (t n : Term) (a : List ℕ) (r : Result (Unit {0}) BuiltinRefusal) (e : BuiltinRefusal) (s : Result (Vec Solution Global) BuiltinRefusal) → top_of t ≡ AtomCell a → ((b : Answer) → IsPassed (with_counts (n ∷ []) b) b r) → r ≡ Err e → IsErrAnd s (λ d. d ≡ e) → IsAnswer (atom_length_answer t n) s
length_asked t n a r e s top h is same =
    let b : Answer = equal n (IntTerm (pos (length a))) in
    subst (λ u. IsAnswer (atom_length_answer u n) s) (sym (atom_of_top t a top)) (refused (with_counts (n ∷ []) b) b r e s (h b) is same)

-- items of a list that are read
module _ (l : Term) (form : ListForm) (ts items : List Term) (answer : List Term → Answer) (is : form ≡ ProperList items) (read : ts ≡ items) where
  begun : with_list l form answer ≡ with_each is_bound (λ t. instantiation_error) ts (answer ts)
  begun = ap (λ f. with_list l f answer) is ∙ ap (λ us. with_each is_bound (λ t. instantiation_error) us (answer us)) (sym read)

  pub items_refused : (r : Result (Unit {0}) BuiltinRefusal) (e : BuiltinRefusal) (s : Result (Vec Solution Global) BuiltinRefusal) → ((b : Answer) → IsPassed (with_each is_bound (λ t. instantiation_error) ts b) b r) → r ≡ Err e → IsErrAnd s (λ d. d ≡ e) → IsAnswer (with_list l form answer) s
  items_refused r e s h same k = subst (λ a. IsAnswer a s) (sym begun) (refused (with_each is_bound (λ t. instantiation_error) ts (answer ts)) (answer ts) r e s (h (answer ts)) same k)

  pub items_passed : (s : Result (Vec Solution Global) BuiltinRefusal) → ((b : Answer) → with_each is_bound (λ t. instantiation_error) ts b ≡ b) → IsAnswer (answer ts) s → IsAnswer (with_list l form answer) s
  items_passed s h k = subst (λ a. IsAnswer a s) (sym (begun ∙ h (answer ts))) k

pub text_refused : (waiting : Answer) (answer : List ℕ → Answer) (r : Result (String Global) BuiltinRefusal) (e : BuiltinRefusal) (s : Result (Vec Solution Global) BuiltinRefusal) → IsTextOfItems waiting answer r → r ≡ Err e → IsErrAnd s (λ d. d ≡ e) → IsAnswer waiting s
text_refused waiting answer r e (Ok solutions) h is same = absurd same
text_refused waiting answer r e (Err d) h is same = by d (subst (IsTextOfItems waiting answer) (is ∙ ap Err (sym same)) h)
  where
    by : (x : BuiltinRefusal) → IsTextOfItems waiting answer (Err x) → IsAnswer waiting (Err x)
    by (Fault fault) k = k
    by NoMemory k = tt

-- texts of items
pub codes_refused : (ts : List Term) (answer : List ℕ → Answer) (r : Result (Unit {0}) BuiltinRefusal) (e : BuiltinRefusal) (s : Result (String Global) BuiltinRefusal) → ((a : Answer) → IsPassed (with_each is_integer (type_error (codes "integer")) ts a) a r) → r ≡ Err e → IsErrAnd s (λ d. d ≡ e)
    → IsTextOfItems (with_text ByCodes ts answer) answer s
codes_refused ts answer r e (Ok text) h is same = absurd same
codes_refused ts answer r e (Err d) h is same = by d (subst (IsPassed (with_text ByCodes ts answer) rest) (is ∙ ap Err (sym same)) (h rest))
  where
    rest : Answer
    rest = with_each is_character_code (λ t. no_code) ts (answer (map code_of ts))

    by : (x : BuiltinRefusal) → IsPassed (with_text ByCodes ts answer) rest (Err x) → IsTextOfItems (with_text ByCodes ts answer) answer (Err x)
    by (Fault fault) k = k
    by NoMemory k = tt

items_answer : (by : SpellingCode) (ts : List Term) (answer : List ℕ → Answer) (waiting : Answer) (s : Result (String Global) BuiltinRefusal) → waiting ≡ with_each (item_test by) (item_error by) ts (answer (map code_of ts)) → AreItemsRead by ts s → IsTextOfItems waiting answer s
items_answer by ts answer waiting (Ok text) is h = is ∙ (h.0 (answer (map code_of ts)) ∙ ap answer (sym h.1))
items_answer by ts answer waiting (Err (Fault fault)) is h = is ∙ h (answer (map code_of ts))
items_answer by ts answer waiting (Err NoMemory) is h = tt

pub characters_read : (ts : List Term) (answer : List ℕ → Answer) (s : Result (String Global) BuiltinRefusal) → AreItemsRead Characters ts s → IsTextOfItems (with_text ByCharacters ts answer) answer s
characters_read ts answer s h = items_answer Characters ts answer (with_text ByCharacters ts answer) s refl h

pub codes_read : (ts : List Term) (answer : List ℕ → Answer) (s : Result (String Global) BuiltinRefusal) → ((a : Answer) → with_each is_integer (type_error (codes "integer")) ts a ≡ a) → AreItemsRead Codes ts s → IsTextOfItems (with_text ByCodes ts answer) answer s
codes_read ts answer s integers h = items_answer Codes ts answer (with_text ByCodes ts answer) s (integers (with_each is_character_code (λ t. no_code) ts (answer (map code_of ts)))) h

pub variable_spelled : (t l : Term) (n : ℕ) (by : CharacterList) (r : Result (Vec Solution Global) BuiltinRefusal) → top_of t ≡ VarCell n → IsAnswer (with_list l (list_form l) (λ ts. with_text by ts (λ cs. equal t (AtomTerm cs)))) r → IsAnswer (spelling_answer by t l) r
variable_spelled (VarTerm m) l n by r h k = k
variable_spelled (IntTerm z) l n by r h k = absurd cc
variable_spelled (AtomTerm a) l n by r h k = absurd cc
variable_spelled (Compound f ts) l n by r h k = absurd cc

-- texts of numbers
pub integer_written : (by : CharacterList) (n l : Term) (form : ListForm) (z : ℤ) (x made : Term) (text : List ℕ) (r : Result (Vec Solution Global) BuiltinRefusal) → n ≡ IntTerm z → (form ≡ NoList → ⊥) → chars text ≡ signed_decimal z → made ≡ list_term (map (item_for by) (chars text)) → x ≡ l → IsAnswer (equal x made) r
    → IsAnswer (written_answer by n l form) r
integer_written by n l form z x made text r is some e m same k =
    let all : written_answer by n l form ≡ equal l made = ap (λ t. written_answer by t l form) is ∙ (any form some ∙ ap (equal l) (sym (m ∙ ap (λ cs. list_term (map (item_for by) cs)) e))) in
    subst (λ a. IsAnswer a r) (ap (λ t. equal t made) same ∙ sym all) k
  where
    any : (f : ListForm) → (f ≡ NoList → ⊥) → written_answer by (IntTerm z) l f ≡ equal l (list_term (map (item_for by) (signed_decimal z)))
    any (ProperList ts) h = refl
    any (PartialList ts) h = refl
    any NoList h = absurd (h refl)

pub open_number : (n : Term) (a : Answer) (r : Result (Vec Solution Global) BuiltinRefusal) → is_open_integer n ≡ true → IsAnswer a r → IsAnswer (with_each is_open_integer (type_error (codes "integer")) (n ∷ []) a) r
open_number n a r h k = rw h k

pub number_is_read : (by : CharacterList) (n l : Term) (ts items : List Term) (f : ListForm) (b : Bool) (r : Result (Vec Solution Global) BuiltinRefusal) → f ≡ ProperList items → ts ≡ items → b ≡ list_all is_bound ts → b ≡ true → IsAnswer (with_text by ts (λ cs. numbered_answer n (number_in_text cs))) r → IsAnswer (number_text by n l f) r
number_is_read by n l ts items f b r is read all passes k =
    let bound : list_all is_bound items ≡ true = ap (list_all is_bound) (sym read) ∙ (sym all ∙ passes) in
    subst (λ g. IsAnswer (number_text by n l g) r) (sym is) (rw bound (subst (λ us. IsAnswer (with_text by us (λ cs. numbered_answer n (number_in_text cs))) r) read k))

pub number_is_written : (by : CharacterList) (n l : Term) (ts items : List Term) (f : ListForm) (b : Bool) (r : Result (Vec Solution Global) BuiltinRefusal) → f ≡ ProperList items → ts ≡ items → b ≡ list_all is_bound ts → b ≡ false → ((g : ListForm) → (g ≡ NoList → ⊥) → IsAnswer (written_answer by n l g) r) → IsAnswer (number_text by n l f) r
number_is_written by n l ts items f b r is read all fails k =
    let some : list_all is_bound items ≡ false = ap (list_all is_bound) (sym read) ∙ (sym all ∙ fails) in
    subst (λ g. IsAnswer (number_text by n l g) r) (sym is) (rw some (k (ProperList items) (λ e. absurd cc)))
