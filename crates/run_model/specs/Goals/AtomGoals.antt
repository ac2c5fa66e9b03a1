-- Goals on the characters of atoms (ISO/IEC 13211-1, 8.16): a character is an atom of one character.
use lib.Utf8.{scalar}
use Rattle.std.specs.Prelude.{ℕ, Bool, true, false, not, ◌&&◌, ◌||◌, pos, negsuc, if◌then◌else◌, List, [], ◌∷◌, map, length, codes, Err}
use Rattle.au_term.specs.Term.{Term, VarTerm, IntTerm, AtomTerm, term_at}
use Rattle.au_model.specs.Terms.Forms.{list_term}
use Rattle.au_model.specs.Terms.ErrorTerms.{instantiation_error, type_error, domain_error, representation_error}
use Rattle.run_model.specs.Goals.Control.{Construct}
use Rattle.run_model.specs.Goals.BuiltinAnswers.{Answer, equal, predicate}
use Rattle.run_model.specs.Goals.ListForms.{ListForm, ProperList, PartialList, NoList, list_form}
use Rattle.run_model.specs.Goals.TermTests.{is_variable, is_integer, is_atom}

-- an answer that waits for terms to pass a test, or the error of the first that does not
abbrev pub with_each : (Term → Bool) → (Term → Term) → List Term → Answer → Answer
with_each test error [] answer = answer
with_each test error (t ∷ ts) answer = if test t then with_each test error ts answer else Err (error t)

abbrev pub is_bound : Term → Bool
is_bound t = not (is_variable t)

abbrev pub is_open_atom : Term → Bool
is_open_atom t = is_variable t || is_atom t

abbrev pub is_open_integer : Term → Bool
is_open_integer t = is_variable t || is_integer t

abbrev pub is_not_below_zero : Term → Bool
is_not_below_zero (IntTerm (negsuc n)) = false
is_not_below_zero t = true

abbrev pub is_character : Term → Bool
is_character (AtomTerm (c ∷ [])) = true
is_character t = false

abbrev pub is_character_code : Term → Bool
is_character_code (IntTerm (pos n)) = scalar n
is_character_code t = false

abbrev pub below_zero : Term → Term
below_zero t = domain_error (codes "not_less_than_zero") t

abbrev pub no_code : Term
no_code = representation_error (codes "character_code")

-- lengths and places that are asked for: variables, or integers from 0 on
abbrev pub with_counts : List Term → Answer → Answer
with_counts ts answer = with_each is_open_integer (type_error (codes "integer")) ts (with_each is_not_below_zero below_zero ts answer)

-- atom_length(A, N) (8.16.1)
abbrev pub atom_length_answer : Term → Term → Answer
atom_length_answer (VarTerm m) n = Err instantiation_error
atom_length_answer (AtomTerm a) n = with_counts (n ∷ []) (equal n (IntTerm (pos (length a))))
atom_length_answer t n = Err (type_error (codes "atom") t)

-- a text as a list: by its characters, or by their codes
pub data CharacterList : Type 0 where
  ByCharacters : CharacterList
  ByCodes : CharacterList

abbrev pub item_for : CharacterList → ℕ → Term
item_for ByCharacters c = AtomTerm (c ∷ [])
item_for ByCodes c = IntTerm (pos c)

-- the code that a character or a code stands for
abbrev pub code_of : Term → ℕ
code_of (AtomTerm (c ∷ cs)) = c
code_of (IntTerm (pos n)) = n
code_of t = 0

-- char_code(C, N) of an N that is no variable, or of a character C
abbrev pub coded_answer : Term → Term → Answer
coded_answer c (VarTerm n) = equal (VarTerm n) (IntTerm (pos (code_of c)))
coded_answer c (IntTerm z) = if is_character_code (IntTerm z) then equal c (AtomTerm (code_of (IntTerm z) ∷ [])) else Err no_code
coded_answer c n = Err (type_error (codes "integer") n)

-- char_code(C, N) (8.16.6)
abbrev pub char_code_answer : Term → Term → Answer
char_code_answer c n =
    if is_variable c && is_variable n then Err instantiation_error
    else if is_variable c || is_character c then coded_answer c n
    else Err (type_error (codes "character") c)

-- the items of a list, none of which is a variable
abbrev pub with_list : Term → ListForm → (List Term → Answer) → Answer
with_list l (PartialList ts) answer = Err instantiation_error
with_list l NoList answer = Err (type_error (codes "list") l)
with_list l (ProperList ts) answer = with_each is_bound (λ t. instantiation_error) ts (answer ts)

-- the text of characters or codes
abbrev pub with_text : CharacterList → List Term → (List ℕ → Answer) → Answer
with_text ByCharacters ts answer = with_each is_character (type_error (codes "character")) ts (answer (map code_of ts))
with_text ByCodes ts answer = with_each is_integer (type_error (codes "integer")) ts (with_each is_character_code (λ t. no_code) ts (answer (map code_of ts)))

-- atom_chars(A, L) and atom_codes(A, L) (8.16.4 and 8.16.5)
abbrev pub spelling_answer : CharacterList → Term → Term → Answer
spelling_answer by (VarTerm n) l = with_list l (list_form l) (λ ts. with_text by ts (λ cs. equal (VarTerm n) (AtomTerm cs)))
spelling_answer by (AtomTerm a) l = equal l (list_term (map (item_for by) a))
spelling_answer by t l = Err (type_error (codes "atom") t)

abbrev pub atom_goals : List Construct
atom_goals =
    predicate (codes "atom_length") 2 (λ ts next. atom_length_answer (term_at 0 ts) (term_at 1 ts))
    ∷ predicate (codes "char_code") 2 (λ ts next. char_code_answer (term_at 0 ts) (term_at 1 ts))
    ∷ predicate (codes "atom_chars") 2 (λ ts next. spelling_answer ByCharacters (term_at 0 ts) (term_at 1 ts))
    ∷ predicate (codes "atom_codes") 2 (λ ts next. spelling_answer ByCodes (term_at 0 ts) (term_at 1 ts))
    ∷ []
