-- Goals that write (ISO/IEC 13211-1, 8.12.3 and 8.14.2): on the one output that there is, after what is written.
use Rattle.std.specs.Prelude.{ℕ, if◌then◌else◌, List, [], ◌∷◌, codes, None}
use Rattle.std.specs.Str.{encode_utf8_all}
use Rattle.au_term.specs.Term.{Term, Terms, term_at}
use Rattle.au_model.specs.Terms.Forms.{name_of}
use Rattle.au_model.specs.Terms.ErrorTerms.{error_term, instantiation_error, type_error}
use Rattle.au_model.specs.Writing.WrittenTerms.{written_term}
use Rattle.au_model.specs.declared.types.Style.{Style}
use Rattle.au_model.specs.declared.types.Style.TheVariants.{Plain, Quoted, Canonical}
use Rattle.run_model.specs.Goals.Outcomes.{Reply, Ball}
use Rattle.run_model.specs.Goals.AtomGoals.{is_character}
use Rattle.run_model.specs.Goals.TermTests.{is_variable}
use Rattle.run_model.specs.Goals.WorldConstructs.{World, writes, WorldConstruct, holds_once}

abbrev pub bytes_out : List ℕ → World → World × Reply
bytes_out bytes w = (writes bytes w, holds_once)

-- write(T), writeq(T) and write_canonical(T)
abbrev pub term_out : Style → Term → World → World × Reply
term_out style t w = bytes_out (written_term style w.operators t) w

-- nl
abbrev pub line_out : World → World × Reply
line_out w = bytes_out (10 ∷ []) w

-- the ball of a term that is no character
abbrev pub no_character_ball : Term → Term
no_character_ball t = error_term (if is_variable t then instantiation_error else type_error (codes "character") t) (codes "put_char") 1

-- put_char(C)
abbrev pub character_out : Term → World → World × Reply
character_out t w = if is_character t then bytes_out (encode_utf8_all (name_of t)) w else (w, Ball (no_character_ball t))

abbrev pub output_goal : List ℕ → ℕ → (Terms → World → World × Reply) → WorldConstruct
output_goal name arity output = record { name = name; arity = arity; effect = λ statics ts next w. output ts w }

abbrev pub output_goals : List WorldConstruct
output_goals =
    output_goal (codes "write") 1 (λ ts w. term_out Plain (term_at 0 ts) w)
    ∷ output_goal (codes "writeq") 1 (λ ts w. term_out Quoted (term_at 0 ts) w)
    ∷ output_goal (codes "write_canonical") 1 (λ ts w. term_out Canonical (term_at 0 ts) w)
    ∷ output_goal (codes "nl") 0 (λ ts w. line_out w)
    ∷ output_goal (codes "put_char") 1 (λ ts w. character_out (term_at 0 ts) w)
    ∷ []
