-- The line of an answer, binding by binding.
use Rattle.std.proofs.Common.{◌≡◌, ℕ, zero, suc, ◌+◌, ◌<◌, ◌≤◌, min, List, [], ◌∷◌, ◌++◌, length, drop, get_or, refl, sym, ap, ◌∙◌, append_assoc, arith}
use Rattle.std.proofs.lemmas.List.{drop_all}
use Rattle.au_term.specs.Term.{Term}
use Rattle.au_model.specs.Terms.Named.{NamedTerm}
use Rattle.au_model.specs.Writing.Lines.{shown_binding, further_bindings}
use Rattle.au_model.specs.Syntax.Operators.{OperatorTable}
use Rattle.au_model.specs.declared.types.VarName.{VarName}
use Rattle.term_writer.specs.AnswerParts.{named_term, named_terms, separator, line_end, line_from}

pub binding_text : (old n m e f one two : List ℕ) → n ≡ m → one ≡ old ++ n → two ≡ one ++ e → two ++ f ≡ old ++ ((m ++ e) ++ f)
binding_text old n m e f one two p q r =
    ap (λ k. k ++ f) (r ∙ ap (λ k. k ++ e) (q ∙ ap (λ k. old ++ k) p)) ∙ simp append_assoc

named_at : (vs : List VarName) (ts : List Term) (i : ℕ) (v : VarName) (t : Term) → i < length vs → i < length ts → v ≡ get_or vs i v → t ≡ get_or ts i t → drop i (named_terms vs ts) ≡ named_term v t ∷ drop (i + 1) (named_terms vs ts)
named_at [] ts i v t lt le p q = absurd (omega arith)
named_at (w ∷ vs) [] i v t lt le p q = absurd (omega arith)
named_at (w ∷ vs) (u ∷ ts) zero v t lt le p q = ap (λ x. named_term x u ∷ named_terms vs ts) (sym p) ∙ ap (λ x. named_term v x ∷ named_terms vs ts) (sym q)
named_at (w ∷ vs) (u ∷ ts) (suc i) v t lt le p q = let e : suc i + 1 ≡ suc (i + 1) = omega arith in rw e (named_at vs ts i v t (omega arith) (omega arith) p q)

pub length-named_terms : (vs : List VarName) (ts : List Term) → length (named_terms vs ts) ≡ min (length vs) (length ts)
length-named_terms [] ts = omega arith
length-named_terms (v ∷ vs) [] = omega arith
length-named_terms (v ∷ vs) (t ∷ ts) = omega (arith, length-named_terms vs ts)

one_binding : (ops : OperatorTable) (i : ℕ) (b : NamedTerm) (bs : List NamedTerm) → separator i ++ (shown_binding ops b ++ line_from ops (i + 1) bs) ≡ line_from ops i (b ∷ bs)
one_binding ops zero b bs = refl
one_binding ops (suc i) b bs =
    let e : suc i + 1 ≡ suc (suc i) = omega arith in
    ap (λ k. separator (suc i) ++ (shown_binding ops b ++ line_from ops k bs)) e
    ∙ sym (append_assoc (separator (suc i)) (shown_binding ops b) (further_bindings ops bs))

-- one more binding was written
pub line_goes : (ops : OperatorTable) (vs : List VarName) (ts : List Term) (i : ℕ) (v : VarName) (t : Term) (line one two whole : List ℕ) → i < length vs → i < length ts → v ≡ get_or vs i v → t ≡ get_or ts i t
    → line ++ line_from ops i (drop i (named_terms vs ts)) ≡ whole → one ≡ line ++ separator i → two ≡ one ++ shown_binding ops (named_term v t)
    → two ++ line_from ops (i + 1) (drop (i + 1) (named_terms vs ts)) ≡ whole
line_goes ops vs ts i v t line one two whole lt le p q before sep bind =
    let rest = drop (i + 1) (named_terms vs ts) in
    ap (λ k. k ++ line_from ops (i + 1) rest) (bind ∙ ap (λ k. k ++ shown_binding ops (named_term v t)) sep)
    ∙ (append_assoc (line ++ separator i) (shown_binding ops (named_term v t)) (line_from ops (i + 1) rest)
    ∙ (append_assoc line (separator i) (shown_binding ops (named_term v t) ++ line_from ops (i + 1) rest)
    ∙ (ap (λ k. line ++ k) (one_binding ops i (named_term v t) rest)
    ∙ (ap (λ k. line ++ line_from ops i k) (sym (named_at vs ts i v t lt le p q)) ∙ before))))

ends : (ops : OperatorTable) (n : ℕ) → line_end n ≡ line_from ops n []
ends ops zero = refl
ends ops (suc n) = refl

pub line_ends : (ops : OperatorTable) (vs : List VarName) (ts : List Term) (n i : ℕ) (line whole : List ℕ) → n ≡ min (length vs) (length ts) → n ≤ i → i ≤ n → line ++ line_from ops i (drop i (named_terms vs ts)) ≡ whole → line ++ line_end n ≡ whole
line_ends ops vs ts n i line whole e low high h =
    let same : n ≡ i = omega arith in
    let none = drop_all i (named_terms vs ts) (omega (arith, length-named_terms vs ts)) in
    ap (λ k. line ++ k) (ends ops n ∙ ap (λ k. line_from ops k []) same) ∙ (ap (λ k. line ++ line_from ops i k) (sym none) ∙ h)
