-- Segments appended, and turned round.
use Rattle.std.proofs.Common.{◌≡◌, List, [], ◌∷◌, ◌++◌, Option, Some, None, refl, sym, ap, ◌∙◌, append_assoc}
use Rattle.std.specs.Prelude.{reverse}
use Rattle.std.proofs.lemmas.List.{reverse-append}
use Rattle.au_term.specs.declared.segment.Segment.{Segment}
use Rattle.node_trail.specs.Segments.{all_some}

pub all_some-more : (os : List (Option Segment)) (s : Segment) → all_some (os ++ Some s ∷ []) ≡ all_some os ++ s ∷ []
all_some-more [] s = refl
all_some-more (None ∷ os) s = all_some-more os s
all_some-more (Some t ∷ os) s = ap (λ (x : List Segment). t ∷ x) (all_some-more os s)

all_some-none : (os : List (Option Segment)) → all_some (os ++ None ∷ []) ≡ all_some os
all_some-none [] = refl
all_some-none (None ∷ os) = all_some-none os
all_some-none (Some t ∷ os) = ap (λ (x : List Segment). t ∷ x) (all_some-none os)

pub turned_some : (legs whole : List Segment) (old new : List (Option Segment)) (last : Option Segment) (s : Segment) → old ≡ new ++ last ∷ [] → last ≡ Some s
    → legs ++ reverse (all_some old) ≡ whole → (legs ++ s ∷ []) ++ reverse (all_some new) ≡ whole
turned_some legs whole old new last s e f h =
    append_assoc legs (s ∷ []) (reverse (all_some new))
    ∙ (ap (λ (x : List Segment). legs ++ x) (sym (ap (λ (os : List (Option Segment)). reverse (all_some os)) (e ∙ ap (λ (o : Option Segment). new ++ o ∷ []) f)
    ∙ (ap reverse (all_some-more new s) ∙ reverse-append (all_some new) (s ∷ [])))) ∙ h)

pub turned_none : (legs whole : List Segment) (old new : List (Option Segment)) (last : Option Segment) → old ≡ new ++ last ∷ [] → last ≡ None
    → legs ++ reverse (all_some old) ≡ whole → legs ++ reverse (all_some new) ≡ whole
turned_none legs whole old new last e f h =
    ap (λ (x : List Segment). legs ++ x) (sym (ap (λ (os : List (Option Segment)). reverse (all_some os)) (e ∙ ap (λ (o : Option Segment). new ++ o ∷ []) f)
    ∙ ap reverse (all_some-none new))) ∙ h
