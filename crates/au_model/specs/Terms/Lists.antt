-- Arguments from a list.
use Rattle.std.specs.Prelude.{List, [], ◌∷◌}
use Rattle.au_term.specs.Term.{Term, Terms, end, more}

abbrev pub terms_from : List Term → Terms
terms_from [] = end
terms_from (t ∷ ts) = more t (terms_from ts)
