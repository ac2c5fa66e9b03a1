-- The library: predicates on lists that every text has, as common Prolog systems define them. A name with `$` is the
-- library's own.
use Rattle.std.specs.Prelude.{ℕ, List, [], ◌∷◌, ◌++◌, codes}
use Rattle.text_load.specs.LoadedTexts.{Loading, Loads, first_loading}

-- lines with their line feeds
abbrev lines : List (List ℕ) → List ℕ
lines [] = []
lines (l ∷ ls) = l ++ 10 ∷ lines ls

-- the characters of the library's text
abbrev pub library_text : List ℕ
library_text = lines (
    codes "append([], L, L)."
    ∷ codes "append([H|T], L, [H|R]) :- append(T, L, R)."
    ∷ codes "member(X, [X|_])."
    ∷ codes "member(X, [_|T]) :- member(X, T)."
    ∷ codes "select(X, [X|T], T)."
    ∷ codes "select(X, [H|T], [H|R]) :- select(X, T, R)."
    ∷ codes "reverse(L, R) :- '$reverse'(L, [], R)."
    ∷ codes "'$reverse'([], R, R)."
    ∷ codes "'$reverse'([H|T], A, R) :- '$reverse'(T, [H|A], R)."
    ∷ codes "length(L, N) :- integer(N), !, N >= 0, '$length_to'(L, N)."
    ∷ codes "length(L, N) :- '$length_from'(L, 0, N)."
    ∷ codes "'$length_to'([], 0)."
    ∷ codes "'$length_to'([_|T], N) :- N > 0, M is N - 1, '$length_to'(T, M)."
    ∷ codes "'$length_from'([], N, N)."
    ∷ codes "'$length_from'([_|T], I, N) :- J is I + 1, '$length_from'(T, J, N)."
    ∷ codes "between(L, H, X) :- integer(X), !, X >= L, X =< H."
    ∷ codes "between(L, H, L) :- L =< H."
    ∷ codes "between(L, H, X) :- L < H, M is L + 1, between(M, H, X)."
    ∷ [])

-- the library has no fault
abbrev pub IsLibraryLoaded : Type 0
IsLibraryLoaded = (all : Loading) × Loads first_loading library_text all
