-- Bytes that wait, and those that were put out.
use Rattle.std.proofs.Common.{◌≡◌, ℕ, ◌+◌, List, [], ◌++◌, length, take, min, Option, Some, None, Result, Ok, Err, OnErr, sym, ap, ◌∙◌, subst, append_assoc, append-nil, arith}
use Rattle.std.proofs.Math.Seq.{take-append_seam, take-append-add}
use Rattle.std.proofs.lemmas.List.{take-append-le, take_min}
use Rattle.au_io.specs.FaultCounts.{Appended, AppendedPrefix}
use Rattle.stack_run.specs.Pieces.{PutsOut}

pub on_err : {T E : Type 0} (r : Result T E) {P Q : Type 0} → (P → Q) → OnErr r P → OnErr r Q
on_err (Ok x) f h = tt
on_err (Err e) f h = f h

-- two lists of bytes were put out
pub took_both : (a b c : Option (List ℕ)) (x y : List ℕ) → Appended a b x → Appended b c y → Appended a c (x ++ y)
took_both None b c x y h k = tt
took_both (Some old) None c x y h k = cc
took_both (Some old) (Some new) c x y h k = k ∙ ap Some (ap (λ z. z ++ y) (inside h) ∙ append_assoc old x y)
  where
    inside : Some new ≡ Some (old ++ x) → new ≡ old ++ x
    inside e = cc

-- all bytes are a front of themselves
pub all_in_front : (a b : Option (List ℕ)) (x : List ℕ) → Appended a b x → AppendedPrefix a b x
all_in_front None b x h = tt
all_in_front (Some old) b x h = (length x, h ∙ ap (λ z. Some (old ++ z)) (sym (sym (ap (take (length x)) (append-nil x)) ∙ take-append_seam x [])))

-- a front is one of more bytes
pub front_of_more : (a b : Option (List ℕ)) (x more : List ℕ) → AppendedPrefix a b x → AppendedPrefix a b (x ++ more)
front_of_more None b x more h = tt
front_of_more (Some old) b x more h = (min h.0 (length x), h.1 ∙ ap (λ z. Some (old ++ z)) (sym (take-append-le (min h.0 (length x)) x more (omega arith) ∙ take_min h.0 x)))

-- a front after bytes that were put out
pub front_after : (a b c : Option (List ℕ)) (x y : List ℕ) → Appended a b x → AppendedPrefix b c y → AppendedPrefix a c (x ++ y)
front_after None b c x y h k = tt
front_after (Some old) None c x y h k = cc
front_after (Some old) (Some new) c x y h k =
    (length x + k.0, k.1 ∙ ap Some (ap (λ z. z ++ take k.0 y) (inside h) ∙ (append_assoc old x (take k.0 y) ∙ ap (λ z. old ++ z) (sym (take-append-add x y k.0)))))
  where
    inside : Some new ≡ Some (old ++ x) → new ≡ old ++ x
    inside e = cc

-- what waits is put out in its turn
pub put_more : (a b c : Option (List ℕ)) (text waiting left : List ℕ) → PutsOut a b text waiting → PutsOut b c waiting left → PutsOut a c text left
put_more a b c text waiting left h k = record {
  front = h.front ++ k.front;
  appended = took_both a b c h.front k.front h.appended k.appended;
  joined = h.joined ∙ (ap (λ z. h.front ++ z) k.joined ∙ sym (append_assoc h.front k.front left));
}

-- more is written, and waits
pub waits : (a b : Option (List ℕ)) (text waiting more : List ℕ) → PutsOut a b text waiting → PutsOut a b (text ++ more) (waiting ++ more)
waits a b text waiting more h = record {
  front = h.front;
  appended = h.appended;
  joined = ap (λ z. z ++ more) h.joined ∙ append_assoc h.front waiting more;
}

-- all that waited is out
pub all_out : (a b c : Option (List ℕ)) (text waiting : List ℕ) → PutsOut a b text waiting → Appended b c waiting → Appended a c text
all_out a b c text waiting h k = subst (Appended a c) (sym h.joined) (took_both a b c h.front waiting h.appended k)

-- a front of what waited is out
pub front_out : (a b c : Option (List ℕ)) (text waiting : List ℕ) → PutsOut a b text waiting → AppendedPrefix b c waiting → AppendedPrefix a c text
front_out a b c text waiting h k = subst (AppendedPrefix a c) (sym h.joined) (front_after a b c h.front waiting h.appended k)

-- nothing was put out
pub nothing_out : (o : Option (List ℕ)) (text waiting : List ℕ) → text ≡ waiting → PutsOut o o text waiting
nothing_out o text waiting e = record { front = []; appended = none o; joined = e }
  where
    none : (p : Option (List ℕ)) → Appended p p []
    none None = tt
    none (Some old) = ap Some (sym (append-nil old))
