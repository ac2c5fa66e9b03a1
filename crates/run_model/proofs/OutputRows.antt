-- Worked rows: output.
use Rattle.std.specs.Prelude.{◌≡◌, [], ◌∷◌, ◌++◌, codes, refl}
use Rattle.au_model.specs.Terms.Forms.{unary, binary}
use Rattle.run_model.specs.declared.ending.RunEnding.TheVariants.{Finished, Budget}
use Rattle.run_model.specs.Programs.Jobs.{Job}
use Rattle.run_model.proofs.RowTerms.{atom, int, asked, lines, shown}

-- ?- (write(a) ; write(b)), fail.
abbrev either : Job
either = asked [] (binary (codes ",") (binary (codes ";") (unary (codes "write") (atom (codes "a"))) (unary (codes "write") (atom (codes "b")))) (atom (codes "fail"))) []

either_6 : shown either 6 ≡ record { text = codes "abno" ++ 10 ∷ []; ending = Finished; answers = 0; inferences = 6 }
unfolding shown
either_6 = refl

-- ?- (true -> write(a) ; write(b)).
abbrev condition : Job
condition = asked [] (binary (codes ";") (binary (codes "->") (atom (codes "true")) (unary (codes "write") (atom (codes "a")))) (unary (codes "write") (atom (codes "b")))) []

condition_6 : shown condition 6 ≡ record { text = codes "a" ++ lines (codes "true" ∷ codes "no" ∷ []); ending = Finished; answers = 1; inferences = 6 }
unfolding shown
condition_6 = refl

condition_5 : shown condition 5 ≡ record { text = codes "a" ++ lines (codes "true" ∷ []); ending = Budget; answers = 1; inferences = 5 }
unfolding shown
condition_5 = refl

-- ?- writeq(- 1), nl, put_char(1).   (where the term is -(1))
abbrev written : Job
written = asked [] (binary (codes ",") (unary (codes "writeq") (unary (codes "-") (int 1))) (binary (codes ",") (atom (codes "nl")) (unary (codes "put_char") (int 1)))) []

written_4 : shown written 4 ≡ record { text = lines (codes "- 1" ∷ codes "error: error(type_error(character,1),put_char/1)" ∷ []); ending = Finished; answers = 0; inferences = 4 }
unfolding shown
written_4 = refl
