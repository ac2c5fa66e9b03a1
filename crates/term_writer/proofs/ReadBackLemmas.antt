-- What is written is spelled.
use Rattle.std.proofs.Common.{true, false, [], ◌∷◌, refl}
use Rattle.au_term.specs.Term.{Term, VarTerm, IntTerm, AtomTerm, Compound, Terms, end, more}
use Rattle.au_model.specs.Syntax.Operators.{IsOperatorTable}
use Rattle.au_model.specs.Syntax.Tokens.{token, End}
use Rattle.au_model.specs.Syntax.Primaries.{Setting}
use Rattle.au_model.specs.Syntax.Spelling.{Operand, operand}
use Rattle.au_model.specs.Writing.Pieces.{Space, Put, NothingYet}
use Rattle.au_model.specs.Writing.ReadBack.{tree_of, IsWritable, AreWritable}
use Rattle.term_writer.specs.TokensWithEnd.{tokens_with_end}
use Rattle.term_writer.proofs.PieceSeamLemmas.{beyond, stops}
use Rattle.term_writer.proofs.WrittenFormLemmas.{Known, AllKnown, bar-tails, var-facts, int-facts, atom-facts, atom-tails, compound-known}

module _ (s : Setting) (table : IsOperatorTable s.ops) where
  mutual
    pub known : (t : Term) → IsWritable t → Known s table t
    known (VarTerm n) h = record { facts = var-facts s table n; tails = bar-tails s table (VarTerm n) false (var-facts s table n) refl (λ rest. refl) }
    known (IntTerm z) h = record { facts = int-facts s table z h; tails = bar-tails s table (IntTerm z) false (int-facts s table z h) refl (λ rest. refl) }
    known (AtomTerm n) h = record { facts = atom-facts s table n; tails = atom-tails s table n }
    known (Compound n ts) h = compound-known s table n ts h.1 h.2 (all_known ts h.3)

    pub all_known : (ts : Terms) → AreWritable ts → AllKnown s table ts
    all_known end h = tt
    all_known (more t ts) h = (known t h.0, all_known ts h.1)

pub written_spelled : (s : Setting) → IsOperatorTable s.ops → (t : Term) → IsWritable t → Operand s 1200 (tokens_with_end s.ops t) (token true End ∷ []) (tree_of t)
written_spelled s table t h =
    let f = (known s table t h).facts in
    let r = f.front (Space ∷ Put End ∷ []) (beyond stops) (λ e b. refl) NothingYet in
    operand r.is f.limit refl
