-- What the beginning of a term that was found stands for.
use Rattle.std.specs.Prelude.{◌≡◌, ℕ, Bool, true, false, not, ◌&&◌, List, Some, None}
use Rattle.au_model.specs.Syntax.Characters.{chars_from}
use Rattle.au_model.specs.Syntax.Tokens as words
use Rattle.au_model.specs.Syntax.Tokens.{Token, tokens_of}
use Rattle.au_model.specs.Syntax.Trees.{Tree, VarTree, IntTree, AtomTree, text_tree}
use Rattle.au_model.specs.Syntax.Operators.{OperatorTable, prefix_of}
use Rattle.au_model.specs.Syntax.PostOperators.{named_post_operator}
use Rattle.au_model.specs.Syntax.Primaries as begun
use Rattle.au_model.specs.Syntax.Primaries.{Setting, is_post_operator, is_some_operator, has_direct_open, has_direct_integer}
use Rattle.au_model.specs.declared.types.DoubleQuotes.{DoubleQuotes}
use Rattle.op_table.specs.OperatorView.{operator_meant}
use Rattle.term_reader.specs.FollowingToken.{IsPlaceAfterTokens}
use Rattle.term_reader.specs.declared.primary.Source.{Source}
use Rattle.term_reader.specs.declared.primary.Leaf.{Leaf}
use Rattle.term_reader.specs.declared.primary.Leaf.TheVariants as leaf
use Rattle.term_reader.specs.declared.primary.Primary.{Primary}
use Rattle.term_reader.specs.declared.primary.Primary.TheVariants as kind

abbrev pub setting_of : Source → Setting
setting_of s = record { ops = s.ops.now; quotes = s.quotes }

-- a name is an operator between its neighbours
abbrev pub is_operator_between : OperatorTable → List ℕ → Bool → List Token → Bool
is_operator_between ops n is_sign ts = is_post_operator (named_post_operator ops n) && (not (is_some_operator (prefix_of ops n)) && (not (has_direct_open ts) && not (is_sign && has_direct_integer ts)))

-- a bracket, the comma or the bar, after which nothing of the operand comes
abbrev pub is_ending_mark : words.Lexeme → Bool
is_ending_mark words.Close = true
is_ending_mark words.CloseList = true
is_ending_mark words.CloseCurly = true
is_ending_mark words.Comma = true
is_ending_mark words.Bar = true
is_ending_mark _ = false

abbrev pub leaf_tree : DoubleQuotes → Leaf → Tree
leaf_tree quotes (leaf.Variable n) = VarTree n
leaf_tree quotes (leaf.Integer z) = IntTree z
leaf_tree quotes (leaf.Atom n) = AtomTree n
leaf_tree quotes (leaf.Text cs) = text_tree quotes cs

abbrev pub tokens_at : Source → ℕ → List Token
tokens_at s at = tokens_of (chars_from s.text.now at)

abbrev pub primary_meant : Source → Primary → begun.Primary
primary_meant s (kind.Leaf l end) = begun.Leaf (leaf_tree s.quotes l) (tokens_at s end)
primary_meant s (kind.Alone n o end) = begun.Leaf (AtomTree n) (tokens_at s end)
primary_meant s (kind.Round end) = begun.Bracket (tokens_at s end)
primary_meant s (kind.Curly end) = begun.Curly (tokens_at s end)
primary_meant s (kind.List end) = begun.Listed (tokens_at s end)
primary_meant s (kind.Call n end) = begun.Call n (tokens_at s end)
primary_meant s (kind.Prefix n o end) = begun.Prefix n (operator_meant o) (tokens_at s end)
primary_meant s kind.Fails = begun.Fails

-- the place after it is one of the text, from this one on
abbrev pub PrimaryEndsFrom : List ℕ → ℕ → Primary → Type 0
PrimaryEndsFrom text at (kind.Leaf l end) = IsPlaceAfterTokens text at end
PrimaryEndsFrom text at (kind.Alone n o end) = IsPlaceAfterTokens text at end
PrimaryEndsFrom text at (kind.Round end) = IsPlaceAfterTokens text at end
PrimaryEndsFrom text at (kind.Curly end) = IsPlaceAfterTokens text at end
PrimaryEndsFrom text at (kind.List end) = IsPlaceAfterTokens text at end
PrimaryEndsFrom text at (kind.Call n end) = IsPlaceAfterTokens text at end
PrimaryEndsFrom text at (kind.Prefix n o end) = IsPlaceAfterTokens text at end
PrimaryEndsFrom text at kind.Fails = Unit {0}

-- a name's opening is that of a prefix operator that stands for itself, or that of no prefix operator
abbrev pub IsPrimaryOfName : OperatorTable → List ℕ → Primary → Type 0
IsPrimaryOfName ops n (kind.Alone m o end) = (m ≡ n) × (prefix_of ops n ≡ Some (operator_meant o))
IsPrimaryOfName ops n (kind.Leaf (leaf.Integer z) end) = Unit {0}
IsPrimaryOfName ops n (kind.Leaf l end) = prefix_of ops n ≡ None
IsPrimaryOfName ops n _ = Unit {0}

abbrev pub IsPrimaryOfNoName : Primary → Type 0
IsPrimaryOfNoName (kind.Alone m o end) = ⊥
IsPrimaryOfNoName _ = Unit {0}

abbrev pub IsPrimaryOfLexeme : OperatorTable → words.Lexeme → Primary → Type 0
IsPrimaryOfLexeme ops (words.Name n) o = IsPrimaryOfName ops n o
IsPrimaryOfLexeme ops (words.QuotedName n) o = IsPrimaryOfName ops n o
IsPrimaryOfLexeme ops _ o = IsPrimaryOfNoName o
