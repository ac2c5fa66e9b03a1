use Rattle.std.proofs.Common.{◌≡◌, not, ◌||◌, ◌&&◌, sym, ap, ap₂, ◌∙◌, codes}
use Rattle.std.specs.Str.{chars}
use Rattle.au_model.specs.Terms.Forms.{same_name}
use Rattle.au_model.specs.Writing.NameForms.{is_symbol_name}
use Rattle.au_model.specs.Writing.WrittenTerms.{name_token, spaced, begins_with, is_open, is_integer_term}
use Rattle.term_writer.specs.declared.text.Front.TheVariants.{Token}
use Rattle.term_writer.specs.declared.text.Side.TheVariants.{Symbols}
use Rattle.term_writer.specs.TextInProgress.{bytes_with}
use Rattle.term_writer.proofs.SeamLemmas.{token_put}
use Rattle.term_writer.proofs.NameTokenLemmas.{symbols_side}
use Rattle.term_writer.proofs.text.Text.symbol_prefix.Goals as goal

pub returns : goal.returns
returns c = λ ps.
    let old = c.args.self.now in
    let new = c.name_token.new.self in
    let n = chars c.args.name.now in
    let front = c.in_ok-name_token.ensures.front ∙ ap Token (symbols_side n c.requires) in
    let space = not (is_symbol_name n) || (begins_with is_open ps || (same_name n (codes "-") && begins_with is_integer_term ps)) in
    let same : (begins_with is_open ps || (c.is_text.result && begins_with is_integer_term ps)) ≡ space =
    ap₂ (λ b s. not s || (begins_with is_open ps || (b && begins_with is_integer_term ps))) c.is_text.ensures (sym c.requires) in
    ap (λ b. bytes_with new.style new.bytes.items (Token Symbols) (spaced b ps)) same
    ∙ (ap (λ f. bytes_with new.style new.bytes.items f (spaced space ps)) (sym front)
    ∙ token_put old.style _ old.bytes.items _ old.front _ (name_token n) c.in_ok-name_token.ensures.bytes c.in_ok-name_token.ensures.style c.in_ok-name_token.ensures.front (spaced space ps))
