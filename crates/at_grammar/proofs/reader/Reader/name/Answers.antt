use Rattle.std.proofs.Common.{refl, sym, ap, ◌∙◌}
use Rattle.at_text.specs.Symbols.{symbols, words_keep}
use Rattle.at_grammar.proofs.Paths.{reads_name, stops_name}
use Rattle.at_grammar.proofs.Tokens.{same_left, next_name}
use Rattle.at_grammar.proofs.reader.Reader.name.Goals as goal

pub returns-in_ok-from_str-in-Some : goal.returns-in_ok-from_str-in-Some
returns-in_ok-from_str-in-Some c = (
  record { text = c.in-Some.token.now.text.now; at = c.in-Some.token.now.at },
  (c.in_ok-from_str-in-Some.ensures.ok, refl),
  reads_name _ _ _ (ap (symbols words_keep) c.in-Some.ensures.0) c.in-Some.ensures.1,
)

pub returns-in-None : goal.returns-in-None
returns-in-None c = stops_name _ _ (same_left _ _ c.in-None.ensures.0) (sym (next_name _) ∙ c.in-None.ensures.1)
