use Rattle.std.proofs.Common.{ap}
use Rattle.at_grammar.specs.Forms.{left}
use Rattle.at_grammar.proofs.Paths.{reads_kind_name, stops_kind_name}
use Rattle.at_grammar.proofs.reader.Reader.kind_name.Goals as goal

pub returns-in_ok-from_str-in-Some : goal.returns-in_ok-from_str-in-Some
returns-in_ok-from_str-in-Some c = (
  record { text = c.in-Some.token.now.text.now; at = c.in-Some.token.now.at },
  c.in_ok-from_str-in-Some.ensures.ok,
  reads_kind_name _ _ _ c.in-Some.ensures.0 c.in-Some.ensures.1,
)

pub returns-in-None : goal.returns-in-None
returns-in-None c = stops_kind_name _ _ (ap left c.in-None.ensures.0) c.in-None.ensures.1
