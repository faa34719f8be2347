use Rattle.std.proofs.Common.{◌∙◌, sym}
use Rattle.std.specs.Str.{bytes_eq}
use Rattle.at_class.specs.Grammar.{part_declaration_view}
use Rattle.at_class.proofs.Named.{position-map}
use Rattle.at_start.proofs.constants.grammars.part_called.Goals as goal

pub returns : goal.returns
returns c = c.part_position.ensures ∙ sym (position-map (λ p. bytes_eq c.args.name.now p.name) part_declaration_view c.args.parts.now)
