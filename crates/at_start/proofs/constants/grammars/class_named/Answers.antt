use Rattle.std.proofs.Common.{◌∙◌, sym}
use Rattle.std.specs.Str.{bytes_eq}
use Rattle.at_class.specs.Grammar.{declaration_view}
use Rattle.at_class.proofs.Named.{position-map}
use Rattle.at_start.proofs.constants.grammars.class_named.Goals as goal

pub returns : goal.returns
returns c = c.class_position.ensures ∙ sym (position-map (λ d. bytes_eq c.args.name.now d.name) declaration_view c.args.classes.now)
