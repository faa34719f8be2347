use Rattle.std.proofs.Common.{◌∙◌, ap, sym}
use Rattle.std.specs.Prelude.{position}
use Rattle.std.specs.Str.{bytes_eq}
use Rattle.at_class.specs.View.{part_view}
use Rattle.at_class.proofs.Named.{position-map}
use Rattle.at_class.proofs.table.ClassTable.part_named.Goals as goal

pub returns-clause-found : goal.returns-clause-found
returns-clause-found c =
    c.position_named.ensures
    ∙ sym (position-map (λ p. bytes_eq p.name c.args.name.now) part_view c.parts.result.now)
    ∙ ap (position (λ p. bytes_eq p.name c.args.name.now)) c.parts.ensures
