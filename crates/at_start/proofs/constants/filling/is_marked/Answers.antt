use Rattle.std.proofs.Common.{◌∙◌, ◌==◌, ◌&&◌, sym}
use Rattle.at_model.specs.Declarations.{Place}
use Rattle.at_class.specs.Grammar.{place_view}
use Rattle.at_start.proofs.PlantingFillings.{any_map}
use Rattle.at_start.proofs.constants.filling.is_marked.Goals as goal

pub returns : goal.returns
returns c =
    c.is_among.ensures ∙ sym (any_map (λ (m : Place). (m.0 == c.args.part.now.at.line) && (m.1 == c.args.part.now.at.column)) place_view c.args.marks.now)
