use Rattle.at_start.specs.Starts.{aspect_bytes}
use Rattle.at_start.proofs.RulesTyped.{given_plain}
use Rattle.at_start.proofs.laws.none_circular.Goals as goal

pub returns : goal.returns
returns c files rules state off starts =
    given_plain files.language off starts.marks starts.declarations (aspect_bytes files.aspects.items) rules starts.aspects
