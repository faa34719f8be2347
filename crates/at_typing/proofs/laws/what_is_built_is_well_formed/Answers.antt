use Rattle.at_typing.proofs.BuiltWellFormed.{built_well_formed}
use Rattle.at_typing.proofs.laws.what_is_built_is_well_formed.Goals as goal

pub returns : goal.returns
returns c allowed classes files rules hierarchy spelled built =
    built_well_formed allowed classes files rules hierarchy spelled built
