-- Where an expression of an instance stands.
use Rattle.at_body.specs.Standing.{Place}
use Rattle.at_evaluate.specs.declared.here.Here.{Here}

abbrev pub place_at : Here → Place
place_at h = record { this = h.this; bound = h.bound; passed = h.arguments; child = h.child }
