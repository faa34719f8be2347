use Rattle.std.proofs.Common.{◌≡◌, ℕ, List, ◌++◌}
use Rattle.at_text.specs.Place.{place_after}
use Rattle.at_text.proofs.place.Place.behind.Given as goal

abbrev pub invariant-loop-c : goal.invariant-loop-c
invariant-loop-c l = (front : List ℕ) → l.fn.self ≡ place_after front → l.at ≡ place_after (front ++ l.yielded)
