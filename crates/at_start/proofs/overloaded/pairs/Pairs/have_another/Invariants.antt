use Rattle.std.proofs.Common.{◌≡◌, ◌∷◌, ◌&&◌, [], drop, nat_eq, not}
use Rattle.std.specs.List.{list_any}
use Rattle.at_start.specs.Pairs.{has_pair}
use Rattle.at_start.proofs.Overloads.{numbers}
use Rattle.at_start.proofs.overloaded.pairs.Pairs.have_another.Given as goal

-- none before is such
abbrev pub invariant-loop-number : goal.invariant-loop-number
invariant-loop-number l =
    list_any (λ n. not (nat_eq n l.count) && has_pair l.self l.name n) numbers
    ≡ list_any (λ n. not (nat_eq n l.count) && has_pair l.self l.name n) (drop l.number numbers)
