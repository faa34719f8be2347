use Rattle.std.proofs.Common.{◌≡◌, ◌++◌, drop}
use Rattle.at_start.specs.Lists.{aliases, aliases_from}
use Rattle.at_start.proofs.lists.aliases.Given as goal

-- those of the classes that are left are still to come
abbrev pub invariant-loop-class : goal.invariant-loop-class
invariant-loop-class l = l.all.items ++ aliases_from l.fn.classes l.class (drop l.class l.fn.classes) ≡ aliases l.fn.classes
