use Rattle.std.proofs.Common.{◌≡◌, map, take}
use Rattle.std.specs.List.{AllByRecursion}
use Rattle.at_class.specs.View.{classes_view}
use Rattle.at_class.specs.Fixing.{IsWritten, fixed_as, fixed_view}
use Rattle.at_class.proofs.fixing.fix_all.Given as goal

abbrev pub invariant-loop-one : goal.invariant-loop-one
invariant-loop-one l = (classes_view l.classes.items ≡ fixed_as (map fixed_view (take l.one-index l.fixed)) (classes_view l.fn.classes.items)) × AllByRecursion IsWritten (map fixed_view (take l.one-index l.fixed))
