use Rattle.std.proofs.Common.{◌≡◌, drop, is_some}
use Rattle.at_kinds.specs.Accessors.{accessor_named, is_accessed}
use Rattle.at_model.specs.Declarations.{first_given}
use Rattle.at_start.proofs.lists.is_accessed.Given as goal

-- no class before has such an accessor
abbrev pub invariant-loop-class : goal.invariant-loop-class
invariant-loop-class l =
    is_accessed l.fn.classes l.fn.name ≡ is_some (first_given (λ c k. accessor_named l.fn.classes c l.fn.name) l.class (drop l.class l.fn.classes))
