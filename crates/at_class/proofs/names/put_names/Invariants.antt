use Rattle.std.proofs.Common.{◌≡◌, map, take, drop}
use Rattle.std.specs.Prelude.{string_bytes}
use Rattle.at_model.specs.Declarations.{first_given}
use Rattle.at_class.specs.Grammar.{declaration_view, declarations_view}
use Rattle.at_class.proofs.Firsts.{twice_test}
use Rattle.at_class.proofs.names.put_names.Given as goal

abbrev pub invariant-loop-declaration : goal.invariant-loop-declaration
invariant-loop-declaration l =
    (map string_bytes l.names.keys ≡ map (λ d. string_bytes d.name) (take l.declaration-index l.declarations))
    × (first_given (twice_test (declarations_view l.declarations)) 0 (declarations_view l.declarations)
    ≡ first_given (twice_test (declarations_view l.declarations)) l.declaration-index
    (map declaration_view (drop l.declaration-index l.declarations)))
