use Rattle.std.proofs.Common.{◌≡◌, ◌++◌, map, take, drop}
use Rattle.at_class.specs.Grammar.{declaration_view, grammar_view}
use Rattle.at_java.specs.Seen.{constant_view}
use Rattle.at_start.specs.Constants.{with_component}
use Rattle.at_start.proofs.constants.grammars.add_component.Given as goal

-- none of the classes in front has that name
abbrev pub invariant-loop-class : goal.invariant-loop-class
invariant-loop-class l = (l.grammar ≡ l.fn.grammar) × (with_component (grammar_view l.grammar) (constant_view l.constant)
    ≡ map declaration_view (take l.class l.grammar.classes.items) ++ with_component (map declaration_view (drop l.class l.grammar.classes.items)) (constant_view l.constant))
