use Rattle.std.proofs.Common.{◌≡◌, ◌<◌, ◌∙◌, ap, arith, length, subst, sym}
use Rattle.at_class.specs.Grammar.{declaration_view, grammar_view}
use Rattle.at_grammar.specs.declared.syntax.ClassDecl.{ClassDecl}
use Rattle.at_grammar.specs.declared.syntax.Grammar.{Grammar}
use Rattle.at_java.specs.Seen.{constant_view}
use Rattle.at_start.specs.Constants.{declaring, with_component}
use Rattle.at_start.proofs.PlantingGrammars.{here, on_ok, one_at}
use Rattle.at_start.proofs.constants.grammars.add_component.Goals as goal

pub returns-then-is_class_of : goal.returns-then-is_class_of
returns-then-is_class_of c =
    let k = constant_view c.args.constant.now in
    let items = c.loop-class.grammar.classes.items in
    let i = c.loop-class.class in
    let x = c.index.result.now in
    let y = c.index_mut.result.now in
    let count : length items ≡ length c.args.grammar.now.classes.items = ap (λ (g : Grammar). length g.classes.items) c.loop-class.invariant.0 in
    let less : i < length items = omega (arith, c.loop-class-test.true, c.len-class-end.ensures, count) in
    let same : y ≡ x = one_at items i y x less c.index_mut.ensures.value c.index.ensures in
    on_ok c.declare.result (λ declares.
    here declaration_view k items i x c.declare.new.class less c.index.ensures (sym c.is_class_of.ensures ∙ c.if-is_class_of.true)
    (declares ∙ ap (λ (d : ClassDecl). declaring (declaration_view d) k) same) c.loop-class.invariant.1
    ∙ ap (λ (g : Grammar). with_component (grammar_view g) k) c.loop-class.invariant.0) c.declare.ensures
