use Rattle.std.proofs.Common.{◌≡◌, ◌∙◌, arith, map, refl, subst, sym}
use Rattle.std.proofs.lemmas.Result.{err_from_is_err_and}
use Rattle.at_model.specs.Declarations.{AreNamed, Declarations}
use Rattle.at_class.specs.Grammar.{grammar_view, place_view}
use Rattle.at_start.specs.Constants.{additions}
use Rattle.at_start.specs.ConstantFaults.{first_breach, unnamed}
use Rattle.at_start.specs.PlacedView.{placed_view}
use Rattle.at_start.proofs.PlantingGrammars.{component_named, named_is}
use Rattle.at_start.proofs.PlantingLoops.{breaks_here, breaks_later, breaks_nowhere, fills_here, none_at}
use Rattle.at_start.proofs.constants.faults.look_at_components.Goals as goal

pub loop-placed-init : goal.loop-placed-init
loop-placed-init c =
    let same = c.in_ok-whole.ensures in
    let ks = additions (map place_view c.args.marks.now) (grammar_view c.args.grammar.now) (map placed_view c.args.constants.now) in (
      subst AreNamed (sym same) c.requires.named,
      c.requires.names,
      subst (λ (ds : Declarations). first_breach (grammar_view c.args.grammar.now) ks ≡ first_breach ds ks) (sym same) refl,
    )

pub loop-placed-preserved-then-fills : goal.loop-placed-preserved-then-fills
loop-placed-preserved-then-fills c =
    let x = c.placed-item.result in
    let whole = grammar_view c.loop-placed.whole in
    let here = none_at unnamed placed_view c.args.constants.now c.loop-placed.placed-index x (omega arith) c.placed-item.is c.loop-placed.invariant.1 in (
      c.loop-placed.invariant.0,
      here.1,
      fills_here placed_view (map place_view c.args.marks.now) (grammar_view c.args.grammar.now) c.args.constants.now c.loop-placed.placed-index x
          (omega arith) c.placed-item.is whole whole _ c.loop-placed.invariant.2 (sym c.fills.ensures ∙ c.if-fills.true),
    )

pub look_at_component-requires : goal.look_at_component-requires
look_at_component-requires c =
    let here = none_at unnamed placed_view c.args.constants.now c.loop-placed.placed-index c.placed-item.result (omega arith) c.placed-item.is
    c.loop-placed.invariant.1 in
    record { named = c.loop-placed.invariant.0; name = here.0 }

pub returns-in_err-look_at_component : goal.returns-in_err-look_at_component
returns-in_err-look_at_component c =
    let whole = grammar_view c.loop-placed.whole in
    let p = err_from_is_err_and c.from_residual-in_err-look_at_component.result c.from_residual-in_err-look_at_component.ensures.1 in
    rw (p.1, p.2) (breaks_here placed_view (map place_view c.args.marks.now) (grammar_view c.args.grammar.now) c.args.constants.now c.loop-placed.placed-index
    c.placed-item.result (omega arith) c.placed-item.is whole whole _ c.loop-placed.invariant.2 (sym c.fills.ensures ∙ c.if-fills.false)
    c.in_err-look_at_component.field-0.0 c.in_err-look_at_component.ensures.fault)

pub loop-placed-preserved : goal.loop-placed-preserved
loop-placed-preserved c =
    let x = c.placed-item.result in
    let whole = grammar_view c.loop-placed.whole in
    let after = grammar_view c.look_at_component.new.whole in
    let here = none_at unnamed placed_view c.args.constants.now c.loop-placed.placed-index x (omega arith) c.placed-item.is c.loop-placed.invariant.1 in (
      subst AreNamed (sym c.in_ok-look_at_component.ensures.added)
          (component_named whole (placed_view x).constant c.loop-placed.invariant.0 (named_is (placed_view x) here.0)),
      here.1,
      breaks_later placed_view (map place_view c.args.marks.now) (grammar_view c.args.grammar.now) c.args.constants.now c.loop-placed.placed-index x
          (omega arith) c.placed-item.is whole after _ c.loop-placed.invariant.2 (sym c.fills.ensures ∙ c.if-fills.false)
          c.in_ok-look_at_component.ensures.added c.in_ok-look_at_component.ensures.fault,
    )

pub returns : goal.returns
returns c = breaks_nowhere placed_view (map place_view c.args.marks.now) (grammar_view c.args.grammar.now) c.args.constants.now c.loop-placed.placed-index
    (grammar_view c.loop-placed.whole) _ (omega arith) c.loop-placed.invariant.2
