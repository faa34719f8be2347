use Rattle.std.proofs.Common.{List, Ok, inl, map, subst}
use Rattle.std.proofs.lemmas.Result.{err_from_is_err_and}
use Rattle.at_class.specs.Grammar.{grammar_view, place_view}
use Rattle.at_start.specs.ConstantFaults.{Tells, constants_fault}
use Rattle.at_start.specs.FilesView.{aspects_of}
use Rattle.at_start.specs.Planted.{IsPlanted}
use Rattle.at_start.specs.PlacedView.{placed_view}
use Rattle.at_start.specs.declared.constants.Placed.{Placed as PlacedValue}
use Rattle.at_start.proofs.Ruled.{ruled_by}
use Rattle.at_start.proofs.aspects.AllRead.rules.Goals as goal

pub returns-in_err-classes : goal.returns-in_err-classes
returns-in_err-classes c =
    let ds = grammar_view c.args.declared.grammar in
    let marks = map place_view c.args.declared.marks.items in
    let p = err_from_is_err_and c.from_residual.result c.from_residual.ensures.1 in
    let told = subst (λ (ps : List PlacedValue). Tells (constants_fault marks ds (map placed_view ps)) c.in_err-classes.field-0.0) c.deref.ensures.value
    c.in_err-classes.ensures in
    rw (p.1, p.2) (inl told)

pub returns : goal.returns
returns c =
    let ds = grammar_view c.args.declared.grammar in
    let marks = map place_view c.args.declared.marks.items in
    let classes = c.in_ok-classes.classes in
    let planted = subst (λ (ps : List PlacedValue). IsPlanted marks ds (map placed_view ps) (Ok classes)) c.deref.ensures.value c.in_ok-classes.ensures in
    ruled_by c.args.language marks ds classes (map aspects_of c.args.self.aspects.items) (map placed_view c.args.self.constants.items) c.build.result
    planted.1 planted.0 planted.2 c.build.ensures.lazy c.build.ensures.built c.build.ensures.refused
