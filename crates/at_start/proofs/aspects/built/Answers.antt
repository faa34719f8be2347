use Rattle.std.proofs.Common.{◌≡◌, List, Vec, ◌∙◌, ap, map, subst}
use Rattle.std.proofs.lemmas.Result.{err_from_is_err_and}
use Rattle.std.specs.Global.{Global}
use Rattle.at_jrag.specs.declared.syntax.Aspect.{Aspect}
use Rattle.at_kinds.specs.declared.arguments.Arguments.{Arguments}
use Rattle.at_typing.specs.Building.{Builds}
use Rattle.at_typing.specs.Located.{located}
use Rattle.at_start.specs.AspectFiles.{arguments_in}
use Rattle.at_start.specs.Redeclaring.{fault_in, read_in}
use Rattle.at_start.proofs.Rereading.{aspects_of}
use Rattle.at_start.proofs.Ruled.{built_behind, stray_told}
use Rattle.at_start.proofs.aspects.built.Goals as goal

pub returns-in_err-aspects-clause-built : goal.returns-in_err-aspects-clause-built
returns-in_err-aspects-clause-built c =
    let language = c.args.language in
    let classes = c.args.classes in
    let aspects = map aspects_of c.args.aspects.items in
    let p = err_from_is_err_and c.from_residual.result c.from_residual.ensures.1 in
    rw (p.1, p.2) (stray_told (arguments_in language) classes (located 1 (read_in language classes aspects))
    (λ (v : Vec (Vec Aspect Global) Global). map aspects_of v.items ≡ read_in language classes aspects)
    (fault_in language classes aspects) c.in_err-aspects.field-0.0 c.in_err-aspects.ensures)

pub returns-clause-built : goal.returns-clause-built
returns-clause-built c =
    let aspects = map aspects_of c.args.aspects.items in
    let read = c.in_ok-aspects.ensures in
    built_behind (arguments_in c.args.language) c.args.classes
    (located 1 (read_in c.args.language c.args.classes aspects)) _ (fault_in
    c.args.language c.args.classes aspects)
    c.build.result read.0
    (ap (λ (fs : List (Vec Aspect Global)). located 1 (map aspects_of fs)) c.deref.ensures.value
    ∙ ap (located 1) read.1)
    (subst (λ (allowed : Arguments). Builds allowed c.args.classes
    (located 1 (map aspects_of c.deref.result.now)) c.build.result)
    c.arguments_in.ensures c.build.ensures.built)
