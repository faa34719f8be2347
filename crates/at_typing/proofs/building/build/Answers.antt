use Rattle.std.proofs.Common.{◌≡◌, ◌∙◌, ap, sym, subst, map, Err, None}
use Rattle.std.specs.Prelude.{All, Vec}
use Rattle.std.specs.Global.{Global}
use Rattle.std.proofs.lemmas.Result.{err_from_is_err_and}
use Rattle.at_jrag.specs.View.{aspect_view}
use Rattle.at_jrag.specs.declared.syntax.Aspect.{Aspect}
use Rattle.at_typing.specs.Building.{first_fault, meanings, Builds}
use Rattle.at_typing.specs.Located.{declarations_in}
use Rattle.at_typing.specs.Numbering.{numbered_view, AreNumbered, IsNamed}
use Rattle.at_typing.specs.Seen.{Stands}
use Rattle.at_typing.proofs.Built.{meant_fault}
use Rattle.at_typing.proofs.BuiltWellFormed.{built_if_ok, plain_if_ok, kept_if_ok}
use Rattle.at_typing.proofs.Singles.{single_if_ok}
use Rattle.at_typing.proofs.building.build.Goals as goal

pub meant_together-requires : goal.meant_together-requires
meant_together-requires c = subst (AreNumbered c.args.classes) (sym c.deref.ensures.value) c.in_ok-declared.ensures.numbered

pub returns-in_err-meant-clause-built : goal.returns-in_err-meant-clause-built
returns-in_err-meant-clause-built c =
    let xs = c.deref.result.now in
    let all = ap (map numbered_view) c.deref.ensures.value ∙ c.in_ok-declared.ensures.declared in
    let p = err_from_is_err_and c.from_residual-in_err-meant.result c.from_residual-in_err-meant.ensures.1 in
    rw (p.1, p.2) (subst (λ ds. Builds c.args.arguments c.args.classes ds (Err c.in_err-meant.field-0.0)) all
    (meant_fault c.args.arguments c.args.classes xs c.in_err-meant.field-0.0 c.in_err-meant.ensures))

pub complete_rules-requires : goal.complete_rules-requires
complete_rules-requires c =
    let classes = c.args.classes in
    let keys = c.in_ok-declared.declared.names.keys in
    let named = subst (All (IsNamed keys)) (sym c.deref.ensures.value) c.in_ok-declared.ensures.named in
    subst (λ xs. (first_fault c.args.arguments classes (map numbered_view xs) ≡ None)
    × Stands keys (meanings c.args.arguments classes (map numbered_view xs) (map numbered_view xs)) c.in_ok-meant.meant)
    c.deref.ensures.value (c.in_ok-meant.ensures.0, c.in_ok-meant.ensures.1 keys named)

pub returns-clause-built : goal.returns-clause-built
returns-clause-built c = subst (λ ds. Builds c.args.arguments c.args.classes ds c.complete_rules.result)
    c.in_ok-declared.ensures.declared c.complete_rules.ensures.built

pub returns-clause-well_formed : goal.returns-clause-well_formed
returns-clause-well_formed c hierarchy spelled =
    built_if_ok c.args.arguments c.args.classes
    (map (λ (f : Vec Aspect Global). map aspect_view f.items) c.args.files.now) c.complete_rules.result hierarchy
    spelled (returns-clause-built c)

pub returns-clause-single : goal.returns-clause-single
returns-clause-single c = single_if_ok c.args.arguments c.args.classes
    (declarations_in c.args.files.now) c.complete_rules.result (returns-clause-built c)

pub returns-clause-none_circular : goal.returns-clause-none_circular
returns-clause-none_circular c plain =
    plain_if_ok c.args.arguments c.args.classes (declarations_in c.args.files.now) c.complete_rules.result plain
    (returns-clause-built c)

pub returns-clause-circular_lazy : goal.returns-clause-circular_lazy
returns-clause-circular_lazy c =
    kept_if_ok c.args.arguments c.args.classes (declarations_in c.args.files.now) c.complete_rules.result
    (returns-clause-built c)
