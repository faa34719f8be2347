use Rattle.std.proofs.Common.{◌∙◌, ap, sym, subst, length, map}
use Rattle.std.specs.Prelude.{option_map}
use Rattle.std.proofs.lemmas.Bool.{ltb-true, ltb-false}
use Rattle.at_model.specs.Declarations.{is_twice}
use Rattle.at_class.specs.Grammar.{part_declaration_view, place_view}
use Rattle.at_class.specs.Taken.{IsFirst}
use Rattle.at_class.proofs.Places.{twice_nowhere, twice_past, twice_there}
use Rattle.at_class.proofs.checks.twice_at.Goals as goal

pub returns-in_err-found : goal.returns-in_err-found
returns-in_err-found c = λ classes class found.
    ap (option_map place_view) c.from_residual.ensures ∙ sym (twice_nowhere classes class (map part_declaration_view
    c.args.parts.now) (subst (IsFirst (is_twice classes class)) c.in_err-found.was found.twice))

pub returns-in_err-get : goal.returns-in_err-get
returns-in_err-get c = λ classes class found.
    let i = c.in_ok-found.field-0 in
    let parts = c.args.parts.now in
    ap (option_map place_view) c.from_residual-in_err-get.ensures
    ∙ sym (twice_past classes class i parts (subst (IsFirst (is_twice classes class)) c.in_ok-found.was found.twice)
    (ltb-false i (length parts) (sym c.in_err-get.ensures.lookup.0)))

pub returns : goal.returns
returns c = λ classes class found.
    let i = c.in_ok-found.field-0 in
    let parts = c.args.parts.now in
    sym (twice_there classes class i parts c.in_ok-get.field-0.now
    (subst (IsFirst (is_twice classes class)) c.in_ok-found.was found.twice)
    (ltb-true i (length parts) (sym c.in_ok-get.ensures.lookup.0)) c.in_ok-get.ensures.lookup.1)
