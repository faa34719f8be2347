use Rattle.std.proofs.Common.{◌∙◌, ap, sym}
use Rattle.std.specs.Prelude.{option_map}
use Rattle.std.proofs.lemmas.Result.{err_from_is_err_and}
use Rattle.at_model.specs.Declarations.{class_twice}
use Rattle.at_class.specs.declared.fault.ClassCode.TheVariants.{ClassTwice, UnknownClass}
use Rattle.at_class.specs.Grammar.{declarations_view, place_view}
use Rattle.at_class.proofs.Named.{unknown-declared}
use Rattle.at_class.proofs.Order.{refused_for, fault_no_class, fault_class_twice, fault_unknown_class}
use Rattle.at_class.proofs.Whole.{none_declared, some_declared}
use Rattle.at_class.proofs.rules.known_names.Goals as goal

pub returns-then-is_empty-clause-refused : goal.returns-then-is_empty-clause-refused
returns-then-is_empty-clause-refused c =
    fault_no_class (declarations_view c.args.declarations.now) (1, 1) (none_declared c.args.declarations.now (sym c.is_empty.ensures ∙ c.if-is_empty.true))

pub returns-in_err-put_names-clause-refused : goal.returns-in_err-put_names-clause-refused
returns-in_err-put_names-clause-refused c =
    let xs = c.args.declarations.now in
    let ds = declarations_view xs in
    let a = some_declared xs (sym c.is_empty.ensures ∙ c.if-is_empty.false) in
    let p = err_from_is_err_and c.from_residual.result c.from_residual.ensures.1 in
    rw (p.1, p.2) (refused_for ds ClassTwice (class_twice ds) _ (λ at there. fault_class_twice ds at a there) c.in_err-put_names.ensures.err)

pub returns-in_err-refuse-clause-refused : goal.returns-in_err-refuse-clause-refused
returns-in_err-refuse-clause-refused c =
    let xs = c.args.declarations.now in
    let ds = declarations_view xs in
    let a = some_declared xs (sym c.is_empty.ensures ∙ c.if-is_empty.false) in
    let names = c.in_ok-put_names.ensures.ok in
    let to-u = sym (unknown-declared c.put_names.new.names.keys xs names.1) ∙ sym c.unknown_class.ensures in
    let p = err_from_is_err_and c.from_residual-in_err-refuse.result c.from_residual-in_err-refuse.ensures.1 in
    rw (p.1, p.2) (refused_for ds UnknownClass (option_map place_view c.unknown_class.result) _ (λ at there. fault_unknown_class ds at a names.0 (to-u ∙ there)) c.in_err-refuse.ensures.err)

pub returns-clause-known : goal.returns-clause-known
returns-clause-known c =
    let xs = c.args.declarations.now in
    let names = c.in_ok-put_names.ensures.ok in (
      names.1,
      record {
        some = some_declared xs (sym c.is_empty.ensures ∙ c.if-is_empty.false);
        once = names.0;
        known = sym (unknown-declared c.put_names.new.names.keys xs names.1) ∙ sym c.unknown_class.ensures ∙ ap (option_map place_view) c.in_ok-refuse.ensures.ok;
      },
    )
