use Rattle.std.proofs.Common.{◌∙◌, ap, sym, arith}
use Rattle.std.specs.Prelude.{not}
use Rattle.at_class.specs.Checks.{unknown_by, unknown_at}
use Rattle.at_class.specs.View.{named_in}
use Rattle.at_class.specs.Grammar.{declaration_view, place_view}
use Rattle.at_class.proofs.Firsts.{first_here, none_more, none_at_all, some_if, none_if}
use Rattle.at_class.proofs.checks.unknown_class.Goals as goal

pub returns-then-not-is_known : goal.returns-then-not-is_known
unfolding unknown_by
returns-then-not-is_known c =
    let f = unknown_at (named_in c.args.names.now.keys) in
    sym (first_here f declaration_view c.args.declarations.now c.loop-declaration.declaration-index
    c.declaration-item.result (place_view c.declaration-item.result.at) (omega arith) c.declaration-item.is
    c.loop-declaration.invariant (some_if _ _ (ap not (sym c.is_known.ensures ∙ c.if-not-is_known.true))))

pub loop-declaration-preserved : goal.loop-declaration-preserved
loop-declaration-preserved c =
    let f = unknown_at (named_in c.args.names.now.keys) in
    none_more f declaration_view c.args.declarations.now c.loop-declaration.declaration-index c.declaration-item.result
    (omega arith) c.declaration-item.is (none_if _ _ (ap not (sym c.is_known.ensures ∙ c.if-not-is_known.false)))
    c.loop-declaration.invariant

pub returns : goal.returns
unfolding unknown_by
returns c = sym (none_at_all (unknown_at (named_in c.args.names.now.keys)) declaration_view c.args.declarations.now c.loop-declaration.declaration-index (omega arith) c.loop-declaration.invariant)
