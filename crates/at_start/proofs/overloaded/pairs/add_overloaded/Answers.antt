use Rattle.std.proofs.Common.{◌∙◌, sym}
use Rattle.std.proofs.lemmas.Result.{on_ok_weaker}
use Rattle.at_start.specs.Overloading.{is_declared_by}
use Rattle.at_start.specs.Pairs.{has_pair, needs_in}
use Rattle.at_start.proofs.Overloads.{none_more, one_more}
use Rattle.at_start.proofs.overloaded.pairs.add_overloaded.Goals as goal

pub returns-then-not-needs_number : goal.returns-then-not-needs_number
returns-then-not-needs_number c = λ name count.
    none_more (has_pair c.args.found.now name count) (is_declared_by name count c.args.one.now)
    (needs_in c.args.classes.now c.args.all.now c.args.one.now) (sym c.needs_number.ensures ∙ c.if-not-needs_number.true)

pub returns : goal.returns
returns c =
    on_ok_weaker c.add.result
    (λ added name count. added name count
    ∙ one_more (has_pair c.args.found.now name count) (is_declared_by name count c.args.one.now)
    (needs_in c.args.classes.now c.args.all.now c.args.one.now) (sym c.needs_number.ensures ∙ c.if-not-needs_number.false)) c.add.ensures
