use Rattle.std.proofs.Common.{◌∙◌, ap, sym}
use Rattle.std.specs.Prelude.{◌||◌}
use Rattle.std.specs.List.{list_any}
use Rattle.std.proofs.lemmas.Bool.{or_left}
use Rattle.std.proofs.lemmas.Result.{IfOk-weaker}
use Rattle.at_model.specs.Declarations.{clash, is_common}
use Rattle.at_class.specs.View.{part_view}
use Rattle.at_class.proofs.taken.TakenNames.is_taken.Goals as goal

pub returns-then-is_common : goal.returns-then-is_common
returns-then-is_common c = λ before k. sym (or_left (is_common (part_view c.args.part.now).name) _ (ap is_common (sym c.as_str.ensures.value) ∙ sym c.is_common.ensures ∙ c.if-is_common.true))

pub returns : goal.returns
returns c = IfOk-weaker c.has_clash.result
    _ _ (λ is e before k. e before k ∙ ap (λ b. b || list_any (clash (part_view c.args.part.now)) before) (sym
    (ap is_common (sym c.as_str.ensures.value) ∙ sym c.is_common.ensures ∙ c.if-is_common.false))) c.has_clash.ensures
