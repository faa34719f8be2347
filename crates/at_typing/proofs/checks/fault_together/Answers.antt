use Rattle.std.proofs.Common.{sym, ◌∙◌, ◌≡◌, map}
use Rattle.at_typing.specs.Declaring.{fault_together}
use Rattle.at_typing.specs.Numbering.{numbered_view}
use Rattle.at_typing.proofs.Binding.{ok_also}
use Rattle.at_typing.proofs.FirstFaults.{or_here, or_next}
use Rattle.at_typing.proofs.checks.fault_together.Goals as goal

pub returns-in-Some : goal.returns-in-Some
returns-in-Some c = sym (or_here _ _ c.in-Some.fault (sym c.over_limit.ensures ∙ c.in-Some.is))

pub returns : goal.returns
returns c =
    ok_also _ (λ fault. fault ≡ fault_together c.args.arguments c.args.classes.now (map numbered_view c.args.declared.now)) c.equation_twice.result c.equation_twice.ensures
    (λ fault is. is ∙ sym (
    or_next _ _ (sym c.over_limit.ensures ∙ c.in_default.is)
    ∙ or_next _ _ (sym c.in_ok-fault.ensures ∙ c.in_default-2.is)
    ∙ or_next _ _ (sym c.in_ok-fault-2.ensures ∙ c.in_default-3.is)
    ∙ or_next _ _ (sym c.without_attribute.ensures ∙ c.in_default-without_attribute.is)
    ))
