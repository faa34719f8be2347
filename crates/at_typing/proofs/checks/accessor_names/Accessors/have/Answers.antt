use Rattle.std.proofs.Common.{◌∙◌, ap, sym, ◌||◌}
use Rattle.at_kinds.specs.Accessors.{is_accessed}
use Rattle.at_typing.proofs.AccessorNaming.{accessed_names}
use Rattle.at_typing.proofs.checks.accessor_names.Accessors.have.Goals as goal

pub returns : goal.returns
returns c classes has =
    c.is_named.ensures ∙ accessed_names classes c.args.self.now c.as_bytes.result.now has
    ∙ ap (is_accessed classes) c.as_bytes.ensures.value
    ∙ ap (λ b. b || is_accessed classes c.args.name.now) (sym c.if-is_common.false ∙ c.is_common.ensures)
