use Rattle.at_typing.proofs.checks.accessor_names.accessor_named.Goals as goal

pub returns : goal.returns
returns c = c.first_named.ensures c.args.classes.now c.in_ok-accessors.ensures
