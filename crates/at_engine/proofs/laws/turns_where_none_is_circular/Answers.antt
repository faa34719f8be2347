use Rattle.at_engine.proofs.laws.turns_where_none_is_circular.Goals as goal

pub returns-clause-turns : goal.returns-clause-turns
returns-clause-turns c = λ rules none s m given before after o i end a turns. turns.plainly none

pub returns-clause-breaks : goal.returns-clause-breaks
returns-clause-breaks c = λ rules none s m limit before after o i breaks. breaks.plainly none
