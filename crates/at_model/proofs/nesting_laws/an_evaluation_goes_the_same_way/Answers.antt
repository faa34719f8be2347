use Rattle.at_model.proofs.of_nesting.Nesting.{evaluates_more, evaluates_deeper, reaches_within}
use Rattle.at_model.proofs.nesting_laws.an_evaluation_goes_the_same_way.Goals as goal

pub returns-clause-more : goal.returns-clause-more
returns-clause-more c = λ look equation known knows inner grows n r v ls us p.
    evaluates_more look equation known inner knows grows n r v ls us p

pub returns-clause-deeper : goal.returns-clause-deeper
returns-clause-deeper c = λ look equation known inner n d r v ls us p.
    evaluates_deeper look equation known inner n d r v ls us p

pub returns-clause-within : goal.returns-clause-within
returns-clause-within c = λ look forms r k j h. reaches_within look forms r k j h
