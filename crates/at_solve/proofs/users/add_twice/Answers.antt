use Rattle.at_solve.proofs.UserLemmas.{twice}
use Rattle.at_solve.proofs.users.add_twice.Goals as goal

pub returns-clause-kept : goal.returns-clause-kept
returns-clause-kept c = λ u p h. c.add-2.ensures.kept u p (c.add.ensures.kept u p h)

pub returns-clause-added : goal.returns-clause-added
returns-clause-added c = twice c.args.users.now.items c.add.new.users.items c.add-2.new.users.items c.args.one c.args.other c.args.position c.add.ensures.size
    c.add-2.ensures.kept c.in_ok-add.ensures.added c.in_ok-add-2.ensures.added

pub returns-in_err-add-2-clause-kept : goal.returns-in_err-add-2-clause-kept
returns-in_err-add-2-clause-kept c = λ u p h. c.add-2.ensures.kept u p (c.add.ensures.kept u p h)
