use Rattle.std.proofs.Common.{subst, sym}
use Rattle.at_sessions.proofs.TriedLemmas.{Stands, stands_done, stands_given_up, stands_refused}
use Rattle.at_sessions.proofs.stores.tried.Goals.{in-Done, in-GivenUp}
use Rattle.at_sessions.proofs.stores.tried.Goals as goal

pub returns-in_err-ready-clause-idle : goal.returns-in_err-ready-clause-idle
returns-in_err-ready-clause-idle c =
    (stands_refused c.args.classes.now c.args.store.now c.args.edit c.requires.idle c.requires.conforming c.requires.there c.requires.target c.check.new.self
    c.in_err-ready.field-0.0 c.in_err-ready.ensures.refused).0

pub returns-in_err-ready-clause-conforming : goal.returns-in_err-ready-clause-conforming
returns-in_err-ready-clause-conforming c =
    (stands_refused c.args.classes.now c.args.store.now c.args.edit c.requires.idle c.requires.conforming c.requires.there c.requires.target c.check.new.self
    c.in_err-ready.field-0.0 c.in_err-ready.ensures.refused).1

ended : (c : goal.After-or) → Stands c.args.classes.now c.match-end.store
ended c = elim c.match-end.branch [
  | in-Done w ↦ subst (Stands c.args.classes.now) (sym w.store-is)
      (stands_done c.args.classes.now c.args.store.now c.args.edit c.requires.idle c.requires.conforming c.requires.there c.requires.target c.check.new.self
      c.in_ok-ready.ready.prepared c.in_ok-ready.ensures.ready w.commit.new.self w.commit.ensures)
  | in-GivenUp w ↦ subst (Stands c.args.classes.now) (sym w.store-is)
      (stands_given_up c.args.classes.now c.args.store.now c.args.edit c.requires.idle c.requires.conforming c.requires.there c.requires.target c.check.new.self
      c.in_ok-ready.ready.prepared c.in_ok-ready.ensures.ready w.cancel.new.self w.cancel.ensures)
]

pub returns-clause-idle : goal.returns-clause-idle
returns-clause-idle c = (ended c).0

pub returns-clause-conforming : goal.returns-clause-conforming
returns-clause-conforming c = (ended c).1
