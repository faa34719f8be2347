use Rattle.std.proofs.Common.{◌∙◌, refl, sym, arith, length}
use Rattle.at_solve.proofs.UserLemmas.{all_listed, one_further}
use Rattle.at_solve.proofs.users.users_of.Goals as goal

pub loop-position-preserved : goal.loop-position-preserved
loop-position-preserved c = record {
  size = c.note.ensures.size ∙ c.loop-position.invariant.size;
  listed = one_further c.args.system.now c.loop-position.position c.loop-position.users.items c.note.new.users.items _ _
      (omega (arith, c.loop-position-test.true, c.loop-position.auto)) refl c.loop-position.invariant.size
      c.note.ensures.kept c.in_ok-note.ensures.noted c.loop-position.invariant.listed;
}

pub returns : goal.returns
returns c = all_listed c.args.system.now c.loop-position.position c.loop-position.users.items (omega (arith, c.loop-position-test.false, c.loop-position.auto)) c.loop-position.invariant.size c.loop-position.invariant.listed
