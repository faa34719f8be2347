use Rattle.at_cache.proofs.Common.{◌∙◌, ◌+◌, arith, sym, subst, take_all, Contains, refl, rules, cases_eq, take_more, Contains-get_or, memory_of, AreListed, Uses, users_at, alive_in, listed_more}
use Rattle.at_cache.proofs.Users.{uses_none, uses_more, uses_all, users_here, users_other, still_kept}
use Rattle.at_cache.proofs.of_cut.Alive.{told_uses}
use Rattle.at_cache.proofs.using.add_users.Goals as goal

pub loop-slot-init : goal.loop-slot-init
loop-slot-init c = record {
  uses = uses_none _ _ _;
  listed = λ l d. absurd (omega (arith, d.1));
  standings = refl;
  key = refl;
  absent = λ i h. h;
}

pub add_user-requires : goal.add_user-requires
add_user-requires c = record {
  there = still_kept c.loop-slot.invariant.uses _
      (c.requires.there _ (Contains-get_or c.args.slots.now c.loop-slot.slot-index 0 c.loop-slot-test.true));
}

pub loop-slot-preserved : goal.loop-slot-preserved
loop-slot-preserved c =
    let l = c.loop-slot in
    let was = c.args.cut.now in
    let on = sym (take_more c.args.slots.now l.slot-index 0 c.loop-slot-test.true) in
    let some = still_kept l.invariant.uses _ (c.requires.there _ (Contains-get_or c.args.slots.now l.slot-index 0 c.loop-slot-test.true)) in
    let told = told_uses was.standings.items l.cut.standings.items (memory_of was.entries) (memory_of l.cut.entries) l.invariant.standings
    l.invariant.uses in
    let (users, written, lists, has) = c.add_user.ensures.lists in
    let new = memory_of c.add_user.new.cut.entries in
    record {
      uses = subst (λ ss. Uses (alive_in was) c.args.edge ss (memory_of was.entries) new) on
          (uses_more _ told l.invariant.uses users some written lists);
      listed = subst (λ ss. AreListed c.args.edge ss (users_at new)) on (listed_more cases_eq _ _ l.invariant.listed
          (subst (λ es. Contains es c.args.edge) (sym (users_here _ told l.invariant.uses users some written lists)) (rw c.in_ok-add_user.was at has))
          (users_other _ told l.invariant.uses users some written lists));
      standings = c.add_user.ensures.standings ∙ l.invariant.standings;
      key = c.add_user.ensures.key ∙ l.invariant.key;
      absent = λ i h. c.add_user.ensures.absent i (l.invariant.absent i h);
    }

pub returns-in_err-add_user : goal.returns-in_err-add_user
returns-in_err-add_user c =
    let l = c.loop-slot in
    let was = c.args.cut.now in
    let on = sym (take_more c.args.slots.now l.slot-index 0 c.loop-slot-test.true) in
    let some = still_kept l.invariant.uses _ (c.requires.there _ (Contains-get_or c.args.slots.now l.slot-index 0 c.loop-slot-test.true)) in
    let told = told_uses was.standings.items l.cut.standings.items (memory_of was.entries) (memory_of l.cut.entries) l.invariant.standings
    l.invariant.uses in
    let (users, written, lists, has) = c.add_user.ensures.lists in
    record {
      uses = uses_all (l.slot-index + 1) _ (subst (λ ss. Uses (alive_in was) c.args.edge ss (memory_of was.entries)
          (memory_of c.add_user.new.cut.entries)) on (uses_more _ told l.invariant.uses users some written lists));
      listed = search rules;
      standings = c.add_user.ensures.standings ∙ l.invariant.standings;
      key = c.add_user.ensures.key ∙ l.invariant.key;
      absent = λ i h. c.add_user.ensures.absent i (l.invariant.absent i h);
    }

pub returns : goal.returns
returns c = record {
  uses = subst (λ ss. Uses (alive_in c.args.cut.now) c.args.edge ss (memory_of c.args.cut.now.entries)
      (memory_of c.loop-slot.cut.entries)) (take_all c.loop-slot.slot-index c.args.slots.now c.loop-slot-test.false) c.loop-slot.invariant.uses;
  listed = subst (λ ss. AreListed c.args.edge ss (users_at (memory_of c.loop-slot.cut.entries)))
      (take_all c.loop-slot.slot-index c.args.slots.now c.loop-slot-test.false) c.loop-slot.invariant.listed;
  standings = c.loop-slot.invariant.standings;
  key = c.loop-slot.invariant.key;
  absent = λ i h. c.loop-slot.invariant.absent i h;
}
