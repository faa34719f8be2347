use Rattle.at_cache.proofs.Common.{◌∙◌, inl, inr, ap, append-nil, sym, subst, arith, [], Work, memory_of, Aside, held_in, users_at}
use Rattle.at_cache.proofs.of_cut.Passing.{its_users, mark_there, passes_both, passes_over, taken_so, there_past, users_past}
use Rattle.at_cache.proofs.Taking.{first_there}
use Rattle.at_cache.proofs.cutting.forget.Goals as goal

pub doom_users-requires : goal.doom_users-requires
doom_users-requires c =
    let m = memory_of c.args.cut.now.entries in
    record {
      there = there_past m (memory_of c.hide.new.cut.entries) c.args.slot (c.in_ok-mark.ensures.passes.entries c.args.slot)
          (mark_there c.args.cut.now.standings.items m c.args.slot c.in_ok-mark.mark c.in_ok-mark.ensures.was);
      hidden = c.in_ok-mark.ensures.gone;
    }

pub returns : goal.returns
returns c =
    let (e, there, going, next) = c.in_ok-mark.ensures.was in
    let m = memory_of c.args.cut.now.entries in
    let n = memory_of c.hide.new.cut.entries in
    let us = users_at n c.args.slot in
    let users = its_users c.args.cut.now.standings.items m c.args.slot e there ∙ sym (users_past m n c.args.slot (c.in_ok-mark.ensures.passes.entries c.args.slot)) in
    record {
      works = λ old start w. c.doom_users.ensures.works old start []
          (subst (λ xs. Work old start xs c.next.result (held_in c.hide.new.cut)) (sym (append-nil us))
          (taken_so w c.in_ok-mark.ensures.gone c.in_ok-mark.ensures.others e there us users c.next.result (next ∙ sym c.next.ensures)));
      passes = passes_both c.in_ok-mark.ensures.passes (passes_over c.doom_users.ensures);
      fewer = inl (let fewer = c.in_ok-mark.ensures.fewer in let count = ap (λ (a : Aside). a.count) c.doom_users.ensures.aside in omega (arith, fewer, count));
      len = ap (λ (a : Aside). a.len) c.doom_users.ensures.aside ∙ c.in_ok-mark.ensures.len;
    }

pub returns-in_err-mark : goal.returns-in_err-mark
returns-in_err-mark c = record {
  works = λ old start w. absurd (first_there w c.in_err-mark.ensures.none);
  passes = c.in_err-mark.ensures.passes;
  fewer = inr (c.from_residual.ensures, c.in_err-mark.ensures.same);
  len = c.in_err-mark.ensures.len;
}
