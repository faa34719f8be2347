use Rattle.at_cache.proofs.Common.{◌∙◌, ◌+◌, ◌<◌, ◌≤◌, length, ap, sym, arith, refl, true≢false, Standing, held_among, unheld}
use Rattle.at_cache.proofs.of_cut.Seeing.{changed_past, changed_set, past_nothing, set_fewer}
use Rattle.at_cache.proofs.cut.take_value.Goals as goal

pub returns-then-slot-len : goal.returns-then-slot-len
returns-then-slot-len c =
    let xs = c.args.standings.now.items in
    let stood = rw c.as_slice.ensures.value at c.packed_at-standing.ensures in
    let within : c.args.slot < length xs = omega (arith, c.if-slot-len.true, c.len.ensures, c.args.standings.now.ok.0) in
    record {
      taken = changed_set unheld xs c.args.slot c.set_packed.new.standings.items _ within (c.without_value.ensures ∙ ap unheld stood) c.set_packed.ensures;
      fewer = λ on. ap (λ ys. held_among ys + 1) c.set_packed.ensures ∙ set_fewer xs c.args.slot _ within on (ap (λ (s : Standing). s.holds) c.without_value.ensures);
    }

pub returns-else-slot-len : goal.returns-else-slot-len
returns-else-slot-len c =
    let xs = c.args.standings.now.items in
    let past : length xs ≤ c.args.slot = omega (arith, c.if-slot-len.false, c.len.ensures, c.args.standings.now.ok.0) in
    record {
      taken = changed_past unheld xs c.args.slot refl past;
      fewer = λ on. absurd (true≢false (sym on ∙ ap (λ (s : Standing). s.holds) (past_nothing xs c.args.slot past)));
    }
