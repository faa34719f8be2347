use Rattle.at_cache.proofs.Common.{◌∙◌, ap, length, arith, refl, Standing, held_among, untraced}
use Rattle.at_cache.proofs.of_cut.Seeing.{changed_past, changed_set, set_room, set_same}
use Rattle.at_cache.proofs.cut.take_trace.Goals as goal

pub returns-then-slot-len : goal.returns-then-slot-len
returns-then-slot-len c =
    let xs = c.args.standings.now.items in
    let stood = rw c.as_slice.ensures.value at c.packed_at-standing.ensures in
    let left = c.without_trace.ensures ∙ ap untraced stood in
    record {
      taken = changed_set untraced xs c.args.slot c.set_packed.new.standings.items _ (let less = c.if-slot-len.true in let is = c.len.ensures in let ok = c.args.standings.now.ok.0 in omega (arith, less, is, ok))
          left c.set_packed.ensures;
      room = ap length c.set_packed.ensures ∙ set_room xs c.args.slot _;
      count = ap held_among c.set_packed.ensures ∙ set_same xs c.args.slot _ (ap (λ (s : Standing). s.holds) left);
    }

pub returns-else-slot-len-clause-taken : goal.returns-else-slot-len-clause-taken
returns-else-slot-len-clause-taken c = changed_past untraced c.args.standings.now.items c.args.slot refl (let past = c.if-slot-len.false in let is = c.len.ensures in let ok = c.args.standings.now.ok.0 in omega (arith, past, is, ok))
