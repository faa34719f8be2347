use Rattle.at_cache.proofs.Common.{◌≡◌, ◌∙◌, None, ap, sym, subst, IfNone, option_and_then, memory_of, held_in, shown, standing_of}
use Rattle.at_cache.proofs.of_cut.Again.{held_off}
use Rattle.at_cache.proofs.of_cut.Passing.{entries_hidden, hidden, mark_seen, others_seen, passes_on, passes_same, quiet_hidden, traces_hidden}
use Rattle.at_cache.proofs.cutting.hide.Goals as goal

pub returns-then-not-holds-clause-none : goal.returns-then-not-holds-clause-none
returns-then-not-holds-clause-none c = held_off c.args.cut.now.standings.items (memory_of c.args.cut.now.entries) c.args.slot (sym c.holds.ensures ∙ c.if-not-holds.true)

pub returns-then-not-holds-clause-passes : goal.returns-then-not-holds-clause-passes
returns-then-not-holds-clause-passes c = passes_on c.args.cut.now

pub returns-in_err-mark-clause-none : goal.returns-in_err-mark-clause-none
returns-in_err-mark-clause-none c = subst (λ o. IfNone o (held_in c.args.cut.now c.args.slot ≡ None)) (sym c.from_residual.ensures) (ap (option_and_then (shown (standing_of c.args.cut.now.standings.items c.args.slot))) c.in_err-mark.ensures.none.0)

pub returns-in_err-mark-clause-others : goal.returns-in_err-mark-clause-others
returns-in_err-mark-clause-others c k differs = ap (option_and_then (shown (standing_of c.args.cut.now.standings.items k))) (c.in_err-mark.ensures.none.1 k)

pub returns-in_err-mark-clause-passes : goal.returns-in_err-mark-clause-passes
returns-in_err-mark-clause-passes c = passes_same c.args.cut.now c.unmark.new.self c.in_err-mark.ensures.none.1

pub returns : goal.returns
returns c =
    let ss = c.args.cut.now.standings.items in
    let m = memory_of c.args.cut.now.entries in
    let on = sym c.holds.ensures ∙ c.if-not-holds.false in
    let from = c.take_value.ensures.taken in
    let n = memory_of c.unmark.new.self in
    let ts = c.take_value.new.standings.items in
    let written = c.in_ok-mark.ensures.written in
    record {
      was = mark_seen ss m c.args.slot c.in_ok-mark.mark on c.in_ok-mark.ensures.was;
      none = tt;
      gone = hidden ss ts m n c.args.slot from written;
      others = others_seen ss ts m n c.args.slot from written;
      passes = record {
        entries = entries_hidden ss ts m n c.args.slot from written;
        traces = traces_hidden ss ts m n c.args.slot from written;
        quiet = quiet_hidden ss ts m n c.args.slot from written;
      };
      fewer = c.take_value.ensures.fewer on;
      same = tt;
      len = c.in_ok-mark.ensures.len;
    }
