use Rattle.std.proofs.Common.{◌≡◌, ◌<◌, ◌≤◌, length, arith, subst, sym}
use Rattle.at_seek.specs.Finding.{IsOwnTurned}
use Rattle.at_seek.proofs.Entries.{all_turned, left, one_more, turned_length}
use Rattle.at_seek.proofs.searches.turn_own.Goals as goal

pub loop-position-init : goal.loop-position-init
loop-position-init c = λ rules over. left c.args.own.now.entries

pub loop-position-preserved : goal.loop-position-preserved
loop-position-preserved c = λ rules over.
    let before = c.loop-position.invariant rules over in
    let same = turned_length (IsOwnTurned rules) c.loop-position.position c.args.own.now.entries c.loop-position.own.entries before in
    let count : c.len-position-end.result ≡ length c.args.own.now.entries = c.len-position-end.ensures.len in
    let less : c.loop-position.position < length c.loop-position.own.entries = omega (arith, same, count, c.loop-position-test.true) in
    one_more (IsOwnTurned rules) c.loop-position.position c.args.own.now.entries c.loop-position.own.entries c.turn_own_at.new.own.entries before less
    (c.turn_own_at.ensures rules over)

pub returns : goal.returns
returns c = λ rules over.
    let before = c.loop-position.invariant rules over in
    let same = turned_length (IsOwnTurned rules) c.loop-position.position c.args.own.now.entries c.loop-position.own.entries before in
    let count : c.len-position-end.result ≡ length c.args.own.now.entries = c.len-position-end.ensures.len in
    let end : length c.loop-position.own.entries ≤ c.loop-position.position = omega (arith, same, count, c.loop-position-test.false) in
    all_turned (IsOwnTurned rules) c.loop-position.position c.args.own.now.entries c.loop-position.own.entries before end
