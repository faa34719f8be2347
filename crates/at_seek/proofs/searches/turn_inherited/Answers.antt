use Rattle.std.proofs.Common.{◌≡◌, ◌<◌, ◌≤◌, length, arith, subst, sym}
use Rattle.at_seek.specs.Finding.{IsInheritedTurned}
use Rattle.at_seek.proofs.Entries.{all_turned, left, one_more, turned_length}
use Rattle.at_seek.proofs.searches.turn_inherited.Goals as goal

pub loop-position-init : goal.loop-position-init
loop-position-init c = λ rules texts over alike named. left c.args.inherited.now.entries

pub loop-position-preserved : goal.loop-position-preserved
loop-position-preserved c = λ rules texts over alike named.
    let before = c.loop-position.invariant rules texts over alike named in
    let same = turned_length (IsInheritedTurned texts rules) c.loop-position.position c.args.inherited.now.entries c.loop-position.inherited.entries before in
    let count : c.len-position-end.result ≡ length c.args.inherited.now.entries = c.len-position-end.ensures.len in
    let less : c.loop-position.position < length c.loop-position.inherited.entries = omega (arith, same, count, c.loop-position-test.true) in
    one_more (IsInheritedTurned texts rules) c.loop-position.position c.args.inherited.now.entries c.loop-position.inherited.entries c.turn_inherited_at.new.inherited.entries before less
    (c.turn_inherited_at.ensures rules texts over alike named)

pub returns : goal.returns
returns c = λ rules texts over alike named.
    let before = c.loop-position.invariant rules texts over alike named in
    let same = turned_length (IsInheritedTurned texts rules) c.loop-position.position c.args.inherited.now.entries c.loop-position.inherited.entries before in
    let count : c.len-position-end.result ≡ length c.args.inherited.now.entries = c.len-position-end.ensures.len in
    let end : length c.loop-position.inherited.entries ≤ c.loop-position.position = omega (arith, same, count, c.loop-position-test.false) in
    all_turned (IsInheritedTurned texts rules) c.loop-position.position c.args.inherited.now.entries c.loop-position.inherited.entries before end
