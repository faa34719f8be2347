use Rattle.std.proofs.Common.{map}
use Rattle.at_start.specs.Overloading.{apart_among, files_apart}
use Rattle.at_start.specs.Pairs.{overloaded_in}
use Rattle.at_start.proofs.Overloads.{apart_by, apart_plainly}
use Rattle.at_start.proofs.Rereading.{aspects_of}
use Rattle.at_start.proofs.Spreads.{stand_for}
use Rattle.at_start.proofs.overloaded.apart_among.Goals as goal

pub returns-then-is_empty : goal.returns-then-is_empty
returns-then-is_empty c =
    apart_plainly c.args.classes.now c.args.counted.now c.in_ok-pairs.pairs (map aspects_of c.args.files.items) c.in_ok-pairs.ensures
    (c.is_empty.ensures c.if-is_empty.true)

pub returns : goal.returns
returns c =
    let files = map aspects_of c.args.files.items in
    let p = c.in_ok-pairs.pairs in
    stand_for c.files.result (files_apart (overloaded_in p) files) (apart_among c.args.classes.now c.args.counted.now files)
    (apart_by c.args.classes.now c.args.counted.now p files c.in_ok-pairs.ensures) c.files.ensures
