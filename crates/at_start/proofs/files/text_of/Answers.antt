use Rattle.std.proofs.Common.{◌<◌, ◌≤◌, length, arith}
use Rattle.std.proofs.lemmas.Bool.Decides.{nat_tests}
use Rattle.at_start.specs.Files.{too_long, no_utf8}
use Rattle.at_start.proofs.files.text_of.Goals as goal

pub returns-then-bytes-most : goal.returns-then-bytes-most
returns-then-bytes-most c = let long : c.args.most < length c.args.bytes.now = grind (arith, nat_tests) in too_long long

pub returns-in-Ok : goal.returns-in-Ok
returns-in-Ok c =
    let short : length c.args.bytes.now ≤ c.args.most = grind (arith, nat_tests) in
    (record { short = short; utf8 = c.in-Ok.ensures.cases.1 }, c.in-Ok.ensures.cases.0)

pub returns-in-Err : goal.returns-in-Err
returns-in-Err c = let short : length c.args.bytes.now ≤ c.args.most = grind (arith, nat_tests) in no_utf8 short c.in-Err.ensures.cases.0
