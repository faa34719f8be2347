use Rattle.std.proofs.Common.{◌≡◌, false, lit<, rules}
use Rattle.std.proofs.lemmas.Str.Pattern.{strip_prefix_char}
use Rattle.at_text.specs.Faults.{is_misplaced}
use Rattle.at_text.proofs.Quotes.{read_more, stays_open}
use Rattle.at_text.proofs.scan.front.past_quoted.Goals as goal

pub loop-after-preserved : goal.loop-after-preserved
loop-after-preserved c =
    let m = c.in-Some.ensures in
    (m.1.2, read_more c.args.text.now c.loop-after.rest.now c.in-Some.after.now m.0 c.loop-after.invariant.1 m.1)

pub returns-else-is_misplaced : goal.returns-else-is_misplaced
returns-else-is_misplaced c =
    let r = c.loop-after.invariant.1 in
    let rest = c.loop-after.rest.now in
    let none = rw c.in_default.is at c.past_meant.ensures in
    let stripped = strip_prefix_char 34 rest c.strip_prefix.result c.strip_prefix.ensures.cases (lit< tt) in
    let unquoted = rw c.in_default-strip_prefix.is at stripped in
    let placed : is_misplaced rest ≡ false = search rules in
    (r.body, rest, r.split, stays_open rest none unquoted placed)
