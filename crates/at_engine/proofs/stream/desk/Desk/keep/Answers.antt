use Rattle.std.proofs.Common.{◌≡◌, ◌∙◌, sym, ap, arith, rules, ◌+◌, ◌-◌, ◌++◌, length, min, take}
use Rattle.std.proofs.lemmas.List.{take_min}
use Rattle.at_engine.proofs.of_keeping.Kept.{kept-room}
use Rattle.at_engine.proofs.stream.desk.Desk.keep.Goals as goal

pub returns-clause-line : goal.returns-clause-line
returns-clause-line c =
    let line = c.args.self.now.line.items in
    let bytes = c.args.bytes.now in
    let room = 65536 - length line in
    let whole : length line + room ≡ 65536 = omega (arith, c.args.self.now.line.ok.0, c.args.self.now.line_short) in
    let same : c.min.result ≡ min room (length bytes) = search rules in
    let front : c.split_at.result.0.now ≡ take room bytes = c.split_at.ensures.front ∙ ap (λ n. take n bytes) same ∙ take_min room bytes in
    c.in-Ok.ensures.items ∙ ap (λ l. line ++ l) front ∙ sym (kept-room line bytes room whole)
