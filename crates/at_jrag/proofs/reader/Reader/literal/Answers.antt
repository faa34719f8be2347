use Rattle.std.proofs.Common.{refl}
use Rattle.at_text.specs.Symbols.{placed}
use Rattle.at_jrag.proofs.Tokens.{literal_read}
use Rattle.at_jrag.proofs.reader.Reader.literal.Goals as goal

pub returns-in_ok-number-in-Number-clause-found : goal.returns-in_ok-number-in-Number-clause-found
returns-in_ok-number-in-Number-clause-found c =
    let n = c.in-Some.ensures in
    let d = c.in_ok-number-in-Number.ensures.found in
    let r = literal_read _ (placed c.in-Some.token.now) _ _ _ _ n.1 (c.advance.ensures _ _ n.1) c.in-Number.is d.0 refl in
    (r.0, d.1, r.1)

pub returns-in_ok-text-in-Text-clause-found : goal.returns-in_ok-text-in-Text-clause-found
returns-in_ok-text-in-Text-clause-found c =
    let n = c.in-Some.ensures in
    let d = c.in_ok-text-in-Text.ensures.found in
    let r = literal_read _ (placed c.in-Some.token.now) _ _ _ _ n.1 (c.advance-in-Text.ensures _ _ n.1) c.in-Text.is d.0 refl in
    (r.0, d.1, r.1)

pub returns-in-Some-constant-clause-found : goal.returns-in-Some-constant-clause-found
returns-in-Some-constant-clause-found c =
    let n = c.in-Some.ensures in
    let d = c.in-Some-constant.ensures in
    let r = literal_read _ (placed c.in-Some.token.now) _ _ _ _ n.1 (c.advance-in-Some-constant.ensures _ _ n.1) c.in-Word.is d.0 d.2 in
    (r.0, d.1, r.1)
