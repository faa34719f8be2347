use Rattle.std.proofs.Common.{◌≡◌, ◌<◌, arith, length, refl, subst, sym}
use Rattle.std.proofs.lemmas.Bool.Decides.{nat_tests}
use Rattle.at_start.specs.Slashes.{blank}
use Rattle.at_start.proofs.Slashing.{blank_other, blank_slash, blank_utf8, changed_past, set_changed}
use Rattle.at_start.proofs.slashes.blank.Goals as goal

pub returns-then-byte-eq47-clause-bytes : goal.returns-then-byte-eq47-clause-bytes
returns-then-byte-eq47-clause-bytes c =
    let b = c.in-Some.byte.now in
    let less : c.args.offset < length c.args.bytes.now.items = subst (λ n. c.args.offset < n) c.args.bytes.now.ok.0 (c.in-Some.ensures.variant.0 refl) in
    set_changed blank c.args.bytes.now.items c.args.offset b 32 less c.in-Some.ensures.value (blank_slash b (search))

pub returns-then-byte-eq47-clause-utf8 : goal.returns-then-byte-eq47-clause-utf8
returns-then-byte-eq47-clause-utf8 c =
    let b = c.in-Some.byte.now in
    let is : b ≡ 47 = grind (arith, nat_tests) in
    let less : c.args.offset < length c.args.bytes.now.items = subst (λ n. c.args.offset < n) c.args.bytes.now.ok.0 (c.in-Some.ensures.variant.0 refl) in
    blank_utf8 c.args.bytes.now.items c.args.offset b less c.in-Some.ensures.value (omega (arith, is))

pub returns-else-byte-eq47-clause-bytes : goal.returns-else-byte-eq47-clause-bytes
returns-else-byte-eq47-clause-bytes c =
    let b = c.in-Some.byte.now in
    let less : c.args.offset < length c.args.bytes.now.items = subst (λ n. c.args.offset < n) c.args.bytes.now.ok.0 (c.in-Some.ensures.variant.0 refl) in
    set_changed blank c.args.bytes.now.items c.args.offset b b less c.in-Some.ensures.value (blank_other b (grind (arith, nat_tests)))

pub returns-in_default-clause-bytes : goal.returns-in_default-clause-bytes
returns-in_default-clause-bytes c =
    changed_past blank c.args.bytes.now.items c.args.offset
    (λ less. c.in_default.ensures.variant.1 (subst (λ n. c.args.offset < n) (sym c.args.bytes.now.ok.0) less))
