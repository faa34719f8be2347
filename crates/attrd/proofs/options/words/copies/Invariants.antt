use Rattle.std.proofs.Common.{◌≡◌, map, take}
use Rattle.std.specs.String.{string_bytes}
use Rattle.attrd.proofs.options.words.copies.Given as goal

-- what was copied so far
abbrev pub invariant-loop-text : goal.invariant-loop-text
invariant-loop-text l = map string_bytes l.copied.items ≡ map (λ t. t.now) (take l.text-index l.texts)
