use Rattle.std.proofs.Common.{ap, sym, ◌∙◌, ◌++◌, ◌∷◌, [], append_assoc}
use Rattle.std.specs.Str.Iter.{chars_rest}
use Rattle.std.proofs.lemmas.List.{map-id}
use Rattle.std.proofs.lemmas.Iterator.{YieldsList-from_chars}
use Rattle.std.proofs.lemmas.Iterator.Consumers.{YieldsList-end}
use Rattle.at_text.specs.Place.{place_after}
use Rattle.at_text.proofs.place.Place.behind.Goals as goal

pub loop-c-preserved : goal.loop-c-preserved
loop-c-preserved c = λ front e. c.next-at.ensures (front ++ c.loop-c.yielded) (c.loop-c.invariant front e) ∙ ap place_after (append_assoc front c.loop-c.yielded (c.in-Some.c ∷ []))

pub returns : goal.returns
returns c = λ front e.
    let passed = c.args.passed.now in
    let is_front = ap chars_rest c.into_iter-c-iterator.ensures.into_iter_gives ∙ c.chars-c-items.ensures.rest in
    let all = YieldsList-end (YieldsList-from_chars {s = c.into_iter-c-iterator.result} passed c.utf8.passed is_front) c.loop-c.yielded _ c.loop-c.yielded_by _ _ c.in-None.is c.next.ensures.steps in
    let text = sym (map-id c.loop-c.yielded) ∙ all.0 in
    c.loop-c.invariant front e ∙ ap (λ ys. place_after (front ++ ys)) text
