use Rattle.std.proofs.Common.{◌≡◌, ◌-◌, [], refl, ap, ◌∙◌, arith, take, chars}
use Rattle.at_text.specs.Place.{place_after}
use Rattle.at_text.proofs.place.Place.of.Goals as goal

pub returns : goal.returns
returns c =
    let size : c.args.offset - 0 ≡ c.args.offset = omega arith in
    c.behind.ensures [] refl ∙ ap (λ xs. place_after (chars xs)) (c.range.ensures.value ∙ ap (λ n. take n c.args.text.now) size)
