use Rattle.std.proofs.Common.{◌≡◌, ◌∙◌, List, Vec, ap, arith, length, map, sym}
use Rattle.std.specs.Global.{Global}
use Rattle.at_jrag.specs.declared.syntax.Aspect.{Aspect}
use Rattle.at_start.specs.Overloading.{all_counted, apart_among, told_apart}
use Rattle.at_start.proofs.Overloads.{few_apart, many_apart}
use Rattle.at_start.proofs.Rereading.{aspects_of}
use Rattle.at_start.proofs.Spreads.{stand_for}
use Rattle.at_start.proofs.overloaded.told_apart.Goals as goal

pub returns-then-is_few : goal.returns-then-is_few
returns-then-is_few c =
    let classes = c.args.classes.now in
    let files = map aspects_of c.args.files.items in
    let own = c.in_ok-counted.counted in
    let counted = own.items in
    let counts : length counted ≡ c.len.result = omega (arith, c.len.ensures, own.ok.0) in
    let is : counted ≡ all_counted files =
    c.in_ok-counted.ensures ∙ ap (λ (fs : List (Vec Aspect Global)). all_counted (map aspects_of fs)) c.deref.ensures.value in
    stand_for c.apart_among.result (apart_among classes c.deref-then-is_few.result.now files) (told_apart classes files)
    (ap (λ cs. apart_among classes cs files) c.deref-then-is_few.ensures.value
    ∙ few_apart classes files counted c.len.result is counts (sym c.is_few.ensures ∙ c.if-is_few.true)) c.apart_among.ensures

pub returns : goal.returns
returns c =
    let files = map aspects_of c.args.files.items in
    let own = c.in_ok-counted.counted in
    let counted = own.items in
    let counts : length counted ≡ c.len.result = omega (arith, c.len.ensures, own.ok.0) in
    let is : counted ≡ all_counted files =
    c.in_ok-counted.ensures ∙ ap (λ (fs : List (Vec Aspect Global)). all_counted (map aspects_of fs)) c.deref.ensures.value in
    many_apart c.args.classes.now files counted c.len.result is counts (sym c.is_few.ensures ∙ c.if-is_few.false)
