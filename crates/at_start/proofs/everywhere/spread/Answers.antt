use Rattle.std.proofs.Common.{◌≡◌, ◌∙◌, List, Vec, ap, arith, length, map, sym}
use Rattle.std.specs.Global.{Global}
use Rattle.at_jrag.specs.declared.syntax.Aspect.{Aspect}
use Rattle.at_start.specs.Spreading.{files_spread, heads, spread}
use Rattle.at_start.specs.declared.everywhere.Sought.TheVariants.{Attributes, Equations}
use Rattle.at_start.proofs.Rereading.{aspects_of}
use Rattle.at_start.proofs.Spreads.{few_spread, many_spread, stand_for}
use Rattle.at_start.proofs.everywhere.spread.Goals as goal

pub returns-then-is_few : goal.returns-then-is_few
returns-then-is_few c =
    let classes = c.args.classes.now in
    let files = map aspects_of c.args.files.items in
    let own = c.in_ok-attributes.attributes in
    let attributes = own.items in
    let counts : length attributes ≡ c.len.result = omega (arith, c.len.ensures, own.ok.0) in
    let is : attributes ≡ heads Attributes files =
    c.in_ok-attributes.ensures ∙ ap (λ (fs : List (Vec Aspect Global)). heads Attributes (map aspects_of fs)) c.deref.ensures.value in
    stand_for c.spread_over.result (files_spread classes attributes (heads Equations files) files) (spread classes files)
    (few_spread classes files attributes c.len.result is counts (sym c.is_few.ensures ∙ c.if-is_few.true)) c.spread_over.ensures

pub returns : goal.returns
returns c =
    let files = map aspects_of c.args.files.items in
    let own = c.in_ok-attributes.attributes in
    let attributes = own.items in
    let counts : length attributes ≡ c.len.result = omega (arith, c.len.ensures, own.ok.0) in
    let is : attributes ≡ heads Attributes files =
    c.in_ok-attributes.ensures ∙ ap (λ (fs : List (Vec Aspect Global)). heads Attributes (map aspects_of fs)) c.deref.ensures.value in
    many_spread c.args.classes.now files attributes c.len.result is counts (sym c.is_few.ensures ∙ c.if-is_few.false)
