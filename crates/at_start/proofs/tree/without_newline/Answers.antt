use Rattle.std.proofs.Common.{List, ℕ, Bor, sym, subst, refl, arith}
use Rattle.std.proofs.lemmas.Str.Pattern.{strip_suffix_char}
use Rattle.at_start.specs.TreeFiles.{IsWithoutNewline}
use Rattle.at_start.proofs.TermFiles.{ends}
use Rattle.at_start.proofs.tree.without_newline.Goals as goal

pub returns : goal.returns
returns c =
    let text = c.args.text.now in
    let cases = strip_suffix_char 10 text c.strip_suffix.result c.strip_suffix.ensures.cases (omega arith) in
    subst (λ (b : Bor (List ℕ)). IsWithoutNewline text b.now) (sym c.unwrap_or.ensures) (ends text c.strip_suffix.result c.args.text refl cases)
