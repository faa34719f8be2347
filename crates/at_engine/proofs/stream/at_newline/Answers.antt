use Rattle.std.proofs.Common.{◌∙◌, sym, ap, ap₂, subst, ◌++◌, ◌∷◌, List, ℕ, drop}
use Rattle.std.proofs.lemmas.List.{drop-drop}
use Rattle.at_engine.specs.Loop.{IsOpen}
use Rattle.at_engine.proofs.Pieces.{open_all, open_before, split_at_newline}
use Rattle.at_engine.proofs.stream.at_newline.Goals as goal

pub returns-in_err-end : goal.returns-in_err-end
returns-in_err-end c = rw c.from_residual.ensures (open_all c.args.bytes.now (sym c.newline_in.ensures ∙ c.in_err-end.was))

pub returns : goal.returns
returns c =
    let bytes = c.args.bytes.now in
    let i = c.in_ok-end.end in
    let at = sym c.newline_in.ensures ∙ c.in_ok-end.was in (
      subst (λ (l : List ℕ). IsOpen l) (sym c.split_at.ensures.front) (open_before bytes i at),
      split_at_newline bytes i at ∙ ap₂ (λ (front behind : List ℕ). front ++ 10 ∷ behind) (sym c.split_at.ensures.front) (sym (c.split_at-2.ensures.back ∙ ap (drop 1) c.split_at.ensures.back ∙ drop-drop 1 i bytes)),
    )
