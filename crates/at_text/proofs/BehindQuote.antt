-- A text is cut behind a closing quote.
use Rattle.std.proofs.Common.{◌≡◌, ◌+◌, ℕ, List, [], ◌∷◌, ◌++◌, length, get_or, drop, sym, ap, ◌∙◌, subst, arith, append_assoc, length-append}
use Rattle.std.specs.List.{flat_map}
use Rattle.std.specs.Str.{IsUtf8, IsCharBoundary}
use Rattle.std.proofs.lemmas.Str.{IsCharBoundary-after_ascii}
use lib.Seq.{drop_at, get_or-append_seam}
use Rattle.at_model.specs.Texts.{escaped, quoted}

pub cut_behind : (text value rest : List ℕ) (n : ℕ) → IsUtf8 text → text ≡ quoted value ++ rest → n ≡ length (quoted value) → IsCharBoundary text n
cut_behind text value rest n u e is =
    let front = 34 ∷ flat_map escaped value in
    let flat : text ≡ front ++ 34 ∷ rest = e ∙ append_assoc front (34 ∷ []) rest in
    let size : n ≡ length front + 1 = omega (arith, is, length-append front (34 ∷ [])) in
    let byte : get_or text (length front) 0 ≡ 34 = ap (λ y. get_or y (length front) 0) flat ∙ get_or-append_seam front 34 rest 0 in
    subst (IsCharBoundary text) (sym size) (IsCharBoundary-after_ascii text (length front) u (omega (
      arith,
      ap length flat,
      length-append front (34 ∷ rest),
      length-append (34 ∷ []) rest,
    )) (omega (arith, byte)))

pub behind_quote : (text value rest : List ℕ) (n : ℕ) → text ≡ quoted value ++ rest → n ≡ length (quoted value) → quoted value ++ drop n text ≡ text
behind_quote text value rest n e is = ap (λ y. quoted value ++ y) (ap (drop n) e ∙ drop_at (quoted value) rest n (sym is)) ∙ sym e
