-- The instances of pieces, from the last one on.
use Rattle.std.proofs.Common.{◌≡◌, ℕ, ◌+◌, ◌<◌, ◌≤◌, List, [], ◌∷◌, ◌++◌, drop, get_or, length, reverse, refl, sym, ap, ◌∙◌, subst, append_assoc, arith}
use Rattle.std.proofs.lemmas.List.{drop_more, reverse-append}
use Rattle.at_model.specs.Run.{Instance}
use Rattle.at_body.specs.Pieces.{asked}
use Rattle.at_body.specs.declared.formula.Piece.{Piece}
use Rattle.at_body.specs.declared.formula.Piece.TheVariants as piece

-- one more behind the others comes first, from behind
pub reverse_push : {A : Type 0} (xs : List A) (x : A) → reverse (xs ++ x ∷ []) ≡ x ∷ reverse xs
reverse_push xs x = reverse-append xs (x ∷ [])

-- those of a piece stand before those behind it
pub asked_first : (p : Piece) (ps : List Piece) → asked (p ∷ ps) ≡ asked (p ∷ []) ++ asked ps
asked_first (piece.Asks i) ps = refl
asked_first (piece.Known b) ps = refl
asked_first piece.Both ps = refl
asked_first piece.Either ps = refl

-- with the piece in front of those that were looked at
pub one_before : (ps : List Piece) (n : ℕ) (p d : Piece) (old mid new : List (Instance ℕ)) → n < length ps → p ≡ get_or ps n d →
    mid ≡ asked (drop (n + 1) ps) ++ old → new ≡ asked (p ∷ []) ++ mid → new ≡ asked (drop n ps) ++ old
one_before ps n p d old mid new less is before after =
    after ∙ ap (λ z. asked (p ∷ []) ++ z) before
    ∙ sym (append_assoc (asked (p ∷ [])) (asked (drop (n + 1) ps)) old)
    ∙ ap (λ z. z ++ old) (sym (asked_first p (drop (n + 1) ps)))
    ∙ ap (λ z. asked (z ∷ drop (n + 1) ps) ++ old) is
    ∙ ap (λ z. asked z ++ old) (sym (drop_more ps n d less))
