-- What holds of the elements of a list up to some place.
use Rattle.at_index.proofs.Common.{◌≡◌, ℕ, ◌+◌, ◌<◌, ⊎_elim, List, length, take, get_or, Contains, ◌∙◌, subst, take_more, Contains-push_cases}

-- what holds of the first elements and of the next one holds of one more
pub holds_next : {X : Type 0} (P : X → Type 0) (xs : List X) (i : ℕ) (x : X) → i < length xs → x ≡ get_or xs i x → ((y : X) → Contains (take i xs) y → P y) → P x → (y : X) → Contains (take (i + 1) xs) y → P y
holds_next P xs i x lt is before here y h =
    ⊎_elim (λ b. before y b) (λ e. subst P (is ∙ e) here) (Contains-push_cases (take i xs) (get_or xs i x) y (subst (λ l. Contains l y) (take_more xs i x lt) h))
