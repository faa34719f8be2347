-- Lists in which each slot stands once.
use Rattle.at_evict.proofs.Common.{◌≡◌, inl, inr, ℕ, List, Contains, IsPermutation, eqb, sym, subst, dedup, Contains-permutation, IsPermutation-sym, HasSame, Linked}
use Rattle.std.proofs.lemmas.List.Kept.{Contains-dedup_nat, Contains-from_dedup}

-- in order, and each once
pub same_sorted : (xs sorted : List ℕ) → IsPermutation xs sorted → HasSame xs (dedup eqb sorted)
same_sorted xs sorted moved = record {
  kept = λ p c. Contains-dedup_nat sorted p (Contains-permutation xs sorted p moved c);
  from = λ p c. Contains-permutation sorted xs p (IsPermutation-sym xs sorted moved) (Contains-from_dedup eqb sorted p c);
}

-- links beside these, each once
pub linked_once : {into : ℕ → List ℕ} (xs links old mid new : List ℕ) → old ≡ links → Linked into xs old mid → HasSame mid new → Linked into xs links new
linked_once xs links old mid new is a same = record {
  kept = λ p c. same.kept p (a.kept p (subst (λ ls. Contains ls p) (sym is) c));
  has = λ p c s. same.kept p (a.has p c s);
  from = λ p c. elim (a.from p (same.from p c)) [ inl d ↦ inl (subst (λ ls. Contains ls p) is d) | inr u ↦ inr u ];
}
