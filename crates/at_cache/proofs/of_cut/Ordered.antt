-- The slots of instances, in order.
use Rattle.at_cache.proofs.Common.{◌≡◌, [], ◌∷◌, ◌++◌, ◌<◌, ◌+◌, inl, inr, ℕ, List, length, get_or, take, Some, None, IsSome, is_some, Contains, sym, ap, ◌∙◌, subst, true≢false, lookup, take_more, Contains-append_left, Contains-append_right, Contains-push_cases, Instance, same_instance, Entry, Table, memory_of, AreTaken, instances_in, AreTheirs, head_of}
use Rattle.at_cache.proofs.Shown.{slot_there}
use Rattle.at_cache.proofs.of_cut.Goes.{instances_at}
use Rattle.at_cache.proofs.of_cut.HeldSlots.{slot_of}

module _ (t : Table) (uses : List (Instance ℕ)) (i : ℕ) (u : Instance ℕ) (is : u ≡ get_or uses i u)
    (less : i < length uses) (slots : List ℕ) (theirs : AreTheirs t (take i uses) slots) where
  one_more : take i uses ++ u ∷ [] ≡ take (i + 1) uses
  one_more = ap (λ v. take i uses ++ v ∷ []) is ∙ sym (take_more uses i u less)

  pub theirs_more : (x : Entry) (after : List ℕ) → lookup (same_instance u) t.entries.entries ≡ Some x
      → after ≡ slots ++ x.slot ∷ [] → AreTheirs t (take (i + 1) uses) after
  theirs_more x after found pushed all =
      let (f, there, its) = slot_of t u x found in
      ap (instances_in (memory_of t)) pushed
      ∙ instances_at (λ l. []) t slots [] x.slot f there
      ∙ ap (λ us. us ++ f.instance ∷ []) (theirs (λ v among. all v
      (subst (λ us. Contains us v) one_more (Contains-append_left (take i uses) (u ∷ []) v among))))
      ∙ ap (λ v. take i uses ++ v ∷ []) its
      ∙ one_more

  pub theirs_none : (after : List ℕ) → lookup (same_instance u) t.entries.entries ≡ None → after ≡ slots
      → AreTheirs t (take (i + 1) uses) after
  theirs_none after none same all =
      absurd (true≢false (sym (all u (subst (λ us. Contains us u) one_more
      (Contains-append_right (take i uses) (u ∷ []) u (head_of u [])))) ∙ ap is_some none))

pub taken_more : (t : Table) (u : Instance ℕ) (e : Entry) (slots after : List ℕ) → lookup (same_instance u) t.entries.entries ≡ Some e
    → after ≡ slots ++ e.slot ∷ [] → AreTaken (memory_of t) slots → AreTaken (memory_of t) after
taken_more t u e slots after found pushed taken s c = elim (Contains-push_cases slots e.slot s (subst (λ ss. Contains ss s) pushed c)) [
  | inl d ↦ taken s d
  | inr same ↦ subst (λ s. IsSome (memory_of t s)) same (slot_there t u e found)
]
