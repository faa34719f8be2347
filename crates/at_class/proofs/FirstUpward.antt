-- What is found on the way up from a class, one step at a time.
use Rattle.std.proofs.Common.{◌≡◌, ℕ, ◌+◌, ◌-◌, ◌<◌, ◌≤◌, List, [], ◌∷◌, Option, Some, None, option_map, refl, sym, ap, ◌∙◌, subst, inl, inr}
use Rattle.std.specs.Prelude.{Bool, ◌||◌, is_some}
use Rattle.std.specs.List.{list_any}
use Rattle.std.specs.Option.{option_or}
use Rattle.at_model.specs.Classes.{Classes, chain_within, parent_of}
use Rattle.at_model.specs.Rules.{first_answer}
use Rattle.at_class.specs.Upward.{AnswersFirst}
use Rattle.at_class.proofs.Chains.{chain_within-end, chain_within-none, chain_within-step}

module _ {A : Type 0} (Answers : ℕ → Option A → Type 0) (classes : Classes) where
  abbrev pub Finds : ℕ → Option ℕ → Option A → Type 0
  Finds n from found = AnswersFirst Answers (chain_within n classes from) found

  pub none_on_top : (n : ℕ) → Finds n None None
  none_on_top n = subst (λ (cs : List ℕ). AnswersFirst Answers cs None) (sym (chain_within-none classes n)) refl

  pub none_at_end : (n i : ℕ) (from : Option ℕ) → n ≤ i → Finds (n - i) from None
  none_at_end n i from end = subst (λ (cs : List ℕ). AnswersFirst Answers cs None) (sym (chain_within-end classes n i from end)) refl

  pub found_here : (n i c : ℕ) (a : A) → i < n → Answers c (Some a) → Finds (n - i) (Some c) (Some a)
  found_here n i c a less here = subst (λ (cs : List ℕ). AnswersFirst Answers cs (Some a)) (sym (chain_within-step classes n i c less)) (inl (refl, here))

  pub found_above : (n i c : ℕ) (found : Option A) → i < n → Answers c None → Finds (n - (i + 1)) (parent_of classes c) found → Finds (n - i) (Some c) found
  found_above n i c found less none above = subst (λ (cs : List ℕ). AnswersFirst Answers cs found) (sym (chain_within-step classes n i c less)) (inr (none, above))

-- where each answers what a function of classes says, the first answer is that function's
pub first_by : {A B : Type 0} (Answers : ℕ → Option A → Type 0) (view : A → B) (f : ℕ → Option B) → ((c : ℕ) (found : Option A) → Answers c found → option_map view found ≡ f c)
    → (cs : List ℕ) (found : Option A) → AnswersFirst Answers cs found → option_map view found ≡ first_answer f cs
first_by Answers view f says [] found none = ap (option_map view) none
first_by Answers view f says (c ∷ cs) None (inl (some, here)) = absurd cc
first_by Answers view f says (c ∷ cs) (Some a) (inl (some, here)) = ap (λ o. option_or o (first_answer f cs)) (says c (Some a) here)
first_by Answers view f says (c ∷ cs) found (inr (none, more)) =
    first_by Answers view f says cs found more ∙ ap (λ o. option_or o (first_answer f cs)) (says c None none)

-- where one answers just if it passes a test, something is found if any passes it
pub some_by : {A : Type 0} (Answers : ℕ → Option A → Type 0) (test : ℕ → Bool) → ((c : ℕ) (found : Option A) → Answers c found → is_some found ≡ test c)
    → (cs : List ℕ) (found : Option A) → AnswersFirst Answers cs found → is_some found ≡ list_any test cs
some_by Answers test says [] found none = ap is_some none
some_by Answers test says (c ∷ cs) found (inl (some, here)) = some ∙ sym (ap (λ b. b || list_any test cs) (sym (says c found here) ∙ some))
some_by Answers test says (c ∷ cs) found (inr (none, more)) = some_by Answers test says cs found more ∙ ap (λ b. b || list_any test cs) (says c None none)
