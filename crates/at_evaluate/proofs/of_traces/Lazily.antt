-- Of the first ones of a list, each is of a lazy attribute.
use Rattle.std.proofs.Common.{◌≡◌, ◌+◌, ◌<◌, ℕ, get_or, take, length, Bool, true, List, [], ◌∷◌, ◌++◌, inl, inr, sym, ap, ◌∙◌, subst}
use Rattle.std.specs.Prelude.{Contains}
use Rattle.std.proofs.lemmas.List.{take_more}
use Rattle.std.proofs.lemmas.List.Elements.{Contains-push_cases}
use Rattle.at_model.specs.Run.{Instance}
use Rattle.at_model.specs.Rules.{Rules, is_lazy}
use Rattle.at_evaluate.specs.Inner.{AreLazy}

-- and so is the next one
pub lazy_more : (rules : Rules) (us : List (Instance ℕ)) (n : ℕ) (u : Instance ℕ) → n < length us → u ≡ get_or us n u →
    is_lazy rules u.attribute ≡ true → AreLazy rules (take n us) → AreLazy rules (take (n + 1) us)
lazy_more rules us n u less at lazy all x h =
    let grows = take_more us n u less ∙ ap (λ y. take n us ++ y ∷ []) (sym at) in
    elim (Contains-push_cases (take n us) u x (subst (λ (xs : List (Instance ℕ)). Contains xs x) grows h)) [
      | inl before ↦ all x before
      | inr same ↦ subst (λ (y : Instance ℕ). is_lazy rules y.attribute ≡ true) same lazy
    ]

-- what the rules say of the instance's attribute
pub told_lazy : (rules : Rules) (said is : Bool) (attribute at : ℕ) → said ≡ is_lazy rules attribute → attribute ≡ at → said ≡ is → is_lazy rules at ≡ is
told_lazy rules said is attribute at e same h = ap (is_lazy rules) (sym same) ∙ sym e ∙ h
