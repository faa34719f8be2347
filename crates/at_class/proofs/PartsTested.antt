-- That components are apart, by a test on each class.
use Rattle.std.proofs.Common.{◌≡◌, ℕ, zero, suc, ◌<◌, ◌≤◌, Bool, true, false, List, [], ◌∷◌, ◌++◌, length, take, refl, sym, ap, subst, ◌∙◌, arith, append_assoc, append-nil, Option, Some, None}
use Rattle.std.specs.Prelude.{◌&&◌, not, nat_eq, nat_lt, reverse, option_and_then}
use Rattle.std.specs.List.{flat_map, list_any, slice_get}
use Rattle.std.proofs.lemmas.Bool.{eqb-true, ltb-true, ltb-false}
use Rattle.std.proofs.lemmas.Bool.Decides.{nat_tests}
use Rattle.std.proofs.lemmas.Option.{slice_get_past}
use Rattle.at_model.specs.Classes.{Class, Classes, Component, chain, chain_within, own_of, parts}
use Rattle.at_model.specs.Paths.{ArePartsApart, part_named}
use Rattle.at_model.specs.Samples.{calc_classes}
use Rattle.at_model.proofs.Options.{both}
use Rattle.at_class.proofs.Apart.{AreFirst, first_named, is_named}
use Rattle.at_class.proofs.Chains.{chain_within-none}

-- none has the name of one before it
abbrev are_first : List Component → List Component → Bool
are_first front [] = true
are_first front (x ∷ xs) = not (list_any (is_named x.name) front) && are_first (front ++ x ∷ []) xs

abbrev are_all_first : Classes → ℕ → Bool
are_all_first classes zero = true
are_all_first classes (suc n) = are_first [] (parts classes n) && are_all_first classes n

off : (b : Bool) → not b ≡ true → b ≡ false
off true e = absurd cc
off false e = refl

first_by : (front xs : List Component) → are_first front xs ≡ true → AreFirst front xs
first_by front [] e i p there = absurd cc
first_by front (x ∷ xs) e zero p there =
    let same : x ≡ p = cc in
    ap (list_any (is_named p.name)) (append-nil front) ∙
    subst (λ (q : Component). list_any (is_named q.name) front ≡ false) same (off (list_any (is_named x.name) front)
    (both (not (list_any (is_named x.name) front)) (are_first (front ++ x ∷ []) xs) e).0)
first_by front (x ∷ xs) e (suc i) p there =
    ap (list_any (is_named p.name)) (sym (append_assoc front (x ∷ []) (take i xs)))
    ∙ first_by (front ++ x ∷ []) xs (both (not (list_any (is_named x.name) front)) (are_first (front ++ x ∷ []) xs) e).1 i p there

below_by : (classes : Classes) (n c : ℕ) → are_all_first classes n ≡ true → c < n → AreFirst [] (parts classes c)
below_by classes zero c e less = absurd (omega (arith, less))
below_by classes (suc n) c e less = by (nat_eq c n) refl (below_by classes n c (both (are_first [] (parts classes n)) (are_all_first classes n) e).1)
  where
    by : (s : Bool) → nat_eq c n ≡ s → (c < n → AreFirst [] (parts classes c)) → AreFirst [] (parts classes c)
    by true same rest = first_by [] (parts classes c) (ap (λ k. are_first [] (parts classes k)) (eqb-true c n same) ∙ (both (are_first [] (parts classes n)) (are_all_first classes n) e).0)
    by false other rest = rest (grind (arith, nat_tests))

-- a number past the classes has no components
none_past : (classes : Classes) (c : ℕ) → length classes ≤ c → 0 < length classes → parts classes c ≡ []
unfolding chain
none_past classes c past some = by (length classes) refl
  where
    by : (n : ℕ) → length classes ≡ n → parts classes c ≡ []
    by zero f = absurd (omega (arith, some, f))
    by (suc n) f =
        ap (λ m. flat_map (own_of classes) (reverse (chain_within m classes (Some c)))) f
        ∙ ap (λ (o : Option Class). flat_map (own_of classes) (reverse (c ∷ chain_within n classes (option_and_then (λ k. k.parent) o)))) (slice_get_past classes c past)
        ∙ ap (λ cs. flat_map (own_of classes) (reverse (c ∷ cs))) (chain_within-none classes n)
        ∙ ap (λ (o : Option Class). elim o [ None ↦ [] | Some k ↦ k.own ] ++ []) (slice_get_past classes c past)

apart_by : (classes : Classes) → 0 < length classes → are_all_first classes (length classes) ≡ true → ArePartsApart classes
apart_by classes some e c i p there = by (nat_lt c (length classes)) refl
  where
    by : (s : Bool) → nat_lt c (length classes) ≡ s → part_named classes c p.name ≡ Some i
    by true less = first_named (parts classes c) (below_by classes (length classes) c e (ltb-true c (length classes) less)) i p there
    by false past = absurd (nowhere (ap (λ ps. slice_get ps i) (sym (none_past classes c (ltb-false c (length classes) past) some)) ∙ there))
      where
        nowhere : slice_get [] i ≡ Some p → ⊥
        nowhere f = cc

pub calc_apart : ArePartsApart calc_classes
unfolding chain
calc_apart = apart_by calc_classes (omega arith) refl
