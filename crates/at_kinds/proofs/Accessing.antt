-- Names behind a front and before an end, and components by them.
use Rattle.std.proofs.Common.{◌≡◌, ℕ, ◌+◌, ◌<◌, ◌≤◌, List, [], ◌∷◌, ◌++◌, length, map, take, drop, reverse, refl, ap, sym, ◌∙◌, arith, Option, Some, None, suc, zero, true≢false, length-append}
use Rattle.std.specs.Prelude.{Bool, true, false, ◌&&◌, cond, position, nat_eq}
use Rattle.std.specs.List.{slice_get, flat_map}
use Rattle.std.specs.Str.{bytes_eq}
use Rattle.std.specs.Option.{option_and_then}
use Rattle.std.proofs.lemmas.List.Concat.{flat_map-cons}
use Rattle.std.proofs.lemmas.Option.{slice_get_past}
use Rattle.std.specs.List.{position_from}
use Rattle.std.proofs.lemmas.Iterator.Adapters.{position_from-zero}
use Rattle.at_class.proofs.Named.{position-map}
use Rattle.at_class.specs.View.{part_view}
use Rattle.at_class.specs.declared.part.Part.{Part}
use Rattle.at_model.specs.Classes.{Classes, Class, Component, chain, chain_within, own_of, parts}
use Rattle.at_model.proofs.Options.{and_false}

alone : (classes : Classes) (c : ℕ) → slice_get classes c ≡ None → flat_map (own_of classes) (c ∷ []) ≡ []
alone classes c none = flat_map-cons (own_of classes) c [] ∙ ap (λ (o : Option Class). (elim o [ None ↦ [] | Some k ↦ k.own ]) ++ []) none

-- a class that isn't there has no components
no_parts_within : (classes : Classes) (c : ℕ) → slice_get classes c ≡ None → (n : ℕ) → flat_map (own_of classes) (reverse (chain_within n classes (Some c))) ≡ []
no_parts_within classes c none zero = refl
no_parts_within classes c none (suc zero) = alone classes c none
no_parts_within classes c none (suc (suc n)) =
    ap (λ (o : Option Class). flat_map (own_of classes) (reverse (c ∷ chain_within (suc n) classes (option_and_then (λ k. k.parent) o)))) none ∙ alone classes c none

pub no_parts : (classes : Classes) (c : ℕ) → length classes ≤ c → parts classes c ≡ []
unfolding chain
no_parts classes c past = no_parts_within classes c (slice_get_past classes c past) (length classes)

and_assoc : (a b c : Bool) → (a && (b && c)) ≡ ((a && b) && c)
and_assoc true b c = refl
and_assoc false b c = refl

-- a name and a front with something behind it
pub front_same : (name front x : List ℕ) → length front ≤ length name → bytes_eq name (front ++ x) ≡ (bytes_eq (take (length front) name) front && bytes_eq (drop (length front) name) x)
front_same name [] x le = refl
front_same [] (b ∷ bs) x le = absurd (omega arith)
front_same (a ∷ name) (b ∷ bs) x le = ap (λ r. nat_eq a b && r) (front_same name bs x (omega arith)) ∙ and_assoc (nat_eq a b) _ _

pub front_longer : (name front x : List ℕ) → length name < length front → bytes_eq name (front ++ x) ≡ false
front_longer name [] x less = absurd (omega arith)
front_longer [] (b ∷ bs) x less = refl
front_longer (a ∷ name) (b ∷ bs) x less = ap (λ r. nat_eq a b && r) (front_longer name bs x (omega arith)) ∙ and_false (nat_eq a b)

lengths_same : (a b : List ℕ) → bytes_eq a b ≡ true → length a ≡ length b
lengths_same [] [] is = refl
lengths_same [] (b ∷ bs) is = absurd (true≢false (sym is))
lengths_same (a ∷ as') [] is = absurd (true≢false (sym is))
lengths_same (a ∷ as') (b ∷ bs) is = omega (arith, lengths_same as' bs (second (nat_eq a b) (bytes_eq as' bs) is))
  where
    second : (p q : Bool) → (p && q) ≡ true → q ≡ true
    second true q is = is
    second false q is = absurd (true≢false (sym is))

by_length : (a b : List ℕ) → (length a ≡ length b → ⊥) → bytes_eq a b ≡ false
by_length a b other = by (bytes_eq a b) refl
  where
    by : (r : Bool) → bytes_eq a b ≡ r → r ≡ false
    by false is = refl
    by true is = absurd (other (lengths_same a b is))

off_end : (n : ℕ) (name end : List ℕ) → suc n + length end ≡ length name → (bytes_eq (drop (suc n) name) end && bytes_eq (take (suc n) name) []) ≡ false
off_end n [] end le = absurd (omega arith)
off_end n (a ∷ name) end le = and_false _

-- a name and an end with something before it
pub end_same : (name end x : List ℕ) (n : ℕ) → n + length end ≡ length name → bytes_eq name (x ++ end) ≡ (bytes_eq (drop n name) end && bytes_eq (take n name) x)
end_same name end [] zero le = swap (bytes_eq name end)
  where
    swap : (p : Bool) → p ≡ (p && true)
    swap true = refl
    swap false = refl
end_same name end [] (suc n) le = by_length name end (λ is. omega (arith, le, is)) ∙ sym (off_end n name end le)
end_same name end (b ∷ x) zero le =
    by_length name (b ∷ (x ++ end)) (λ is. omega (arith, le, is, length-append x end)) ∙ sym (and_false (bytes_eq name end))
end_same [] end (b ∷ x) (suc n) le = absurd (omega arith)
end_same (a ∷ name) end (b ∷ x) (suc n) le =
    ap (λ r. nat_eq a b && r) (end_same name end x n (omega arith)) ∙ turn (nat_eq a b) (bytes_eq (drop n name) end) (bytes_eq (take n name) x)
  where
    turn : (p q r : Bool) → (p && (q && r)) ≡ (q && (p && r))
    turn true true r = refl
    turn true false r = refl
    turn false true r = refl
    turn false false r = refl

pub behind_front : (name front head rest : List ℕ) → length front ≤ length name → head ≡ take (length front) name
    → rest ≡ drop (length front) name → bytes_eq head front ≡ true → (x : List ℕ)
    → bytes_eq name (front ++ x) ≡ bytes_eq rest x
behind_front name front head rest le h r is x = front_same name front x le ∙ ap (λ b. b
    && bytes_eq (drop (length front) name) x) (ap (λ l. bytes_eq l front) (sym h) ∙ is) ∙ ap (λ l. bytes_eq l x) (sym r)

pub not_behind : (name front head : List ℕ) → length front ≤ length name → head ≡ take (length front) name → bytes_eq head front ≡ false → (x : List ℕ) → bytes_eq name (front ++ x) ≡ false
not_behind name front head le h is x = front_same name front x le ∙ ap (λ b. b && bytes_eq (drop (length front) name) x) (ap (λ l. bytes_eq l front) (sym h) ∙ is)

pub before_end : (name end rest tail : List ℕ) (n : ℕ) → n + length end ≡ length name → rest ≡ take n name
    → tail ≡ drop n name → bytes_eq tail end ≡ true → (x : List ℕ) → bytes_eq name (x ++ end) ≡ bytes_eq rest x
before_end name end rest tail n le r t is x = end_same name end x n le ∙ ap (λ b. b && bytes_eq (take n name) x) (ap (λ l. bytes_eq l end) (sym t) ∙ is) ∙ ap (λ l. bytes_eq l x) (sym r)

pub not_before : (name end tail : List ℕ) (n : ℕ) → n + length end ≡ length name → tail ≡ drop n name → bytes_eq tail end ≡ false → (x : List ℕ) → bytes_eq name (x ++ end) ≡ false
not_before name end tail n le t is x = end_same name end x n le ∙ ap (λ b. b && bytes_eq (take n name) x) (ap (λ l. bytes_eq l end) (sym t) ∙ is)

-- a search over components is one over what they stand for
pub position-view : (p : Component → Bool) (q : Part → Bool) (xs : List Part) → ((x : Part) → q x ≡ p (part_view x)) → position q xs ≡ position p (map part_view xs)
position-view p q xs same = ap (λ test. position test xs) (λ i x. same x i) ∙ sym (position-map p part_view xs)

none_from : {A : Type 0} (p : A → Bool) → ((x : A) → p x ≡ false) → (i : ℕ) (xs : List A) → position_from p i xs ≡ None
none_from p never i [] = refl
none_from p never i (x ∷ xs) = ap (λ b. cond b (Some i) (position_from p (i + 1) xs)) (never x) ∙ none_from p never (i + 1) xs

-- a test that always fails
pub position-never : {A : Type 0} (p : A → Bool) (xs : List A) → ((x : A) → p x ≡ false) → position p xs ≡ None
position-never p xs never = position_from-zero p xs ∙ none_from p never 0 xs
