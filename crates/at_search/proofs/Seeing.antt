-- What a search has seen, and has to do.
use Rattle.std.proofs.Common.{◌≡◌, ◌⊎◌, ℕ, Bool, true, false, List, [], ◌∷◌, ◌++◌, map, reverse, Option, Some, None, IsSome, Result, Ok, Err, OnOk, MatchBool, inl, inr, refl, sym, ap, ◌∙◌, subst}
use Rattle.std.proofs.lemmas.List.{reverse-append}
use mathlib.Core.List.{reverse-cons}
use Rattle.std.specs.Map.{keys_of}
use Rattle.indexmap.specs.IndexMap.{insert_entry}
use Rattle.at_model.specs.Run.{Value, Instance}
use Rattle.at_model.specs.Meaning.{Among}
use Rattle.at_model.specs.of_fixpoints.Formulas.{Formula, atoms}
use Rattle.at_model.proofs.Reached.{front_among, back_among, either_among}
use Rattle.at_body.specs.Pieces.{asked, stacked}
use Rattle.at_body.specs.Same.{same_instance}
use Rattle.at_body.specs.declared.formula.Piece.{Piece}
use Rattle.at_body.proofs.Piled.{in_order}
use Rattle.at_search.proofs.Asking.{reverse_push}
use Rattle.at_search.proofs.KeyLemmas.{goes_last, keys_push}

pub among_reverse : {A : Type 0} (xs : List A) (a : A) → Among a xs → Among a (reverse xs)
among_reverse [] a h = absurd h
among_reverse (x ∷ xs) a (inl e) =
    subst (λ z. Among a z) (sym (reverse-cons x xs)) (back_among a (reverse xs) (x ∷ []) (inl e))
among_reverse (x ∷ xs) a (inr h) =
    subst (λ z. Among a z) (sym (reverse-cons x xs)) (front_among a (reverse xs) (x ∷ []) (among_reverse xs a h))

pub reverse_among : {A : Type 0} (xs : List A) (a : A) → Among a (reverse xs) → Among a xs
reverse_among [] a h = absurd h
reverse_among (x ∷ xs) a h = elim (either_among a (reverse xs) (x ∷ []) (subst (λ z. Among a z) (reverse-cons x xs) h)) [
  | inl b ↦ inr (reverse_among xs a b)
  | inr b ↦ elim b [ inl e ↦ inl e | inr u ↦ absurd u ]
]

-- whether it was seen is whether it is a key
pub is_seen : (b : Bool) (ks : List (Instance ℕ)) (i : Instance ℕ) → MatchBool b (Among i ks) (Among i ks → ⊥) →
    MatchBool b (Among i (reverse ks)) (Among i (reverse ks) → ⊥)
is_seen true ks i h = among_reverse ks i h
is_seen false ks i h = λ a. h (reverse_among ks i a)

-- a new key is the last one that was seen
pub seen_more : {E : Type 0} (r : Result (Unit {0}) E) (old mid new : List (Instance ℕ × Unit {0})) (i : Instance ℕ) → mid ≡ old →
    (Among i (reverse (keys_of old)) → ⊥) → OnOk r (new ≡ insert_entry same_instance mid i tt) →
    OnOk r (reverse (keys_of new) ≡ i ∷ reverse (keys_of old))
seen_more (Ok u) old mid new i e fresh h =
    ap (λ z. reverse (keys_of z)) (h ∙ ap (λ z. insert_entry same_instance z i tt) e
    ∙ goes_last old i tt (λ a. fresh (among_reverse (keys_of old) i a)))
    ∙ ap reverse (keys_push old i tt) ∙ reverse_push (keys_of old) i
seen_more (Err x) old mid new i e fresh h = tt

-- what the formula asks for is to do
pub formed_todo : {T E : Type 0} (r : Result T E) (ps : List Piece) (f : Formula ℕ) (old new : List (Instance ℕ)) →
    stacked [] ps ≡ f ∷ [] → OnOk r (new ≡ asked ps ++ old) → OnOk r (new ≡ atoms f ++ old)
formed_todo (Ok u) ps f old new e h = h ∙ ap (λ z. z ++ old) (sym (in_order ps f e))
formed_todo (Err x) ps f old new e h = tt

pub some_is : (o : Option (Value ℕ)) (v : Value ℕ) → Some v ≡ o → IsSome o
some_is None v e = absurd cc
some_is (Some w) v e = refl
