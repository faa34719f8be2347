-- Values that are collected one after the other.
use Rattle.std.proofs.Common.{◌≡◌, List, [], ◌∷◌, ◌++◌, Option, Some, None, option_and_then, option_map, refl, sym, ap, ◌∙◌, subst, append_assoc, append-nil}
use Rattle.at_model.specs.Machine.{each}
use Rattle.at_model.specs.Alike.{ListLike, end, more}
use Rattle.at_engine.specs.Collected.{Collected}

module _ {A B : Type 0} {R : A → B → Type 0} where
  -- one more behind two lists
  pub one_more : {as' : List A} {bs : List B} {a : A} {b : B} → ListLike R as' bs → R a b → ListLike R (as' ++ a ∷ []) (bs ++ b ∷ [])
  one_more end r = more r end
  one_more (more s l) r = more s (one_more l r)

put_front : {A : Type 0} (o : Option (List A)) → o ≡ option_map (λ ys. [] ++ ys) o
put_front None = refl
put_front (Some a) = refl

put_behind : {A : Type 0} (done : List A) (a : A) (o : Option (List A)) → option_map (λ ys. done ++ ys) (option_map (λ ys. a ∷ ys) o) ≡ option_map (λ ys. (done ++ a ∷ []) ++ ys) o
put_behind done a None = refl
put_behind done a (Some ys) = ap Some (sym (append_assoc done (a ∷ []) ys))

module _ {A B : Type 0} (R : A → B → Type 0) (all : List (Option B)) where
  pub collected_none : Collected R all [] all
  collected_none = ([], end, put_front (each all))

  pub collected_more : (vs : List A) (v : A) (w : B) (o : Option B) (os : List (Option B)) → o ≡ Some w → R v w → Collected R all vs (o ∷ os) → Collected R all (vs ++ v ∷ []) os
  collected_more vs v w o os is l (ws, ls, so) =
      (ws ++ w ∷ [], one_more ls l, so ∙ ap (λ (x : Option B). option_map (λ ys. ws ++ ys) (option_and_then (λ a. option_map (λ as'. a ∷ as') (each os)) x)) is ∙ put_behind ws w (each os))

  pub collected_all : (vs : List A) → Collected R all vs [] → (ws : List B) × (each all ≡ Some ws) × ListLike R vs ws
  collected_all vs (ws, ls, so) = (ws ++ [], so, subst (λ (xs : List B). ListLike R vs xs) (sym (append-nil ws)) ls)

  pub collected_stop : (vs : List A) (o : Option B) (os : List (Option B)) → o ≡ None → Collected R all vs (o ∷ os) → each all ≡ None
  collected_stop vs o os is (ws, ls, so) = so ∙ ap (λ (x : Option B). option_map (λ ys. ws ++ ys) (option_and_then (λ a. option_map (λ as'. a ∷ as') (each os)) x)) is
