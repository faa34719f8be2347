-- Loops over what is read: what is still to come, by the items that are left.
use Rattle.std.proofs.Common.{◌≡◌, ◌∙◌, ℕ, zero, suc, ◌+◌, ◌<◌, ◌≤◌, List, [], ◌∷◌, ◌++◌, length, map, drop, get_or, Vec, Bool, true, false, cond, not, ◌&&◌, ◌||◌, nat_eq, Option, Some, None, is_some, true≢false, refl, sym, ap, add-one, append-nil, append_assoc, arith}
use Rattle.std.proofs.Math.Seq.{drop-cons}
use Rattle.std.proofs.lemmas.List.{drop_all}
use Rattle.std.specs.Global.{Global}
use Rattle.std.specs.List.{find, list_any}
use Rattle.std.specs.Str.{bytes_eq}
use Rattle.at_model.specs.Classes.{Classes, chain, chain_within, class_of_name, is_sub, parent_of}
use Rattle.at_typing.specs.Declaring.{is_below}
use Rattle.at_jrag.specs.Syntax.{Aspect, DeclForm, Synthesized, Inherited, Equation, InheritedEquation, Param}
use Rattle.at_jrag.specs.View.{aspect_view}
use Rattle.at_jrag.specs.declared.syntax.Aspect.{Aspect as AspectValue}
use Rattle.at_start.specs.Redeclaring.{Signature, is_above, is_again, is_declared_above, kind_text, may_start, signature_in, strays, superclass, superclass_in, with_kinds}
pub use Rattle.at_start.specs.FilesView.{aspects_of}
-- ---- items of a slice

pub use Rattle.at_start.proofs.PlantingLoops.{next_part, no_part}

module _ {X : Type 0} (p : X → Bool) (xs : List X) (i : ℕ) where
  any_split : (x : X) → i < length xs → x ≡ get_or xs i x → list_any p (drop i xs) ≡ (p x || list_any p (drop (i + 1)
      xs))
  any_split x less is =
      let rest = drop (suc i) xs in
      let here : drop i xs ≡ x ∷ rest = drop-cons xs i x less ∙ ap (λ y. y ∷ rest) (sym is) in
      ap (list_any p) here ∙ ap (λ n. p x || list_any p (drop n xs)) (sym (add-one i))

  -- that one is such
  pub any_here : (x : X) → i < length xs → x ≡ get_or xs i x → p x ≡ true → list_any p (drop i xs) ≡ true
  any_here x less is such = any_split x less is ∙ ap (λ b. b || list_any p (drop (i + 1) xs)) such

  -- it isn't
  pub any_later : (x : X) → i < length xs → x ≡ get_or xs i x → p x ≡ false
      → list_any p (drop i xs) ≡ list_any p (drop (i + 1) xs)
  any_later x less is other = any_split x less is ∙ ap (λ b. b || list_any p (drop (i + 1) xs)) other

  pub any_nowhere : length xs ≤ i → list_any p (drop i xs) ≡ false
  any_nowhere past = ap (list_any p) (drop_all i xs past)

  find_split : (x : X) → i < length xs → x ≡ get_or xs i x → find p (drop i xs) ≡ cond (p x) (Some x) (find p (drop (i
      + 1) xs))
  find_split x less is =
      let rest = drop (suc i) xs in
      let here : drop i xs ≡ x ∷ rest = drop-cons xs i x less ∙ ap (λ y. y ∷ rest) (sym is) in
      ap (find p) here ∙ ap (λ n. cond (p x) (Some x) (find p (drop n xs))) (sym (add-one i))

  -- that one is found
  pub find_here : (x : X) → i < length xs → x ≡ get_or xs i x → p x ≡ true → find p (drop i xs) ≡ Some x
  find_here x less is such = find_split x less is ∙ ap (λ b. cond b (Some x) (find p (drop (i + 1) xs))) such

  -- it isn't
  pub find_later : (x : X) → i < length xs → x ≡ get_or xs i x → p x ≡ false
      → find p (drop i xs) ≡ find p (drop (i + 1) xs)
  find_later x less is other = find_split x less is ∙ ap (λ b. cond b (Some x) (find p (drop (i + 1) xs))) other

  pub find_nowhere : length xs ≤ i → find p (drop i xs) ≡ None
  find_nowhere past = ap (find p) (drop_all i xs past)

-- ---- items that are handed over

-- what the next one gives is appended
pub next_given : {X A : Type 0} (g : List X → List A) (before after part zs : List A) (left rest : List X) (x : X)
    → left ≡ x ∷ rest → ((xs : List X) → g (x ∷ xs) ≡ part ++ g xs) → after ≡ before ++ part
    → before ++ g left ≡ zs → after ++ g rest ≡ zs
next_given g before after part zs left rest x took law new so_far =
    ap (λ ys. ys ++ g rest) new ∙ append_assoc before part (g rest) ∙ ap (λ ys. before ++ ys) (sym (law rest))
    ∙ ap (λ ys. before ++ g ys) (sym took) ∙ so_far

nothing_left : {X : Type 0} (xs : List X) → length xs ≡ 0 → xs ≡ []
nothing_left [] h = refl
nothing_left (x ∷ xs) h = absurd (omega (arith, h))

-- none is left
pub none_given : {X A : Type 0} (g : List X → List A) (before zs : List A) (left : List X) → length left ≡ 0 → g [] ≡ []
    → before ++ g left ≡ zs → before ≡ zs
none_given g before zs left none nil so_far =
    sym (ap (λ xs. before ++ g xs) (nothing_left left none) ∙ ap (λ ys. before ++ ys) nil ∙ append-nil before) ∙ so_far

-- one more, of what they stand for
pub viewed_part : {X A : Type 0} (v : X → A) (old new : List X) (x : X) (a : A) → new ≡ old ++ x ∷ [] → v x ≡ a
    → map v new ≡ map v old ++ a ∷ []
viewed_part v old new x a pushed is = ap (map v) pushed ∙ appended old ∙ ap (λ b. map v old ++ b ∷ []) is
  where
    appended : (xs : List _) → map v (xs ++ x ∷ []) ≡ map v xs ++ v x ∷ []
    appended [] = refl
    appended (y ∷ ys) = ap (λ zs. v y ∷ zs) (appended ys)

-- ---- kinds of parameters

-- that of one more stands behind
pub kinds_on : {X : Type 0} (view : X → Param) (before after zs : List ℕ) (ps : List X) (i : ℕ) (p : X)
    → i < length ps → p ≡ get_or ps i p
    → after ≡ with_kinds before (view p ∷ []) → with_kinds before (map view (drop i ps)) ≡ zs
    → with_kinds after (map view (drop (i + 1) ps)) ≡ zs
kinds_on view before after zs ps i p less is new so_far =
    let rest = drop (suc i) ps in
    let here : drop i ps ≡ p ∷ rest = drop-cons ps i p less ∙ ap (λ y. y ∷ rest) (sym is) in
    rw (new, add-one) (ap (λ ys. with_kinds before (map view ys)) (sym here) ∙ so_far)

-- ---- classes that have none above

pub not_some : {X : Type 0} {o : Option X} → is_some o ≡ false → o ≡ None
not_some {o = None} is = refl
not_some {o = Some x} is = absurd (true≢false is)

nowhere : (n : ℕ) (classes : Classes) (b : ℕ) → list_any (nat_eq b) (chain_within n classes None) ≡ false
nowhere zero classes b = refl
nowhere (suc n) classes b = refl

-- on the way up from a class without a superclass it stands alone
alone : (n : ℕ) (classes : Classes) (c b : ℕ) → parent_of classes c ≡ None → nat_eq b c ≡ false
    → list_any (nat_eq b) (chain_within n classes (Some c)) ≡ false
alone zero classes c b none differs = refl
alone (suc n) classes c b none differs =
    ap (λ o. nat_eq b c || list_any (nat_eq b) (chain_within n classes o)) none
    ∙ ap (λ t. t || list_any (nat_eq b) (chain_within n classes None)) differs ∙ nowhere n classes b

module _ (classes : Classes) where
  not_sub : (c b : ℕ) → parent_of classes c ≡ None → nat_eq b c ≡ false → is_sub classes c b ≡ false
  unfolding chain
  not_sub c b none differs = alone (length classes) classes c b none differs

  not_above : (c : Option ℕ) (b : Option ℕ) → superclass classes c ≡ None → is_above classes c b ≡ false
  not_above None b none = refl
  not_above (Some c) None none = refl
  not_above (Some c) (Some b) none = by (nat_eq b c) refl
    where
      by : (t : Bool) → nat_eq b c ≡ t → (cond t false (is_sub classes c b)) ≡ false
      by true is = refl
      by false is = not_sub c b none is

  not_again : (s t : Signature) → superclass classes s.class ≡ None → is_again classes s t ≡ false
  not_again s t none = ap (λ b. bytes_eq s.text t.text && (b && may_start s.start t.start)) (not_above s.class t.class
      none) ∙ by (bytes_eq s.text t.text)
    where
      by : (b : Bool) → b && false ≡ false
      by true = refl
      by false = refl

  pub none_again : (s : Signature) (among : List Signature) → superclass classes s.class ≡ None
      → list_any (is_again classes s) among ≡ false
  none_again s [] none = refl
  none_again s (t ∷ ts) none = ap (λ b. b || list_any (is_again classes s) ts) (not_again s t none)
      ∙ none_again s ts none

  pub none_strays : (s : Signature) (among : List Signature) → superclass classes s.class ≡ None
      → strays classes among s ≡ false
  none_strays s [] none = refl
  none_strays s (t ∷ ts) none =
      ap (λ b. (b && not (is_below classes s.kind t.kind)) || strays classes ts s) (not_again s t none)
      ∙ none_strays s ts none

  pub none_declared : (among : List Signature) (form : DeclForm) → superclass_in classes form ≡ None
      → is_declared_above classes among (signature_in classes 0 form) ≡ false
  none_declared among (Synthesized lazy kind class name params start ending) none =
      none_again (record {
        file = 0;
        at = kind.at;
        kind = kind_text kind.kind;
        class = class_of_name classes class.text;
        text = with_kinds name.text params.items;
        start = start;
      }) among none
  none_declared among (Inherited lazy kind class name params start) none = refl
  none_declared among (Equation class name params body) none = refl
  none_declared among (InheritedEquation class getter index name params body) none = refl
