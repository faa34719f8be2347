-- Loops that look for the first fault.
use Rattle.std.proofs.Common.{◌≡◌, ℕ, ◌+◌, ◌<◌, ◌≤◌, List, [], ◌∷◌, ◌++◌, subst, length, take, drop, get_or, map, refl, ap, sym, ◌∙◌, arith, add-one, Option, Some, None}
use Rattle.std.proofs.Math.Seq.{drop-cons}
use Rattle.std.proofs.lemmas.List.{drop_all, take-map, map-append, map_more, get_or-map, length-map}
use Rattle.indexmap.specs.IndexSet.{insert_key}
use Rattle.at_grammar.specs.declared.syntax.ClassDecl.{ClassDecl}
use Rattle.at_class.specs.Grammar.{declaration_view, declarations_view}
use Rattle.std.specs.String.{string_eq}
use Rattle.std.proofs.lemmas.List.Elements.{All-push}
use Rattle.std.specs.Prelude.{All, ◌&&◌, not, String, string_bytes, Bool, true, false, ◌||◌, if◌then◌else◌}
use Rattle.std.specs.List.{list_any, list_all}
use Rattle.std.specs.Str.{bytes_eq}
use Rattle.at_model.specs.Declarations.{Declarations, Declaration, Place, first_given, is_predefined}

-- one more element at which nothing is given
pub first_given_more : {X A B : Type 0} (f : ℕ → A → Option B) (v : X → A) (xs : List X) (k : ℕ) (x : X) → k < length xs → x ≡ get_or xs k x → f k (v x) ≡ None
    → first_given f k (map v (drop k xs)) ≡ first_given f (k + 1) (map v (drop (k + 1) xs))
first_given_more f v xs k x less is none =
    rw (drop-cons xs k x less, ← is) (rw none (rw add-one refl))

-- the first element at which something is given
pub first_given_here : {X A B : Type 0} (f : ℕ → A → Option B) (v : X → A) (xs : List X) (k : ℕ) (x : X) (y : B) → k < length xs → x ≡ get_or xs k x → f k (v x) ≡ Some y
    → first_given f k (map v (drop k xs)) ≡ Some y
first_given_here f v xs k x y less is some = rw (drop-cons xs k x less, ← is) (rw some refl)

-- nothing is given before this position
abbrev pub NoneBefore : {X A B : Type 0} → (ℕ → A → Option B) → (X → A) → List X → ℕ → Type 0
NoneBefore f v xs k = first_given f 0 (map v xs) ≡ first_given f k (map v (drop k xs))

pub none_more : {X A B : Type 0} (f : ℕ → A → Option B) (v : X → A) (xs : List X) (k : ℕ) (x : X) → k < length xs
    → x ≡ get_or xs k x → f k (v x) ≡ None → NoneBefore f v xs k → NoneBefore f v xs (k + 1)
none_more f v xs k x less is none so_far = so_far ∙ first_given_more f v xs k x less is none

pub first_here : {X A B : Type 0} (f : ℕ → A → Option B) (v : X → A) (xs : List X) (k : ℕ) (x : X) (y : B)
    → k < length xs → x ≡ get_or xs k x → NoneBefore f v xs k → f k (v x) ≡ Some y → first_given f 0 (map v xs) ≡ Some y
first_here f v xs k x y less is so_far some = so_far ∙ first_given_here f v xs k x y less is some

pub none_at_all : {X A B : Type 0} (f : ℕ → A → Option B) (v : X → A) (xs : List X) (k : ℕ) → length xs ≤ k → NoneBefore f v xs k → first_given f 0 (map v xs) ≡ None
none_at_all f v xs k past so_far = so_far ∙ ap (λ ys. first_given f k (map v ys)) (drop_all k xs past)

pub some_if : (b : Bool) (p : Place) → b ≡ true → (if b then Some p else None) ≡ Some p
some_if b p h = rw h refl

pub none_if : (b : Bool) (p : Place) → b ≡ false → (if b then Some p else None) ≡ None
none_if b p h = rw h refl

abbrev pub twice_test : Declarations → ℕ → Declaration → Option Place
twice_test ds = λ c d. if is_predefined d.name || list_any (λ e. bytes_eq d.name e.name) (take c ds) then Some d.at else None

-- the name is one of those that every tree's classes have
pub twice_predefined : (ds : Declarations) (k : ℕ) (d : Declaration) → is_predefined d.name ≡ true → twice_test ds k d ≡ Some d.at
twice_predefined ds k d h = rw h refl

-- or an earlier class has it
pub twice_there : (ds : Declarations) (k : ℕ) (d : Declaration) → list_any (λ e. bytes_eq d.name e.name) (take k ds) ≡ true → twice_test ds k d ≡ Some d.at
twice_there ds k d h = by (is_predefined d.name) where
  by : (b : Bool) → (if b || list_any (λ e. bytes_eq d.name e.name) (take k ds) then Some d.at else None) ≡ Some d.at
  by true = refl
  by false = rw h refl

pub twice_nowhere : (ds : Declarations) (k : ℕ) (d : Declaration) → is_predefined d.name ≡ false → list_any (λ e. bytes_eq d.name e.name) (take k ds) ≡ false → twice_test ds k d ≡ None
twice_nowhere ds k d g h = rw (g, h) refl

pub list_any-map : {A B : Type 0} (p : B → Bool) (f : A → B) (xs : List A) → list_any p (map f xs) ≡ list_any (λ x. p (f x)) xs
list_any-map p f [] = refl
list_any-map p f (x ∷ xs) = ap (λ b. p (f x) || b) (list_any-map p f xs)

pub names_before : {Z : Type 0} (keys : List (String Z)) (xs : List ClassDecl) (k : ℕ) (v : List ℕ) → map string_bytes keys ≡ map (λ d. string_bytes d.name) (take k xs)
    → list_any (λ n. bytes_eq v (string_bytes n)) keys ≡ list_any (λ e. bytes_eq v e.name) (take k (declarations_view xs))
names_before keys xs k v same =
    sym (list_any-map (bytes_eq v) string_bytes keys)
    ∙ ap (list_any (bytes_eq v)) same
    ∙ list_any-map (bytes_eq v) (λ (d : ClassDecl). string_bytes d.name) (take k xs)
    ∙ sym (list_any-map (λ e. bytes_eq v e.name) declaration_view (take k xs))
    ∙ ap (list_any (λ e. bytes_eq v e.name)) (sym (take-map declaration_view k xs))

-- the names so far, with one that is there or isn't
pub names_same : {Z : Type 0} (keys : List (String Z)) (xs : List ClassDecl) (k : ℕ) (name : String Z) (v : List ℕ) (is_new : Bool) → map string_bytes keys ≡ map (λ d. string_bytes d.name) (take k xs)
    → string_bytes name ≡ v → is_new ≡ not (list_any (string_eq name) keys) → list_any (λ e. bytes_eq v e.name) (take k (declarations_view xs)) ≡ not is_new
names_same keys xs k name v is_new same is new =
    sym (names_before keys xs k v same) ∙ rw (← is) (sym (not_not (list_any (string_eq name) keys))) ∙ ap not (sym new)
  where
    not_not : (b : Bool) → not (not b) ≡ b
    not_not true = refl
    not_not false = refl

-- a new name goes last
pub names_more : {Z : Type 0} (keys new : List (String Z)) (xs : List ClassDecl) (k : ℕ) (d : ClassDecl) (name : String Z) → k < length xs → d ≡ get_or xs k d
    → string_bytes name ≡ string_bytes d.name → true ≡ not (list_any (string_eq name) keys) → new ≡ insert_key string_eq keys name
    → map string_bytes keys ≡ map (λ d. string_bytes d.name) (take k xs) → map string_bytes new ≡ map (λ d. string_bytes d.name) (take (k + 1) xs)
names_more keys new xs k d name less is text absent e same =
    let f : ClassDecl → List ℕ = λ d. string_bytes d.name in
    let none : list_any (string_eq name) keys ≡ false = sym (not_not (list_any (string_eq name) keys)) ∙ ap not (sym absent) in
    ap (map string_bytes) (e ∙ rw none refl) ∙ map-append string_bytes keys (name ∷ []) ∙ rw (same, text) (sym (map_more f xs k d less ∙ rw (← is) refl))
  where
    not_not : (b : Bool) → not (not b) ≡ b
    not_not true = refl
    not_not false = refl

pub list_all-map : {A B : Type 0} (p : B → Bool) (f : A → B) (xs : List A) → list_all p (map f xs) ≡ list_all (λ x. p (f x)) xs
list_all-map p f [] = refl
list_all-map p f (x ∷ xs) = ap (λ b. p (f x) && b) (list_all-map p f xs)

-- one more of which it holds
pub all_more : {X A : Type 0} (P : A → Type 0) (v : X → A) (xs : List X) (k : ℕ) (x : X) → k < length xs → x ≡ get_or xs k x → All P (map v (take k xs)) → P (v x) → All P (map v (take (k + 1) xs))
all_more P v xs k x less is so_far here =
    subst (All P) (sym (map_more v xs k x less ∙ ap (λ y. map v (take k xs) ++ v y ∷ []) (sym is))) (All-push P (map v (take k xs)) (v x) so_far here)

-- one of which it doesn't hold
pub all_fails : {X A : Type 0} (P : A → Type 0) (v : X → A) (xs : List X) (k : ℕ) (x : X) → k < length xs → x ≡ get_or xs k x → (P (v x) → ⊥) → All P (map v xs) → ⊥
all_fails P v xs k x less is other all =
    other (subst P (get_or-map v xs k x (v x) less ∙ ap v (sym is)) (all k (v x) (omega (arith, length-map xs v))))
