-- What a dispatch table says is what climbing finds.
use Rattle.std.proofs.Common.{◌≡◌, ℕ, ◌+◌, ◌<◌, List, [], ◌∷◌, ◌++◌, length, refl, ap, sym, ◌∙◌, subst, arith, Option, Some, None, suc, zero}
use Rattle.std.specs.Prelude.{Bool, true, false, ◌&&◌, cond, nat_eq, map, option_map, option_and_then, find, slice_get, Vec}
use Rattle.std.specs.List.{position_from}
use Rattle.std.specs.Map.{lookup, keys_of}
use Rattle.std.specs.Option.{option_or}
use Rattle.std.proofs.lemmas.List.{length_push}
use Rattle.std.proofs.lemmas.Option.{none-some}
use Rattle.at_model.specs.Classes.{Classes, chain, chain_within, parent_of}
use Rattle.at_model.specs.Bodies.{Expr}
use Rattle.at_model.specs.Rules.{Rules, OwnEquation, first_answer, own_in, own_equation}
use Rattle.at_model.specs.WellFormed.{IsHierarchy}
use Rattle.at_class.proofs.Chains.{chain_within-none}
use Rattle.at_model.proofs.LedUp.{led}
use Rattle.at_class.proofs.Named.{position-map}
use Rattle.at_model.proofs.of_machines.WellAsked.{element_at}
use Rattle.at_rules.specs.declared.dispatch.Cell.{Cell}
use Rattle.at_rules.specs.declared.dispatch.Precedence.{Precedence}
use Rattle.at_rules.specs.declared.dispatch.Precedence.TheVariants.{Nearest, Earliest}
use Rattle.at_rules.specs.Dispatch.{key_at, chosen, found_on, found_up, cell_view, cell_at, above_in, IsRight, AreRight, body_at}
use Rattle.std.proofs.lemmas.Iterator.Adapters.{position_from-zero}
use Rattle.at_rules.specs.Bodies.{body_view}
use Rattle.at_rules.specs.RulesView.{own_view}
use Rattle.at_rules.specs.declared.body.Body.{Body}
use Rattle.at_rules.specs.Upward.{earlier, declares, declared_in}
use Rattle.at_rules.proofs.UpwardLemmas.{nowhere}
use Rattle.at_rules.proofs.Lookups.{own_found}
use Rattle.at_rules.proofs.Earlier.{either}

some_same : {A : Type 0} (x y : A) → Some x ≡ Some y → x ≡ y
some_same x y is = ap (λ o. elim o [ None ↦ x | Some z ↦ z ]) is

-- what is found on a chain is found at its class or above it
pub found_at : (p : Precedence) (ks : List (ℕ × ℕ)) (classes : Classes) → IsHierarchy classes → 0 < length classes → (c k : ℕ)
    → found_up p ks classes c k ≡ chosen p (key_at ks k c) (found_on p (key_at ks k) (chain_within (length classes) classes (parent_of classes c)))
unfolding chain
found_at p ks classes h some c k = ap (found_on p (key_at ks k)) (led classes h some c)

-- the cell of the superclass holds what is found above
above_right : {Z : Type 0} (p : Precedence) (ks : List (ℕ × ℕ)) (classes : Classes) (rows : List (Vec Cell Z)) → AreRight (found_up p ks classes) rows → (o : Option ℕ) (k : ℕ) (cell : Cell)
    → elim o [ None ↦ Some (record { 0 = 0 }) | Some b ↦ cell_at rows b k ] ≡ Some cell
    → cell_view cell ≡ found_on p (key_at ks k) (chain_within (length classes) classes o)
unfolding chain
above_right p ks classes rows right None k cell is = ap cell_view (sym (some_same _ cell is)) ∙ sym (ap (found_on p (key_at ks k)) (chain_within-none classes (length classes)))
above_right p ks classes rows right (Some b) k cell is = right b k cell is

pub next_right : {Z : Type 0} (p : Precedence) (ks : List (ℕ × ℕ)) (classes : Classes) (rows : List (Vec Cell Z)) → IsHierarchy classes → 0 < length classes → AreRight (found_up p ks classes) rows → (c k : ℕ) (cell : Cell)
    → above_in rows classes c k ≡ Some cell → chosen p (key_at ks k c) (cell_view cell) ≡ found_up p ks classes c k
next_right p ks classes rows h some right c k cell is =
    ap (chosen p (key_at ks k c)) (above_right p ks classes rows right (parent_of classes c) k cell is) ∙ sym (found_at p ks classes h some c k)

-- what the nearest class has is the first answer
pub found_first : (has : ℕ → Option ℕ) (cs : List ℕ) → found_on Nearest has cs ≡ first_answer has cs
found_first has [] = refl
found_first has (c ∷ cs) = ap (option_or (has c)) (found_first has cs)

-- the least position of all is the first that one of the classes declares
pub found_earliest : (ks : List (ℕ × ℕ)) (k : ℕ) (cs : List ℕ) → found_on Earliest (key_at ks k) cs ≡ declared_in ks k cs
found_earliest ks k [] = sym (nowhere (declares k []) (λ key. refl) ks)
found_earliest ks k (c ∷ cs) = ap (earlier (key_at ks k c)) (found_earliest ks k cs) ∙ either (λ key. nat_eq c key.0 && nat_eq k key.1) (declares k cs) ks

-- one cell more
push_right : (answer : ℕ → Option ℕ) (row : List Cell) (cell : Cell) → IsRight answer row → cell_view cell ≡ answer (length row) → IsRight answer (row ++ cell ∷ [])
push_right answer [] cell right is zero x at = ap cell_view (sym (some_same cell x at)) ∙ is
push_right answer [] cell right is (suc k) x at = absurd (none-some x at)
push_right answer (y ∷ ys) cell right is zero x at = right 0 x at
push_right answer (y ∷ ys) cell right is (suc k) x at = push_right (λ i. answer (suc i)) ys cell (λ i. right (suc i)) is k x at

pub pushed : (answer : ℕ → Option ℕ) (row new : List Cell) (n : ℕ) (cell : Cell) → length row ≡ n → IsRight answer row → cell_view cell ≡ answer n → new ≡ row ++ cell ∷ [] → (length new ≡ n + 1) × IsRight answer new
pushed answer row new n cell count right is same =
    let e : n ≡ length row = sym count in
    (ap length same ∙ length_push row cell ∙ ap (λ i. i + 1) count, subst (IsRight answer) (sym same) (push_right answer row cell right (is ∙ ap answer e)))

-- what stands at the position of a key is what is looked up by the key -----------------------------------------------------

one_later : {A : Type 0} (p : A → Bool) (i : ℕ) (xs : List A) → position_from p (i + 1) xs ≡ option_map suc (position_from p i xs)
one_later p i [] = refl
one_later p i (x ∷ xs) = by (p x) (one_later p (i + 1) xs)
  where
    next : suc i ≡ i + 1
    next = omega arith

    by : (b : Bool) → position_from p (i + 1 + 1) xs ≡ option_map suc (position_from p (i + 1) xs) → cond b (Some (i + 1)) (position_from p (i + 1 + 1) xs) ≡ option_map suc (cond b (Some i) (position_from p (i + 1) xs))
    by true rest = ap Some (sym next)
    by false rest = rest

-- what is seen of the value at a position
abbrev pub value_at : {A B : Type 0} → (A → B) → List ((ℕ × ℕ) × A) → ℕ → Option B
value_at view es p = option_map (λ e. view e.1) (slice_get es p)

pub found_from : {A B : Type 0} (view : A → B) (test : ℕ × ℕ → Bool) (es : List ((ℕ × ℕ) × A)) → option_map view (lookup test es) ≡ option_and_then (value_at view es) (position_from test 0 (keys_of es))
found_from view test [] = refl
found_from view test (e ∷ es) = by (test e.0) (found_from view test es)
  where
    shifted : (o : Option ℕ) → option_and_then (value_at view es) o ≡ option_and_then (value_at view (e ∷ es)) (option_map suc o)
    shifted None = refl
    shifted (Some p) = refl

    by : (b : Bool) → option_map view (lookup test es) ≡ option_and_then (value_at view es) (position_from test 0 (keys_of es))
        → option_map view (cond b (Some e.1) (lookup test es)) ≡ option_and_then (value_at view (e ∷ es)) (cond b (Some 0) (position_from test (0 + 1) (keys_of es)))
    by true rest = refl
    by false rest = rest ∙ shifted (position_from test 0 (keys_of es)) ∙ ap (option_and_then (value_at view (e ∷ es))) (sym (one_later test 0 (keys_of es)))

found_by_key : (es : List ((ℕ × ℕ) × Body)) (rules : Rules) → map own_view es ≡ rules.own → (a c : ℕ) → own_in rules a c ≡ option_and_then (body_at es) (key_at (keys_of es) a c)
found_by_key es rules same a c =
    ap (λ equations. option_map (λ (e : OwnEquation). e.body) (find (λ e. nat_eq e.class c && nat_eq e.attribute a) equations)) (sym same)
    ∙ sym (own_found c a es)
    ∙ found_from body_view (λ key. nat_eq c key.0 && nat_eq a key.1) es
    ∙ ap (option_and_then (body_at es)) (sym (position_from-zero (λ key. nat_eq c key.0 && nat_eq a key.1) (keys_of es)))

has_body : (es : List ((ℕ × ℕ) × Body)) (a c p : ℕ) → key_at (keys_of es) a c ≡ Some p → (b : Expr) × (body_at es p ≡ Some b)
has_body es a c p is =
    let e = element_at (λ e. nat_eq c e.0.0 && nat_eq a e.0.1) es p (sym (position-map (λ key. nat_eq c key.0 && nat_eq a key.1) (λ e. e.0) es) ∙ is) in
    (body_view e.0.1, ap (option_map (λ e. body_view e.1)) e.1)

-- the first answer stands at the first position
answer_at : {B : Type 0} (f : ℕ → Option B) (g : ℕ → Option ℕ) (h : ℕ → Option B) → ((c : ℕ) → f c ≡ option_and_then h (g c)) → ((c p : ℕ) → g c ≡ Some p → (b : B) × (h p ≡ Some b)) → (cs : List ℕ)
    → first_answer f cs ≡ option_and_then h (first_answer g cs)
answer_at f g h same some [] = refl
answer_at f g h same some (c ∷ cs) = ap (λ o. option_or o (first_answer f cs)) (same c) ∙ by (g c) refl (answer_at f g h same some cs)
  where
    by : (o : Option ℕ) → g c ≡ o → first_answer f cs ≡ option_and_then h (first_answer g cs) → option_or (option_and_then h o) (first_answer f cs) ≡ option_and_then h (option_or o (first_answer g cs))
    by None is rest = rest
    by (Some p) is rest = let b = some c p is in ap (λ o. option_or o (first_answer f cs)) b.1 ∙ sym b.1

pub own_right : {Z : Type 0} (es : List ((ℕ × ℕ) × Body)) (rules : Rules) → map own_view es ≡ rules.own → (rows : List (Vec Cell Z)) → AreRight (found_up Nearest (keys_of es) rules.classes) rows
    → (c a : ℕ) (cell : Cell) → cell_at rows c a ≡ Some cell → option_and_then (body_at es) (cell_view cell) ≡ own_equation rules c a
own_right es rules same rows right c a cell is =
    ap (option_and_then (body_at es)) (right c a cell is ∙ found_first (key_at (keys_of es) a) (chain rules.classes c))
    ∙ sym (answer_at (own_in rules a) (key_at (keys_of es) a) (body_at es) (found_by_key es rules same a) (has_body es a) (chain rules.classes c))
