-- Forms one behind the other, as a loop reads them.
use Rattle.std.proofs.Common.{◌≡◌, ◌-◌, ◌<◌, arith, ℕ, zero, suc, List, [], ◌∷◌, ◌++◌, false, refl, sym, ap, ◌∙◌, append_assoc, append-nil}
use lib.Chars.{codes}
use Rattle.at_text.specs.Rows.{Row, sign, is_sign, next_is}
use Rattle.at_text.specs.declared.place.Place.{Place}
use Rattle.at_text.specs.declared.fault.Failure.{Failure}
use Rattle.at_java.specs.declared.reader.Breach.{Breach}
use Rattle.at_java.specs.declared.JavaCode.TheVariants.{Limit}
use Rattle.at_java.specs.Read.{Read, got, fails, here, then_read, Fails}
use Rattle.at_java.specs.Items.{Closed, in_front, items_until}
use Rattle.at_java.proofs.Then.{then_fails, fails_as}
use Rattle.at_java.proofs.Nexts.{sign_next, sign_not}

-- what is read behind these
abbrev pub behind : {A : Type 0} → List A → Read (Closed A) → Read (Closed A)
behind xs read = then_read read (λ c rest. got (record { items = xs ++ c.items; end = c.end }) rest)

pub behind_none : {A : Type 0} (read : Read (Closed A)) → read ≡ behind [] read
behind_none (got c rest) = refl
behind_none (fails f) = refl

behind_one : {A : Type 0} (xs : List A) (a : A) (read : Read (Closed A))
    → behind xs (then_read read (λ c left. got (in_front a c) left)) ≡ behind (xs ++ a ∷ []) read
behind_one xs a (got c rest) = ap (λ ys. got (record { items = ys; end = c.end }) rest) (sym (append_assoc xs (a ∷ []) c.items))
behind_one xs a (fails f) = refl

-- with no brace next, one more is read
one_more : {A : Type 0} (one : Row → Read A) (n : ℕ) (row : Row) → next_is (is_sign (codes "}")) row ≡ false
    → items_until one (suc n) row ≡ then_read (one row) (λ a rest. then_read (items_until one n rest) (λ c left. got (in_front a c) left))
unfolding items_until
one_more one n row h = sign_not (codes "}") row _ _ h

-- one more, where there is room for it
with_room : {A : Type 0} (one : Row → Read A) (n : ℕ) (row : Row) → 0 < n → next_is (is_sign (codes "}")) row ≡ false
    → items_until one n row ≡ then_read (one row) (λ a rest. then_read (items_until one (n - 1) rest) (λ c left. got (in_front a c) left))
with_room one n row z h = let e : n ≡ suc (n - 1) = omega (arith, z) in ap (λ k. items_until one k row) e ∙ one_more one (n - 1) row h

pub item_read : {A : Type 0} (one : Row → Read A) (n : ℕ) (whole : Read (Closed A)) (xs : List A) (a : A) (ys : List A) (row there mid : Row)
    → 0 < n → whole ≡ behind xs (items_until one n row) → next_is (is_sign (codes "}")) row ≡ false → there ≡ row → one there ≡ got a mid
    → ys ≡ xs ++ a ∷ [] → whole ≡ behind ys (items_until one (n - 1) mid)
item_read one n whole xs a ys row there mid z w h same r q =
    w ∙ ap (behind xs) (with_room one n row z h
    ∙ ap (λ x. then_read x (λ b rest. then_read (items_until one (n - 1) rest) (λ c left. got (in_front b c) left))) (ap one (sym same) ∙ r))
    ∙ behind_one xs a (items_until one (n - 1) mid) ∙ ap (λ zs. behind zs (items_until one (n - 1) mid)) (sym q)

pub item_fails : {A : Type 0} (one : Row → Read A) (n : ℕ) (whole : Read (Closed A)) (xs : List A) (e : Failure Breach) (row there rest : Row)
    → 0 < n → whole ≡ behind xs (items_until one n row) → next_is (is_sign (codes "}")) row ≡ false → there ≡ row → Fails e rest (one there)
    → Fails e rest whole
item_fails one n whole xs e row there rest z w h same f =
    fails_as e rest whole (behind xs (items_until one n row)) w
    (then_fails e rest (items_until one n row) (λ c left. got (record { items = xs ++ c.items; end = c.end }) left)
    (fails_as e rest (items_until one n row) _ (with_room one n row z h)
    (then_fails e rest (one row) (λ a mid. then_read (items_until one (n - 1) mid) (λ c left. got (in_front a c) left))
    (fails_as e rest (one row) (one there) (ap one (sym same)) f))))

none_left : {A : Type 0} (one : Row → Read A) (row : Row) → next_is (is_sign (codes "}")) row ≡ false → items_until one zero row ≡ fails (here Limit row)
unfolding items_until
none_left one row h = sign_not (codes "}") row _ _ h

pub items_too_many : {A : Type 0} (one : Row → Read A) (n : ℕ) (whole : Read (Closed A)) (xs : List A) (row there : Row)
    → n ≡ 0 → whole ≡ behind xs (items_until one n row) → next_is (is_sign (codes "}")) row ≡ false → there ≡ row → whole ≡ fails (here Limit there)
items_too_many one n whole xs row there z w h same =
    w ∙ ap (behind xs) (ap (λ k. items_until one k row) z ∙ none_left one row h) ∙ ap (λ x. fails (here Limit x)) (sym same)

closes : {A : Type 0} (one : Row → Read A) (n : ℕ) (row : Row) (at : Place) (rest : Row) → row ≡ sign (codes "}") at ∷ rest
    → items_until one n row ≡ got (record { items = []; end = at }) rest
unfolding items_until
closes one zero row at rest r = sign_next (codes "}") row at rest _ _ r
closes one (suc n) row at rest r = sign_next (codes "}") row at rest _ _ r

pub items_end : {A : Type 0} (one : Row → Read A) (n : ℕ) (whole : Read (Closed A)) (xs : List A) (row : Row) (at : Place) (rest : Row)
    → whole ≡ behind xs (items_until one n row) → row ≡ sign (codes "}") at ∷ rest → whole ≡ got (record { items = xs; end = at }) rest
items_end one n whole xs row at rest w r =
    w ∙ ap (behind xs) (closes one n row at rest r) ∙ ap (λ ys. got (record { items = ys; end = at }) rest) (append-nil xs)
