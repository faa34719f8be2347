-- Aspects one behind the other, as a loop reads them.
use Rattle.std.proofs.Common.{◌≡◌, ◌-◌, ◌<◌, length, arith, ℕ, zero, suc, List, [], ◌∷◌, ◌++◌, refl, sym, ap, ◌∙◌, append_assoc, append-nil}
use Rattle.at_text.specs.Rows.{Row}
use Rattle.at_text.specs.declared.fault.Failure.{Failure}
use Rattle.at_java.specs.declared.reader.Breach.{Breach}
use Rattle.at_java.specs.declared.JavaCode.TheVariants.{Limit}
use Rattle.at_java.specs.Read.{Read, got, fails, here, then_read, Fails}
use Rattle.at_java.specs.Files.{Part, Contents, nothing, in_front, with_part, aspect, aspects}
use Rattle.at_java.proofs.Then.{then_got, then_fails, fails_as}

-- one behind the other
abbrev both : Contents → Contents → Contents
both x y = record { aspects = x.aspects ++ y.aspects; constants = x.constants ++ y.constants }

-- what is read behind these
abbrev pub behind : Contents → Read Contents → Read Contents
behind x read = then_read read (λ more rest. got (both x more) rest)

pub behind_none : (read : Read Contents) → read ≡ behind nothing read
behind_none (got more rest) = refl
behind_none (fails f) = refl

-- what is read behind an aspect
abbrev more : ℕ → Part → Row → Read Contents
more n p rest = then_read (aspects n rest) (λ later left. got (in_front p later) left)

both_with : (x : Contents) (p : Part) (y : Contents) → both x (in_front p y) ≡ both (with_part x p) y
both_with x p y =
    ap (λ a. record { aspects = a; constants = x.constants ++ (p.constants ++ y.constants) }) (sym (append_assoc x.aspects (p.aspect ∷ []) y.aspects))
    ∙ ap (λ c. record { aspects = (x.aspects ++ p.aspect ∷ []) ++ y.aspects; constants = c }) (sym (append_assoc x.constants p.constants y.constants))

both_nothing : (x : Contents) → both x nothing ≡ x
both_nothing x =
    ap (λ a. record { aspects = a; constants = x.constants ++ [] }) (append-nil x.aspects)
    ∙ ap (λ c. record { aspects = x.aspects; constants = c }) (append-nil x.constants)

behind_one : (x : Contents) (p : Part) (read : Read Contents) → behind x (then_read read (λ later left. got (in_front p later) left)) ≡ behind (with_part x p) read
behind_one x p (got later rest) = ap (λ y. got y rest) (both_with x p later)
behind_one x p (fails f) = refl

one_of : (n : ℕ) (row : Row) → 0 < length row → aspects (suc n) row ≡ then_read (aspect row) (more n)
unfolding aspects
one_of n [] h = absurd (omega (arith, h))
one_of n (t ∷ ts) h = refl

one_more : (n : ℕ) (row : Row) → 0 < n → 0 < length row → aspects n row ≡ then_read (aspect row) (more (n - 1))
one_more n row z h = let e : n ≡ suc (n - 1) = omega (arith, z) in ap (λ k. aspects k row) e ∙ one_of (n - 1) row h

pub aspect_read : (n : ℕ) (whole : Read Contents) (xs : Contents) (a : Part) (ys : Contents) (row mid : Row)
    → 0 < n → 0 < length row → whole ≡ behind xs (aspects n row) → aspect row ≡ got a mid → ys ≡ with_part xs a → whole ≡ behind ys (aspects (n - 1) mid)
aspect_read n whole xs a ys row mid z h w r q =
    w ∙ ap (behind xs) (one_more n row z h ∙ then_got (aspect row) a mid (more (n - 1)) _ r refl)
    ∙ behind_one xs a (aspects (n - 1) mid) ∙ ap (λ zs. behind zs (aspects (n - 1) mid)) (sym q)

pub aspect_fails : (n : ℕ) (whole : Read Contents) (xs : Contents) (e : Failure Breach) (row end : Row)
    → 0 < n → 0 < length row → whole ≡ behind xs (aspects n row) → Fails e end (aspect row) → Fails e end whole
aspect_fails n whole xs e row end z h w f =
    fails_as e end whole (behind xs (aspects n row)) w
    (then_fails e end (aspects n row) (λ later rest. got (both xs later) rest)
    (fails_as e end (aspects n row) (then_read (aspect row) (more (n - 1))) (one_more n row z h)
    (then_fails e end (aspect row) (more (n - 1)) f)))

no_more : (row : Row) → 0 < length row → aspects zero row ≡ fails (here Limit row)
unfolding aspects
no_more [] h = absurd (omega (arith, h))
no_more (t ∷ ts) h = refl

pub aspects_too_many : (n : ℕ) (whole : Read Contents) (xs : Contents) (row : Row)
    → n ≡ 0 → 0 < length row → whole ≡ behind xs (aspects n row) → whole ≡ fails (here Limit row)
aspects_too_many n whole xs row z h w = w ∙ ap (behind xs) (ap (λ k. aspects k row) z ∙ no_more row h)

at_end : (n : ℕ) (row : Row) → length row ≡ 0 → aspects n row ≡ got nothing row
unfolding aspects
at_end n [] h = refl
at_end n (t ∷ ts) h = absurd (omega (arith, h))

pub aspects_end : (n : ℕ) (whole : Read Contents) (xs : Contents) (row : Row)
    → length row ≡ 0 → whole ≡ behind xs (aspects n row) → whole ≡ got xs row
aspects_end n whole xs row h w = w ∙ ap (behind xs) (at_end n row h) ∙ ap (λ ys. got ys row) (both_nothing xs)

pub nothing_left : (row : Row) → length row ≡ 0 → row ≡ []
nothing_left [] h = refl
nothing_left (t ∷ ts) h = absurd (omega (arith, h))

-- ---- what goes from one list to another

pub one_moved : {A : Type 0} (xs ys : List A) (a : A) (rest more whole : List A) → more ≡ a ∷ rest → ys ≡ xs ++ a ∷ [] → xs ++ more ≡ whole → ys ++ rest ≡ whole
one_moved xs ys a rest more whole m y w = ap (λ zs. zs ++ rest) y ∙ append_assoc xs (a ∷ []) rest ∙ ap (λ zs. xs ++ zs) (sym m) ∙ w

pub all_moved : {A : Type 0} (xs more whole : List A) → length more ≡ 0 → xs ++ more ≡ whole → xs ≡ whole
all_moved xs [] whole l w = sym (append-nil xs) ∙ w
all_moved xs (a ∷ more) whole l w = absurd (omega (arith, l))
