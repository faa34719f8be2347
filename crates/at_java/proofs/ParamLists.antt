-- Parameters one behind the other, as a loop reads them.
use Rattle.std.proofs.Common.{◌≡◌, ◌-◌, ◌<◌, arith, ℕ, zero, suc, List, [], ◌∷◌, ◌++◌, false, refl, sym, ap, ◌∙◌, append_assoc}
use lib.Chars.{codes}
use Rattle.at_text.specs.Rows.{Row, sign, is_sign, next_is}
use Rattle.at_text.specs.declared.place.Place.{Place}
use Rattle.at_text.specs.declared.fault.Failure.{Failure}
use Rattle.at_jrag.specs.Syntax.{Param, Params}
use Rattle.at_java.specs.declared.reader.Breach.{Breach}
use Rattle.at_java.specs.declared.JavaCode.TheVariants.{Limit}
use Rattle.at_java.specs.Read.{Read, got, fails, here, then_read, Fails}
use Rattle.at_java.specs.Tokens.{sign_here}
use Rattle.at_java.specs.Next.{after_sign}
use Rattle.at_java.specs.Kinds.{variable, some_params, first_param}
use Rattle.at_java.proofs.Then.{then_got, then_fails, fails_as}
use Rattle.at_java.proofs.Nexts.{sign_next, sign_not, then_on}

-- what is read behind these
abbrev pub behind : List Param → Read Params → Read Params
behind xs read = then_read read (λ ps rest. got (record { items = xs ++ ps.items; end = ps.end }) rest)

pub behind_none : (read : Read Params) → read ≡ behind [] read
behind_none (got ps rest) = refl
behind_none (fails f) = refl

behind_one : (xs : List Param) (p : Param) (read : Read Params) → behind xs (then_read read (λ ps left. got (first_param p ps) left)) ≡ behind (xs ++ p ∷ []) read
behind_one xs p (got ps rest) = ap (λ ys. got (record { items = ys; end = ps.end }) rest) (sym (append_assoc xs (p ∷ []) ps.items))
behind_one xs p (fails f) = refl

-- behind a parameter: the end, or one more
more : ℕ → Param → Row → Read Params
more n p rest = after_sign (codes ")") rest (λ end left. got (record { items = p ∷ []; end = end }) left)
    (then_read (sign_here (codes ",") rest) (λ comma next. then_read (some_params n next) (λ ps left. got (first_param p ps) left)))

one_of : (n : ℕ) (row : Row) → some_params (suc n) row ≡ then_read (variable row) (more n)
unfolding some_params more
one_of n row = refl

one_more : (n : ℕ) (row : Row) → 0 < n → some_params n row ≡ then_read (variable row) (more (n - 1))
one_more n row z = let e : n ≡ suc (n - 1) = omega (arith, z) in ap (λ k. some_params k row) e ∙ one_of (n - 1) row

ends : (n : ℕ) (p : Param) (mid : Row) (at : Place) (rest : Row) → mid ≡ sign (codes ")") at ∷ rest → more n p mid ≡ got (record { items = p ∷ []; end = at }) rest
unfolding more
ends n p mid at rest s = sign_next (codes ")") mid at rest (λ end left. got (record { items = p ∷ []; end = end }) left) _ s

pub params_end : (n : ℕ) (whole : Read Params) (xs : List Param) (p : Param) (ys : List Param) (row mid : Row) (at : Place) (rest : Row)
    → 0 < n → whole ≡ behind xs (some_params n row) → variable row ≡ got p mid → mid ≡ sign (codes ")") at ∷ rest
    → ys ≡ xs ++ p ∷ [] → whole ≡ got (record { items = ys; end = at }) rest
params_end n whole xs p ys row mid at rest z w r s q =
    w ∙ ap (behind xs) (one_more n row z ∙ then_got (variable row) p mid (more (n - 1)) (got (record { items = p ∷ []; end = at }) rest) r (ends (n - 1) p mid at rest s))
    ∙ ap (λ zs. got (record { items = zs; end = at }) rest) (sym q)

between : (n : ℕ) (p : Param) (mid : Row) → next_is (is_sign (codes ")")) mid ≡ false
    → more n p mid ≡ then_read (sign_here (codes ",") mid) (λ comma next. then_read (some_params n next) (λ ps left. got (first_param p ps) left))
unfolding more
between n p mid h = sign_not (codes ")") mid (λ end left. got (record { items = p ∷ []; end = end }) left) _ h

pub param_read : (n : ℕ) (whole : Read Params) (xs : List Param) (p : Param) (ys : List Param) (row mid there : Row) (at : Place) (next : Row)
    → 0 < n → whole ≡ behind xs (some_params n row) → variable row ≡ got p mid → next_is (is_sign (codes ")")) mid ≡ false → there ≡ mid
    → sign_here (codes ",") there ≡ got at next → ys ≡ xs ++ p ∷ [] → whole ≡ behind ys (some_params (n - 1) next)
param_read n whole xs p ys row mid there at next z w r h same s q =
    w ∙ ap (behind xs) (one_more n row z ∙ then_got (variable row) p mid (more (n - 1)) _ r (between (n - 1) p mid h
    ∙ then_got (sign_here (codes ",") mid) at next (λ comma rest. then_read (some_params (n - 1) rest) (λ ps left. got (first_param p ps) left)) _
    (ap (sign_here (codes ",")) (sym same) ∙ s) refl))
    ∙ behind_one xs p (some_params (n - 1) next) ∙ ap (λ zs. behind zs (some_params (n - 1) next)) (sym q)

fails_behind : (e : Failure Breach) (end : Row) (whole : Read Params) (xs : List Param) (read : Read Params) → whole ≡ behind xs read → Fails e end read → Fails e end whole
fails_behind e end whole xs read w f =
    fails_as e end whole (behind xs read) w (then_fails e end read (λ ps rest. got (record { items = xs ++ ps.items; end = ps.end }) rest) f)

pub param_fails : (n : ℕ) (whole : Read Params) (xs : List Param) (e : Failure Breach) (row end : Row)
    → 0 < n → whole ≡ behind xs (some_params n row) → Fails e end (variable row) → Fails e end whole
param_fails n whole xs e row end z w f =
    fails_behind e end whole xs (some_params n row) w
    (fails_as e end (some_params n row) (then_read (variable row) (more (n - 1))) (one_more n row z) (then_fails e end (variable row) (more (n - 1)) f))

pub comma_fails : (n : ℕ) (whole : Read Params) (xs : List Param) (p : Param) (e : Failure Breach) (row mid there end : Row)
    → 0 < n → whole ≡ behind xs (some_params n row) → variable row ≡ got p mid → next_is (is_sign (codes ")")) mid ≡ false → there ≡ mid
    → Fails e end (sign_here (codes ",") there) → Fails e end whole
comma_fails n whole xs p e row mid there end z w r h same f =
    fails_behind e end whole xs (some_params n row) w
    (fails_as e end (some_params n row) (then_read (variable row) (more (n - 1))) (one_more n row z)
    (then_on e end (variable row) p mid (more (n - 1)) r
    (fails_as e end (more (n - 1) p mid) _ (between (n - 1) p mid h)
    (then_fails e end (sign_here (codes ",") mid) (λ comma next. then_read (some_params (n - 1) next) (λ ps left. got (first_param p ps) left))
    (fails_as e end (sign_here (codes ",") mid) (sign_here (codes ",") there) (ap (sign_here (codes ",")) (sym same)) f)))))

no_more : (row : Row) → some_params zero row ≡ fails (here Limit row)
unfolding some_params
no_more row = refl

pub params_too_many : (n : ℕ) (whole : Read Params) (xs : List Param) (row : Row) → n ≡ 0 → whole ≡ behind xs (some_params n row) → whole ≡ fails (here Limit row)
params_too_many n whole xs row z w = w ∙ ap (behind xs) (ap (λ k. some_params k row) z ∙ no_more row)
