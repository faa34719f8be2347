use Rattle.std.proofs.Common.{◌≡◌, ℕ, List, [], ◌∷◌, ◌++◌, length, refl, sym, ap, ◌∙◌, append-nil, length-append, arith}
use Rattle.std.specs.Prelude.{Err, string_bytes}
use Rattle.std.proofs.lemmas.Result.{err_from_is_err_and}
use Rattle.at_model.specs.Texts.{quoted}
use Rattle.at_text.specs.declared.quoted.QuoteFault.{QuoteFault}
use Rattle.at_text.specs.declared.quoted.QuoteFault.TheVariants.{Form, Memory}
use Rattle.at_text.specs.Quoted.{Begins, SpellsNone}
use Rattle.at_text.proofs.quoted.read_text.Goals as goal

whole : (text value : List ℕ) → quoted value ≡ text → Begins text value
whole text value is = ([], sym is ∙ sym (append-nil (quoted value)))

all_of : (text value : List ℕ) → Begins text value → length (quoted value) ≡ length text → quoted value ≡ text
all_of text value (rest, e) size = nothing rest e
  where
    nothing : (rest : List ℕ) → text ≡ quoted value ++ rest → quoted value ≡ text
    nothing [] f = sym (f ∙ append-nil (quoted value))
    nothing (b ∷ bs) f = absurd (omega (arith, ap length f, length-append (quoted value) (b ∷ bs), length-append (b ∷ []) bs))

none : (text : List ℕ) (e : QuoteFault) → (e ≡ Form → (value : List ℕ) → ¬ (Begins text value)) → SpellsNone text e
none text Form h = λ value is. h refl value (whole text value is)
none text Memory h = tt

pub returns-in_err-value : goal.returns-in_err-value
returns-in_err-value c =
    let p = err_from_is_err_and c.from_residual.result c.from_residual.ensures.1 in
    rw (p.1, p.2) (none c.args.text.now c.in_err-value.field-0.0 (λ e. c.read_quoted.ensures.form (c.in_err-value.was ∙ ap (λ f. Err f) e)))

pub returns-then-length-text : goal.returns-then-length-text
returns-then-length-text c = all_of c.args.text.now (string_bytes c.in_ok-value.value) c.in_ok-value.ensures.found.0 (sym c.in_ok-value.ensures.found.1 ∙ c.if-length-text.true)

pub returns-else-length-text : goal.returns-else-length-text
returns-else-length-text c = λ value is.
    let read = c.in_ok-value.ensures.only value (whole _ value is) in
    c.if-length-text.false (read.1 ∙ ap length is)
