-- What is known of calls, over calls one after the other.
use Rattle.std.proofs.Common.{◌≡◌, ℕ, ◌+◌, ◌^◌, ◌<◌, nat_eq, arith, inl, inr, Bool, true, false, ◌||◌, refl, sym, ap, ◌∙◌, subst, Option, Some, None, Result, Ok, Err, OnOk}
use Rattle.std.proofs.lemmas.Bool.Decides.{eqb_tells}
use Rattle.at_engine.specs.Ends.{Counted, Remembers, SendsOn}

or_false : (b : Bool) → b ≡ (b || false)
or_false true = refl
or_false false = refl

-- no call came
pub no_call : (before : Option Bool) → Remembers before before false
no_call None = tt
no_call (Some b) = ap (λ x. Some x) (or_false b)

-- no call failed, and then others came
pub then_calls : (before between after : Option Bool) (fails : Bool) → Remembers before between false → Remembers between after fails → Remembers before after fails
then_calls None between after fails h g = tt
then_calls (Some b) between after fails h g = subst (λ (o : Option Bool). Remembers o after fails) (h ∙ ap (λ x. Some x) (sym (or_false b))) g

pub not_zero : (n : ℕ) → 0 < n → nat_eq n 0 ≡ false
not_zero n some = elim (eqb_tells n 0) [ inl p ↦ absurd (omega (arith, some, p.1)) | inr p ↦ p.0 ]

-- no call is counted
pub none_counted : (before : Option ℕ) → Counted before before 0
none_counted None = tt
none_counted (Some n) = λ few. let same : n ≡ n + 0 = omega arith in ap (λ (k : ℕ). Some k) same

-- calls are counted, and then others
pub counted_on : (before between after : Option ℕ) (m n : ℕ) → Counted before between m → Counted between after n → Counted before after (m + n)
counted_on None between after m n h g = tt
counted_on (Some b) between after m n h g = λ few.
    let first : b + m < 2 ^ 128 = omega (arith, few) in
    let both : (b + m) + n < 2 ^ 128 = omega (arith, few) in
    let same : (b + m) + n ≡ b + (m + n) = omega arith in
    subst (λ (o : Option ℕ). Counted o after n) (h first) g both ∙ ap (λ (k : ℕ). Some k) same

-- all was sent on, and then what was written later
pub sends_later : {T E : Type 0} (result : Result T E) (waited between waits : Bool) → (waited ≡ false → between ≡ false) → SendsOn result between waits → SendsOn result waited waits
sends_later (Ok x) waited between waits f g = λ none. g (f none)
sends_later (Err e) waited between waits f g = tt

-- all is sent on where that holds, and then no more waits
pub sent_where : {T E : Type 0} (When : Type 0) (result : Result T E) (waited waits : Bool) → (When → waited ≡ false)
    → SendsOn result waited waits → OnOk result (When → waits ≡ false)
sent_where When (Ok x) waited waits f g = λ h. g (f h)
sent_where When (Err e) waited waits f g = tt
