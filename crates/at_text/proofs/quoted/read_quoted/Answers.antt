use Rattle.std.proofs.Common.{Some, ◌≡◌, ap, ◌∙◌, List, ℕ, length, string_bytes}
use Rattle.std.specs.Str.Iter.{chars_rest}
use Rattle.at_model.specs.Texts.{quoted}
use Rattle.at_text.specs.Quoted.{Begins}
use Rattle.at_text.proofs.ReadingLemmas.{none_begins, none_ends, ended, taken_len, only_value, less_left}
use Rattle.at_text.proofs.quoted.read_quoted.Goals as goal
use Rattle.at_text.proofs.quoted.read_quoted.Goals.{in_default-via-in-Some+in_default, in_default-via-in_default}

no_quote : (c : goal.In_default) → c.next.result ≡ Some 34 → ⊥
no_quote c e =
    elim c.in_default.branch [
      | in_default-via-in-Some+in_default w ↦ w.in_default.field-0-test.1 (cc)
      | in_default-via-in_default w ↦ absurd (cc)
    ]

none : (c : goal.In_default) (value : List ℕ) → Begins c.args.text.now value → ⊥
none c = none_begins c.args.text.now _ _ _ c.chars-chars.ensures.rest c.next.ensures.steps (no_quote c)

pub returns-in_default-clause-only : goal.returns-in_default-clause-only
returns-in_default-clause-only c = λ value begins. absurd (none c value begins)

pub returns-in_default-clause-form : goal.returns-in_default-clause-form
returns-in_default-clause-form c = λ _. none c

pub returns-in_err-c-clause-only : goal.returns-in_err-c-clause-only
returns-in_err-c-clause-only c = λ value begins. absurd (none_ends c.args.text.now (string_bytes c.loop-value.value) _ c.loop-value.invariant c.in_err-c.ensures.form value begins)

pub returns-in_err-c-clause-form : goal.returns-in_err-c-clause-form
returns-in_err-c-clause-form c = λ _. none_ends c.args.text.now (string_bytes c.loop-value.value) _ c.loop-value.invariant c.in_err-c.ensures.form

pub loop-value-smaller : goal.loop-value-smaller
loop-value-smaller c = less_left c.in-Some.c _ _ (rw c.in-Some.is at c.in_ok-c.ensures.taken)

pub returns-clause-found : goal.returns-clause-found
returns-clause-found c =
    let value = string_bytes c.loop-value.value in
    let is = ended c.args.text.now value _ _ c.loop-value.invariant (rw c.in_default-2.is at c.in_ok-c.ensures.taken) in
    ((chars_rest c.next_quoted.new.chars, is), rw c.as_str.ensures (taken_len _ value _ is))

pub returns-clause-only : goal.returns-clause-only
returns-clause-only c = λ other begins.
    let value = string_bytes c.loop-value.value in
    let is = ended c.args.text.now value _ _ c.loop-value.invariant (rw c.in_default-2.is at c.in_ok-c.ensures.taken) in
    let same = only_value _ value _ other is begins in
    (same, rw c.as_str.ensures (taken_len _ value _ is ∙ ap (λ v. length (quoted v)) same))
