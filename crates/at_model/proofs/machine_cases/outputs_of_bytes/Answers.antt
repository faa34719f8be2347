-- `version` is a line; no line and no session begins with a letter.
use Rattle.std.proofs.Common.{◌≡◌, ℕ, ◌^◌, ◌<◌, Bool, true, false, List, [], ◌∷◌, ◌++◌, length, Some, None, refl, sym, ap, ◌∙◌, subst, arith}
use Rattle.std.specs.Fmt.{decimal, digits}
use Rattle.std.specs.Char.{digit_value}
use Rattle.std.specs.Str.Parse.{AllDigits}
use Rattle.std.proofs.lemmas.Fmt.{decimal_is_IsNumeral}
use lib.Chars.{codes}
use Rattle.at_model.specs.Lines.{Spells, Version, lines}
use Rattle.at_model.specs.Replies.{Reply, Done, Refused, Memory, reply_text}
use Rattle.at_model.specs.Replies as code
use Rattle.at_model.specs.Samples.{calc}
use Rattle.at_model.specs.Machine.{obeys, refuses, Serves, handles, runs_out, Runs, end, next, spent, none_open}
use Rattle.at_model.specs.Playing.{Writes}
use Rattle.at_model.proofs.of_machines.Runs.{append_nil}
use Rattle.at_model.specs.SampleLines.{opened, says}
use Rattle.at_model.proofs.of_texts.OneLine.{line_flat}
use Rattle.at_model.proofs.machine_cases.outputs_of_bytes.Goals as goal

first_digit : (n : ℕ) (r : List ℕ) (b : ℕ) (x : List ℕ) → n < 2 ^ 64 → b ∷ x ≡ decimal n ++ r → digit_value b < 10
first_digit n r b x h e = at_text (decimal n) refl
  where
    at_text : (ds : List ℕ) → decimal n ≡ ds → digit_value b < 10
    at_text [] is = let f : 0 < length (decimal n) = (decimal_is_IsNumeral n h).0.0 in let g : length (decimal n) ≡ 0 = ap length is in absurd (omega arith)
    at_text (d ∷ ds) is =
        let f : b ∷ x ≡ d ∷ (ds ++ r) = e ∙ ap (λ y. y ++ r) is in let same : b ≡ d = cc in
        subst (λ (y : ℕ). digit_value y < 10) (sym same) (subst (AllDigits 10) is (decimal_is_IsNumeral n h).0.1).0

-- no decimal begins with an x
no_letter : (n : ℕ) (r x : List ℕ) → n < 1000 → 120 ∷ x ≡ decimal n ++ r → ⊥
no_letter n r x h e = let f : 33 < 10 = first_digit n r 120 x (omega arith) e in omega arith

version_spelled : Spells (codes "0 version") (says Version)
unfolding digits
version_spelled = record { is_line = record { session = omega arith; expected = tt; command = tt }; text = refl; short = omega arith }

-- one line from the sample, after which none is open
one_line : (bytes line : List ℕ) (said : Bool × Reply) → lines bytes ≡ line ∷ [] → Serves calc opened line opened said → Writes calc 1 opened bytes (said.0 ∷ []) (reply_text said.1) opened
one_line bytes line said is serves = record {
  told = said ∷ [];
  outputs = record {
    mid = opened;
    front = said ∷ [];
    runs = subst (λ ls. Runs calc 1 opened ls (said ∷ []) opened) (sym is) (next serves (none_open 1 opened refl) (end opened));
    turns = 0;
    back = [];
    drained = spent opened;
    none_open = refl;
    whole = refl;
  };
  names = refl;
  text_is = append_nil (reply_text said.1);
}

pub returns-clause-version : goal.returns-clause-version
unfolding digits
returns-clause-version c = one_line _ (codes "0 version")
    (false, record { session = Some 0; done = None; form = Done 0 }) refl
    (handles (obeys (says Version) version_spelled (record { session = refl; done = refl; state = refl; says = refl })))

pub returns-clause-refused : goal.returns-clause-refused
unfolding digits
returns-clause-refused c = one_line _ (codes "x version") (
  false,
  record {
    session = None;
    done = None;
    form = Refused code.Syntax;
  },
) refl (handles (refuses (λ l s. no_letter l.session _ _ s.is_line.session
    (s.text ∙ line_flat l.session l.expected l.command)) (λ n h. no_letter n h.rest _ h.exists h.front)))

pub returns-clause-memory : goal.returns-clause-memory
unfolding digits
returns-clause-memory c = one_line _ (codes "7 version") (true, record { session = Some 7; done = None; form = Memory })
    refl (runs_out (record { exists = omega arith; rest = codes " version"; front = refl; behind = refl }))
