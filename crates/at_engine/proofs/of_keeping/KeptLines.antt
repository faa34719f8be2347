-- A line is served as what is kept of it is: a line that is too long says no more than its session.
use Rattle.std.proofs.Common.{◌≡◌, ℕ, zero, suc, ◌+◌, ◌-◌, ◌≤◌, ◌<◌, ◌⊎◌, List, [], ◌∷◌, ◌++◌, length, take, drop, sym, ap, ◌∙◌, arith, inl, inr, Bool, false, append_assoc, length-append, subst, Option, Some, None, decimal}
use Rattle.std.proofs.lemmas.List.{take-append-drop}
use Rattle.std.proofs.Math.Seq.{take-append-add}
use Rattle.std.proofs.lemmas.Fmt.{length-decimal-le_succ}
use Rattle.std.proofs.lemmas.Bool.{cases_lt}
use Rattle.at_model.specs.Rules.{Rules}
use Rattle.at_model.specs.Lines.{Line, Spells, BeginsWith, IsSpaceOrEnd, IsSessionOf}
use Rattle.at_model.specs.Replies.{Reply}
use Rattle.at_model.specs.Effects.{is_post}
use Rattle.at_model.specs.Machine.{State, Handles, obeys, waits, refuses, Serves, handles, runs_out}
use Rattle.at_engine.specs.Loop.{kept}
use Rattle.at_engine.proofs.of_keeping.Kept.{kept-short, length-kept}

goes_on : (rest more : List ℕ) → 0 < length rest → IsSpaceOrEnd rest → IsSpaceOrEnd (rest ++ more)
goes_on [] more some h = absurd (omega arith)
goes_on (b ∷ bs) more some h = h

stops_sooner : (k : ℕ) (rest : List ℕ) → IsSpaceOrEnd rest → IsSpaceOrEnd (take k rest)
stops_sooner zero rest h = tt
stops_sooner (suc k) [] h = tt
stops_sooner (suc k) (b ∷ bs) h = h

-- the session at the front of the first bytes is that at the front of all, where these are enough
long_begins : (n : ℕ) (line : List ℕ) (session : ℕ) → length (decimal session) < length (take n line) → BeginsWith (take n line) session → BeginsWith line session
long_begins n line session h b =
    let some : 0 < length b.rest = omega (arith, h, ap length b.front, length-append (decimal session) b.rest) in
    record {
      exists = b.exists;
      rest = b.rest ++ drop n line;
      front = sym (take-append-drop n line) ∙ ap (λ l. l ++ drop n line) b.front ∙ append_assoc (decimal session) b.rest (drop n line);
      behind = goes_on b.rest (drop n line) some b.behind;
    }

long_begun : (n : ℕ) (line : List ℕ) (session : ℕ) → length (decimal session) < n → BeginsWith line session → BeginsWith (take n line) session
long_begun n line session h b =
    let k = n - length (decimal session) in
    let size : n ≡ length (decimal session) + k = omega arith in
    record {
      exists = b.exists;
      rest = take k b.rest;
      front = ap (take n) b.front ∙ ap (λ m. take m (decimal session ++ b.rest)) size ∙ take-append-add (decimal session) b.rest k;
      behind = stops_sooner k b.rest b.behind;
    }

short_session : (session : ℕ) → session < 1000 → length (decimal session) < 65536
short_session session h = omega (arith, length-decimal-le_succ session (omega arith))

-- the session that can be read from what is kept is that of the line
session_kept : (line : List ℕ) (session : Option ℕ) → 65536 ≤ length line → IsSessionOf (kept line) session → IsSessionOf line session
unfolding kept
session_kept line (Some session) long b = long_begins 65536 line session (subst (λ (n : ℕ). length (decimal session) < n) (sym (length-kept line long)) (short_session session b.exists)) b
session_kept line None long none = λ session b. none session (long_begun 65536 line session (short_session session b.exists) b)

too_long : (line : List ℕ) → 65536 ≤ length line → (l : Line) → Spells line l → ⊥
too_long line long l s = omega (arith, long, s.short)

handles_kept : (rules : Rules) (old new : State) (line : List ℕ) (said : Bool × Reply) → 65536 ≤ length line → Handles rules old (kept line) new said → Handles rules old line new said
handles_kept rules old new line _ long (obeys l s step) = absurd (omega (arith, length-kept line long, s.short))
handles_kept rules old new line said long (waits l number s is answered) = absurd (omega (arith, length-kept line long, s.short))
handles_kept rules old _ line _ long (refuses {session = session} none is) = refuses (too_long line long) (session_kept line session long is)

long_serves : (rules : Rules) (old new : State) (line : List ℕ) (said : Bool × Reply) → 65536 ≤ length line → Serves rules old (kept line) new said → Serves rules old line new said
long_serves rules old new line said long (handles h) = handles (handles_kept rules old new line said long h)
long_serves rules old _ line _ long (runs_out {session = session} is) = runs_out (session_kept line session long is)

pub serves_kept : (rules : Rules) (old new : State) (line : List ℕ) (said : Bool × Reply) → Serves rules old (kept line) new said → Serves rules old line new said
serves_kept rules old new line said s = by (cases_lt (length line) 65536)
  where
    by : (length line < 65536) ⊎ (65536 ≤ length line) → Serves rules old line new said
    by (inl below) = let short : length line ≤ 65536 = omega arith in subst (λ (l : List ℕ). Serves rules old l new said) (kept-short line short) s
    by (inr long) = long_serves rules old new line said long s

-- where a line posts no question, what is kept of it posts none
pub posts_kept : (line : List ℕ) → ((l : Line) → Spells line l → is_post l.command ≡ false) → (l : Line) → Spells (kept line) l → is_post l.command ≡ false
posts_kept line none l s = by (cases_lt (length line) 65536)
  where
    by : (length line < 65536) ⊎ (65536 ≤ length line) → is_post l.command ≡ false
    by (inl below) = let short : length line ≤ 65536 = omega arith in none l (subst (λ (b : List ℕ). Spells b l) (kept-short line short) s)
    by (inr long) = absurd (omega (arith, length-kept line long, s.short))
