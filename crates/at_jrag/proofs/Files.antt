-- A text's tokens, and where reading them stops.
use Rattle.std.proofs.Common.{◌≡◌, ℕ, ◌-◌, ◌≤◌, List, [], ◌∷◌, ◌++◌, true, length, take, drop, refl, sym, ap, subst, subst₂, ◌∙◌, length-append, arith, inr}
use Rattle.std.proofs.lemmas.List.{length-map}
use Rattle.at_text.specs.declared.placed.Placed.{Placed}
use Rattle.at_jrag.specs.declared.Forms.{Forms}
use Rattle.at_jrag.specs.Syntax.{Aspect}
use Rattle.at_jrag.specs.Grammar.{File, IsWithin}
use Rattle.at_text.specs.Symbols.{HasTokens, PlacedToken, placed}
use Rattle.at_text.specs.declared.place.Place.{Place}
use Rattle.at_text.specs.Machine.{Reason, Refused, LeftOut, Stuck, Whole, run}
use Rattle.at_jrag.specs.Wants as want
use Rattle.at_jrag.specs.Table.{table}
use Rattle.at_text.specs.Rows.{left}
use Rattle.at_jrag.specs.Runs.{reason}
use Rattle.at_jrag.specs.Faults.{StopsAt, IsFault, fault_place}
use Rattle.at_text.specs.declared.fault.Fault.TheVariants as fault
use Rattle.at_jrag.specs.declared.JragCode.{JragCode}
use Rattle.at_jrag.specs.declared.JragCode.TheVariants as code
use Rattle.at_text.proofs.MachineLaws.{stuck_behind}
use Rattle.at_text.proofs.TextTokens.{one_row, take_front, drop_front}
use Rattle.at_jrag.proofs.FirstFaults.{first_fault, none_at_all, one_deeper, one_left_out, none_left_out_there}
use Rattle.at_jrag.proofs.DeclarationRuns.{file_taken}
use Rattle.at_jrag.proofs.Unambiguous.{one_file}

-- ---- tokens

-- the tokens of a front of what is left
front_of : (ts : List Placed) (front rest : List PlacedToken) → left ts ≡ front ++ rest → (fs : List Placed) × (rs : List Placed) × (ts ≡ fs ++ rs) × (left fs ≡ front) × (left rs ≡ rest)
front_of ts [] rest e = ([], ts, refl, refl, e)
front_of [] (f ∷ front) rest e = absurd (omega (arith, ap length e))
front_of (t ∷ ts) (f ∷ front) rest e =
    let tail : left ts ≡ front ++ rest = cc in
    let head : placed t ≡ f = cc in
    let more = front_of ts front rest tail in
    (t ∷ more.0, more.1, ap (λ l. t ∷ l) more.2, (λ i. head i ∷ more.3 i), more.4)

-- ---- where reading stops

-- where reading stops, among the tokens
pub record Met (forms : Forms) (text : List ℕ) (r : Reason) (ts rest : List Placed) : Type 0 where
  pub front : List Placed
  pub stops : StopsAt forms text (left front) (left rest)
  pub stuck : run true table (want.File forms ∷ []) 0 (left front ++ left rest) ≡ Stuck r (left rest)
  pub fits : length rest ≤ length ts
  pub front_is : left (take (length ts - length rest) ts) ≡ left front
  pub rest_is : left (drop (length ts - length rest) ts) ≡ left rest

pub met : (forms : Forms) (text : List ℕ) (r : Reason) (ts rest : List Placed) → HasTokens text (left ts)
    → run true table (want.File forms ∷ []) 0 (left ts) ≡ Stuck r (left rest) → Met forms text r ts rest
met forms text r ts rest has h =
    let s = stuck_behind true table r (want.File forms ∷ []) 0 (left ts) (left rest) h in
    let p = front_of ts s.0 (left rest) s.1 in
    let split : left ts ≡ left p.0 ++ left rest = s.1 ∙ ap (λ l. l ++ left rest) (sym p.3) in
    let same : length p.1 ≡ length rest = sym (length-map p.1 placed) ∙ ap length p.4 ∙ length-map rest placed in
    let sum : length ts ≡ length (p.0 ++ p.1) = ap length p.2 in
    let count : length ts - length rest ≡ length p.0 = omega (arith, sum, length-append p.0 p.1, same) in
    let stuck : run true table (want.File forms ∷ []) 0 (left p.0 ++ left rest) ≡ Stuck r (left rest) = sym (ap (run true table (want.File forms ∷ []) 0) split) ∙ h in
    record {
      front = p.0;
      stops = record { tokens = subst (λ (x : List PlacedToken). HasTokens text x) split has; fault = first_fault forms r (left p.0) (left rest) stuck };
      stuck = stuck;
      fits = omega (arith, sum, length-append p.0 p.1, same);
      front_is = ap left (ap (λ k. take k ts) count ∙ ap (take (length p.0)) p.2 ∙ take_front p.0 p.1);
      rest_is = ap left (ap (λ k. drop k ts) count ∙ ap (drop (length p.0)) p.2 ∙ drop_front p.0 p.1) ∙ p.4;
    }

-- ---- what the tokens of a text spell

-- a text that spells a file within the limit doesn't stop
pub file_only : (forms : Forms) (text : List ℕ) (r : Reason) (ts us rest : List PlacedToken) (aspects : List Aspect)
    → HasTokens text ts → HasTokens text us → run true table (want.File forms ∷ []) 0 ts ≡ Stuck r rest
    → File forms aspects us [] → IsWithin aspects → ⊥
file_only forms text r ts us rest aspects h k stuck file within =
    let same = one_row text ts us h k in
    let whole : run true table (want.File forms ∷ []) 0 us ≡ Whole = file_taken forms true aspects us (λ e. within) file 0 in
    absurd (let q : Stuck r rest ≡ Whole = sym stuck ∙ ap (run true table (want.File forms ∷ []) 0) same ∙ whole in cc)

-- what the tokens of a text spell, is what was read
pub file_same : (forms : Forms) (text : List ℕ) (ts us rest : List PlacedToken) (read aspects : List Aspect) → HasTokens
    text ts → HasTokens text us → File forms read ts rest → rest ≡ [] → File forms aspects us [] → read ≡ aspects
file_same forms text ts us rest read aspects h k found end file = one_file forms read aspects us (subst₂ (λ (x y : List PlacedToken). File forms read x y) (one_row text ts us h k) end found) file

-- ---- places

pub place_met : (text : List ℕ) (c : JragCode) (ts vs : List Placed) (n k : ℕ) (front rest : List PlacedToken) (at : Place) → vs ≡ ts → n ≡ k
    → at ≡ fault_place text c (left (take (length vs - n) vs)) (left (drop (length vs - n) vs))
    → left (take (length ts - k) ts) ≡ front → left (drop (length ts - k) ts) ≡ rest → at ≡ fault_place text c front rest
place_met text c ts vs n k front rest at e f p g h =
    p ∙ (λ i. fault_place text c (left (take (length (e i) - f i) (e i))) (left (drop (length (e i) - f i) (e i)))) ∙ (λ i. fault_place text c (g i) (h i))

-- where reading stops for the reason of a code, there is the text's fault of that code
pub is_met : (forms : Forms) (text : List ℕ) (c : JragCode) (ts rest : List Placed) (at : Place) (m : Met forms text
    (reason c) ts rest) → at ≡ fault_place text c (left m.front) (left rest) → IsFault forms text (fault.Refused c at)
is_met forms text code.Syntax ts rest at m p =
    inr (left m.front, left rest, m.stops, none_at_all forms Refused (left m.front) (left rest) (λ other e. absurd cc) m.stuck, none_left_out_there forms (left m.front) (left rest) m.stuck, p)
is_met forms text code.LeftOut ts rest at m p =
    (left m.front, left rest, m.stops, none_at_all forms LeftOut (left m.front) (left rest) (λ other e. absurd cc) m.stuck, one_left_out forms (left m.front) (left rest) m.stuck, p)
is_met forms text code.Nesting ts rest at m p = (left m.front, left rest, m.stops, one_deeper forms (left m.front) (left rest) m.stuck, p)
