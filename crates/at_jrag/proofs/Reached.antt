-- What is wanted behind a front, and with which tokens a file goes on there.
use Rattle.std.proofs.Common.{◌≡◌, ℕ, List, [], ◌∷◌, ◌++◌, Bool, true, false, Some, refl, sym, ap, subst, ◌∙◌, append_assoc}
use Rattle.at_text.specs.Reading.{first}
use Rattle.at_text.specs.Symbols.{PlacedToken}
use Rattle.at_text.specs.Rows.{Row}
use Rattle.at_text.specs.Machine.{Reason, Move, Goes, Halts, after, Whole, Stuck, run}
use Rattle.at_jrag.specs.declared.Forms.{Forms}
use Rattle.at_jrag.specs.Wants as want
use Rattle.at_jrag.specs.Wants.{Want}
use Rattle.at_jrag.specs.Table.{table}
use Rattle.at_jrag.specs.FirstFault.{GoesOn}
use Rattle.at_jrag.specs.Forms.{IsFile}
use Rattle.at_text.proofs.MachineLaws.{goes_on, run-cons, stuck_is, none_longer}
use Rattle.at_jrag.proofs.Completions.{closing, completed}
use Rattle.at_jrag.proofs.CompletionSteps.{Completes, GoesOpen, symbol_keeps}
use Rattle.at_jrag.proofs.Completed.{move_of_both, file_wanted, open_unlimited}
use Rattle.at_jrag.proofs.DeclarationRuns.{file_taken}
use Rattle.at_jrag.proofs.Sound.{sound}

-- behind the front the machine wants these, with the register
pub data Reached (forms : Forms) : Row → List Want → ℕ → Type 0 where
  start : Reached forms [] (want.File forms ∷ []) 0
  step : (before : Row) (t : PlacedToken) (vs ws : List Want) (x d : ℕ) → Reached forms before vs x → after true table vs x t ≡ Goes ws d → Reached forms (before ++ t ∷ []) ws d

-- ---- where the machine is stuck

-- what the machine wants where it is stuck
pub record IsReached (forms : Forms) (r : Reason) (front rest : Row) : Type 0 where
  pub wants : List Want
  pub register : ℕ
  pub reached : Reached forms front wants register
  pub stuck : run true table wants register rest ≡ Stuck r rest

moved : {forms : Forms} {r : Reason} {front other rest : Row} → front ≡ other → IsReached forms r front rest → IsReached forms r other rest
moved {forms} {r} {front} {other} {rest} e h = subst (λ x. IsReached forms r x rest) e h

reached_on : {forms : Forms} (r : Reason) (done : Row) (t : PlacedToken) (front rest : Row) (vs : List Want) (x : ℕ) (m : Move Want) → Reached forms done vs x → after true table vs x t ≡ m
    → ((before : Row) (ws : List Want) (d : ℕ) → Reached forms before ws d → run true table ws d (front ++ rest) ≡ Stuck r rest → IsReached forms r (before ++ front) rest)
    → goes_on true table m t (front ++ rest) ≡ Stuck r rest → IsReached forms r (done ++ t ∷ front) rest
reached_on r done t front rest vs x (Halts q) h a ih k = absurd (none_longer t front rest (stuck_is q r _ _ k))
reached_on r done t front rest vs x (Goes ws d) h a ih k = moved (append_assoc done (t ∷ []) front) (ih (done ++ t ∷ []) ws d (step done t vs ws x d h a) k)

append_none : (xs : Row) → xs ≡ xs ++ []
append_none [] = refl
append_none (x ∷ xs) = ap (λ l. x ∷ l) (append_none xs)

reached_from : {forms : Forms} (r : Reason) (front rest done : Row) (vs : List Want) (x : ℕ) → Reached forms done vs x
    → run true table vs x (front ++ rest) ≡ Stuck r rest → IsReached forms r (done ++ front) rest
reached_from r [] rest done vs x h k = moved (append_none done) (record { wants = vs; register = x; reached = h; stuck = k })
reached_from r (t ∷ front) rest done vs x h k =
    reached_on r done t front rest vs x (after true table vs x t) h refl (λ before ws d i j. reached_from r front rest before ws d i j) (sym (run-cons true table vs x t (front ++ rest)) ∙ k)

pub stuck_reached : {forms : Forms} (r : Reason) (front rest : Row) → run true table (want.File forms ∷ []) 0 (front ++ rest) ≡ Stuck r rest → IsReached forms r front rest
stuck_reached {forms} r front rest h = reached_from r front rest [] (want.File forms ∷ []) 0 start h

-- ---- what is wanted behind a front

-- it can be completed
pub reached_open : {forms : Forms} (front : Row) (ws : List Want) (d : ℕ) → Reached forms front ws d → Completes true ws d
reached_open {forms} _ _ _ start = file_wanted forms
reached_open _ _ _ (step before t vs ws x d h a) = subst (GoesOpen true) a (symbol_keeps true vs x t (reached_open before vs x h))

-- a run over the front comes to it
pub reached_runs : {forms : Forms} (front : Row) (ws : List Want) (d : ℕ) → Reached forms front ws d
    → (l : Bool) (more : Row) → run l table (want.File forms ∷ []) 0 (front ++ more) ≡ run l table ws d more
reached_runs _ _ _ start l more = refl
reached_runs {forms} _ _ _ (step before t vs ws x d h a) l more =
    ap (run l table (want.File forms ∷ []) 0) (append_assoc before (t ∷ []) more) ∙ reached_runs before vs x h l (t ∷ more)
    ∙ run-cons l table vs x t more ∙ ap (λ m. goes_on l table m t more) (move_of_both l vs x t ws d a)

-- ---- with which token a file goes on

-- with no limit the machine takes the token
abbrev pub TakesIt : List Want → ℕ → PlacedToken → Type 0
TakesIt ws d t = (more : List Want) × (e : ℕ) × (after false table ws d t ≡ Goes more e)

taken_of : (m : Move Want) (t : PlacedToken) (ts : Row) → goes_on false table m t ts ≡ Whole → (more : List Want) × (e : ℕ) × (m ≡ Goes more e)
taken_of (Goes more e) t ts h = (more, e, refl)
taken_of (Halts q) t ts h = absurd cc

taken_at : (ws : List Want) (d : ℕ) (t : PlacedToken) (other : Row) → first other ≡ Some t → run false table ws d other ≡ Whole → TakesIt ws d t
taken_at ws d t [] e h = absurd cc
taken_at ws d t (s ∷ ss) e h =
    let same : s ≡ t = cc in
    subst (TakesIt ws d) same (taken_of (after false table ws d s) s ss (sym (run-cons false table ws d s ss) ∙ h))

-- Where a file goes on with the token, the machine without a limit takes it.
pub goes_taken : {forms : Forms} (front : Row) (ws : List Want) (d : ℕ) (t : PlacedToken) → Reached forms front ws d → GoesOn (IsFile forms) front (t ∷ []) → TakesIt ws d t
goes_taken {forms} front ws d t h (other, same, (aspects, file)) =
    taken_at ws d t other same (sym (reached_runs front ws d h false other) ∙ file_taken forms false aspects (front ++ other) (λ e. absurd cc) file 0)

-- Where it takes the token, a file goes on with it.
pub taken_goes : {forms : Forms} (front : Row) (ws : List Want) (d : ℕ) (t : PlacedToken) → Reached forms front ws d → TakesIt ws d t → GoesOn (IsFile forms) front (t ∷ [])
taken_goes {forms} front ws d t h (more, e, a) =
    let c = reached_open front ws d h in
    let kept = subst (GoesOpen false) a (symbol_keeps false ws d t (c.0, c.1, open_unlimited c.0 ws c.2)) in
    let whole : run false table (want.File forms ∷ []) 0 (front ++ t ∷ closing more) ≡ Whole =
    reached_runs front ws d h false (t ∷ closing more) ∙ run-cons false table ws d t (closing more)
    ∙ ap (λ m. goes_on false table m t (closing more)) a ∙ completed false kept.0 more e kept.2 in
    let s = sound forms false (front ++ t ∷ closing more) whole in
    (t ∷ closing more, refl, (s.0, s.1))
