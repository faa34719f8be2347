-- Where the machine is stuck, is the first fault of the tokens; and whether a form is left out there.
use Rattle.std.proofs.Common.{◌≡◌, ℕ, List, [], ◌∷◌, ◌++◌, Bool, true, false, cond, refl, sym, ◌∙◌}
use Rattle.at_text.specs.Symbols.{PlacedToken}
use Rattle.at_jrag.specs.declared.Forms.{Forms}
use Rattle.at_jrag.specs.FirstFault.{Begins, GoesOn, IsFirstFault}
use Rattle.at_text.specs.Machine.{Reason, Refused, LeftOut, TooDeep, Stuck, Whole, after, may_end, run}
use Rattle.at_jrag.specs.Wants as want
use Rattle.at_jrag.specs.Table.{table}
use Rattle.at_jrag.specs.Forms.{IsFile, IsFileWithin, MeetsLeftOut}
use Rattle.at_text.proofs.MachineLaws.{one_ahead, run-unlimited, none_grows}
use Rattle.at_jrag.proofs.DeclarationRuns.{file_taken}
use Rattle.at_jrag.proofs.Completed.{begins_whole, goes_deeper}
use Rattle.at_jrag.proofs.Sound.{sound}
use Rattle.at_jrag.proofs.Reached.{Reached, stuck_reached}
use Rattle.at_jrag.proofs.LeftForms.{is_left_out}
use Rattle.at_jrag.proofs.KeptForms.{none_left_out}

-- what was taken begins a file within the limit
begins_file : (forms : Forms) (r : Reason) (front rest : List PlacedToken) → run true table (want.File forms ∷ []) 0 (front ++ rest) ≡ Stuck r rest → Begins (IsFileWithin forms) front
begins_file forms r front rest h =
    let b = begins_whole forms r front rest h in
    let s = sound forms true (front ++ b.0) b.1 in
    (b.0, (s.0, s.1, s.2 refl))

-- no file within the limit goes on
none_within : (forms : Forms) (r : Reason) (front rest : List PlacedToken) → run true table (want.File forms ∷ []) 0 (front ++ rest) ≡ Stuck r rest → GoesOn (IsFileWithin forms) front rest → ⊥
none_within forms r front rest h (other, same, (aspects, file, within)) =
    let stuck : run true table (want.File forms ∷ []) 0 (front ++ other) ≡ Stuck r other = one_ahead true table r (want.File forms ∷ []) 0 front rest other same h in
    let whole : run true table (want.File forms ∷ []) 0 (front ++ other) ≡ Whole = file_taken forms true aspects (front ++ other) (λ e. within) file 0 in
    absurd (let q : Stuck r other ≡ Whole = sym stuck ∙ whole in cc)

pub first_fault : (forms : Forms) (r : Reason) (front rest : List PlacedToken) → run true table (want.File forms ∷ []) 0 (front ++ rest) ≡ Stuck r rest → IsFirstFault (IsFileWithin forms) front rest
first_fault forms r front rest h = record { begins = begins_file forms r front rest h; ends = none_within forms r front rest h }

-- where it is refused or left out, no file goes on, however deep its expressions nest
pub none_at_all : (forms : Forms) (r : Reason) (front rest : List PlacedToken)
    → ((left : List PlacedToken) → Stuck r rest ≡ Stuck TooDeep left → ⊥)
    → run true table (want.File forms ∷ []) 0 (front ++ rest) ≡ Stuck r rest → GoesOn (IsFile forms) front rest → ⊥
none_at_all forms r front rest no_limit h (other, same, (aspects, file)) =
    let free : run false table (want.File forms ∷ []) 0 (front ++ rest) ≡ Stuck r rest = run-unlimited table (want.File forms ∷ []) 0 (front ++ rest) (Stuck r rest) no_limit h in
    let stuck : run false table (want.File forms ∷ []) 0 (front ++ other) ≡ Stuck r other = one_ahead false table r (want.File forms ∷ []) 0 front rest other same free in
    let whole : run false table (want.File forms ∷ []) 0 (front ++ other) ≡ Whole = file_taken forms false aspects (front ++ other) (λ e. absurd cc) file 0 in
    absurd (let q : Stuck r other ≡ Whole = sym stuck ∙ whole in cc)

-- where it is too deep, a file goes on whose expressions nest deeper
pub one_deeper : (forms : Forms) (front rest : List PlacedToken) → run true table (want.File forms ∷ []) 0 (front ++ rest) ≡ Stuck TooDeep rest → GoesOn (IsFile forms) front rest
one_deeper forms front rest h =
    let d = goes_deeper forms front rest h in
    let s = sound forms false (front ++ d.0) d.2 in
    (d.0, d.1, (s.0, s.1))

-- ---- forms that are left out

never_ended : {S : Type 0} (b : Bool) (rest : List S) → cond b Whole (Stuck Refused []) ≡ Stuck LeftOut rest → ⊥
never_ended true rest h = absurd cc
never_ended false rest h = absurd cc

met_at : {forms : Forms} (front rest : List PlacedToken) (ws : List want.Want) (d : ℕ) → Reached forms front ws d → run true table ws d rest ≡ Stuck LeftOut rest → MeetsLeftOut forms front rest
unfolding run
met_at front [] ws d r h = never_ended (may_end table ws d) [] h
met_at front (t ∷ ts) ws d r h = is_left_out front ws d t r (none_grows true table LeftOut t ts (after true table ws d t) h)

not_met_at : {forms : Forms} (front rest : List PlacedToken) (ws : List want.Want) (d : ℕ) → Reached forms front ws d
    → run true table ws d rest ≡ Stuck Refused rest → MeetsLeftOut forms front rest → ⊥
unfolding run
not_met_at front [] ws d r h m = m
not_met_at front (t ∷ ts) ws d r h m = none_left_out front ws d t r (none_grows true table Refused t ts (after true table ws d t) h) m

-- where the table leaves a form out, one begins that is left out
pub one_left_out : (forms : Forms) (front rest : List PlacedToken) → run true table (want.File forms ∷ []) 0 (front ++ rest) ≡ Stuck LeftOut rest → MeetsLeftOut forms front rest
one_left_out forms front rest h = let r = stuck_reached LeftOut front rest h in met_at front rest r.wants r.register r.reached r.stuck

-- where it refuses the token, none does
pub none_left_out_there : (forms : Forms) (front rest : List PlacedToken) → run true table (want.File forms ∷ []) 0 (front ++ rest) ≡ Stuck Refused rest → MeetsLeftOut forms front rest → ⊥
none_left_out_there forms front rest h = let r = stuck_reached Refused front rest h in not_met_at front rest r.wants r.register r.reached r.stuck
