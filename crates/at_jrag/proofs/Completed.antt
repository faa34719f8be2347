-- Where the machine is stuck, what it took begins a file; where its limit stops it, a deeper file goes on.
use Rattle.std.proofs.Common.{◌≡◌, ℕ, List, [], ◌∷◌, ◌++◌, Bool, true, false, refl, sym, ap, subst, ◌∙◌, inl, inr}
use Rattle.at_text.specs.Reading.{first}
use Rattle.at_text.specs.Symbols.{PlacedToken}
use Rattle.at_text.specs.Rows.{Row}
use Rattle.at_text.specs.Machine.{Reason, TooDeep, Move, Goes, Halts, after, may_end, Whole, Stuck, run}
use Rattle.at_jrag.specs.declared.Forms.{Forms}
use Rattle.at_jrag.specs.Wants as want
use Rattle.at_jrag.specs.Wants.{Want}
use Rattle.at_jrag.specs.Table.{table}
use Rattle.at_text.proofs.MachineLaws.{goes_on, run-cons, stuck_is, none_longer, none_grows, after_alike, deep_after, never_at_end}
use Rattle.at_jrag.proofs.Completions.{closing, Needs, Open, completed}
use Rattle.at_jrag.proofs.CompletionSteps.{Completes, GoesOpen, symbol_keeps}

-- What was taken leads both machines to what is wanted, which can be completed.
abbrev Leads : List Want → ℕ → Row → Type 0
Leads ws d front = (vs : List Want) × (e : ℕ) × Completes true vs e × ((l : Bool) (more : Row) → run l table ws d (front ++ more) ≡ run l table vs e more)

-- a move within the limit is that of the machine without one
pub move_of_both : (l : Bool) (ws : List Want) (d : ℕ) (t : PlacedToken) (more : List Want) (e : ℕ) → after true table ws d t ≡ Goes more e → after l table ws d t ≡ Goes more e
move_of_both true ws d t more e h = h
move_of_both false ws d t more e h = elim (after_alike table ws d t) [
  | inl deep ↦ absurd (let q : Goes more e ≡ Halts TooDeep = sym h ∙ deep in cc)
  | inr same ↦ same ∙ h
]

leads_on : (r : Reason) (ws : List Want) (d : ℕ) (t : PlacedToken) (front rest : Row) (m : Move Want) → after true table ws d t ≡ m → GoesOpen true m
    → ((vs : List Want) (e : ℕ) → run true table vs e (front ++ rest) ≡ Stuck r rest → Completes true vs e → Leads vs e front)
    → goes_on true table m t (front ++ rest) ≡ Stuck r rest → Leads ws d (t ∷ front)
leads_on r ws d t front rest (Halts q) a c ih h = absurd (none_longer t front rest (stuck_is q r _ _ h))
leads_on r ws d t front rest (Goes more e) a c ih h =
    let x = ih more e h c in
    (x.0, x.1, x.2, λ l tail. run-cons l table ws d t (front ++ tail) ∙ ap (λ m. goes_on l table m t (front ++ tail)) (move_of_both l ws d t more e a) ∙ x.3 l tail)

leads : (r : Reason) (front rest : Row) (ws : List Want) (d : ℕ) → run true table ws d (front ++ rest) ≡ Stuck r rest → Completes true ws d → Leads ws d front
leads r [] rest ws d h c = (ws, d, c, λ l more. refl)
leads r (t ∷ front) rest ws d h c =
    leads_on r ws d t front rest (after true table ws d t) refl (symbol_keeps true ws d t c) (λ vs e i k. leads r front rest vs e i k) (sym (run-cons true table ws d t (front ++ rest)) ∙ h)

-- nothing is read yet of a file
pub file_wanted : (forms : Forms) → Completes true (want.File forms ∷ []) 0
file_wanted forms = (false, (λ h. absurd cc), (tt, refl, tt))

-- What was taken where the machine is stuck, begins what is taken whole.
pub begins_whole : (forms : Forms) (r : Reason) (front rest : Row) → run true table (want.File forms ∷ []) 0
    (front ++ rest) ≡ Stuck r rest → (more : Row) × (run true table (want.File forms ∷ []) 0 (front ++ more) ≡ Whole)
begins_whole forms r front rest h =
    let x = leads r front rest (want.File forms ∷ []) 0 h (file_wanted forms) in
    (closing x.0, x.3 true (closing x.0) ∙ completed true x.2.0 x.0 x.1 x.2.2)

-- ---- where the limit stops it

-- no limit asks for less
needs_less : (p : Bool) (w : Want) → Needs true p w → Needs false p w
needs_less p (want.Expression b) n = λ h. absurd cc
needs_less p (want.Binary rank b) n = λ h. absurd cc
needs_less p (want.Links rank b) n = n
needs_less p (want.Choice b) n = n
needs_less p (want.Otherwise b m) n = λ h. absurd cc
needs_less p (want.Unary b) n = λ h. absurd cc
needs_less p (want.Minus b) n = n
needs_less p (want.Opened b) n = λ h. absurd cc
needs_less p (want.Enclosed g b) n = n
needs_less p (want.Parenthesized b) n = n
needs_less p (want.Calls b) n = n
needs_less p (want.Called b) n = n
needs_less p (want.Arguments g b) n = n
needs_less p (want.FirstArgument g b) n = n
needs_less p (want.MoreArguments b) n = λ h. absurd cc
needs_less p (want.Primary b) n = λ h. absurd cc
needs_less p (want.Named g b) n = n
needs_less p (want.FoldBody b) n = λ h. absurd cc
needs_less p want.Deeper n = n
needs_less p (want.Join m) n = n
needs_less p (want.Deepest m) n = n
needs_less p (want.Counts k) n = n
needs_less p want.Name n = n
needs_less p (want.Mark text) n = n
needs_less p (want.File f) n = n
needs_less p (want.Decls f) n = n
needs_less p want.Lazy n = n
needs_less p want.NotNta n = n
needs_less p (want.Attribute f) n = n
needs_less p want.Kind n = n
needs_less p want.Signed n = n
needs_less p (want.Opening g) n = n
needs_less p (want.Params g) n = n
needs_less p want.OneParam n = n
needs_less p want.MoreParams n = n
needs_less p (want.Circular m) n = n
needs_less p want.Bracket n = n
needs_less p want.Start n = n
needs_less p want.Ending n = n
needs_less p want.Body n = n
needs_less p want.Defined n = n
needs_less p want.Return n = n
needs_less p want.Close n = n

pub open_unlimited : (p : Bool) (ws : List Want) → Open true p ws → Open false p ws
open_unlimited p [] o = tt
open_unlimited p (w ∷ ws) o = (needs_less p w o.0, o.1, open_unlimited _ ws o.2)

-- at the symbol where the limit stops the machine, the one without a limit goes on, and is completed
deeper_from : (vs : List Want) (e : ℕ) (rest : Row) → Completes true vs e → run true table vs e rest ≡ Stuck TooDeep rest
    → (other : Row) × (first other ≡ first rest) × (run false table vs e other ≡ Whole)
unfolding run
deeper_from vs e [] c h = absurd (never_at_end (may_end table vs e) [] h)
deeper_from vs e (t ∷ rest) c h =
    let moves = deep_after table vs e t (none_grows true table TooDeep t rest (after true table vs e t) h) in
    let kept = subst (GoesOpen false) moves.2 (symbol_keeps false vs e t (c.0, c.1, open_unlimited c.0 vs c.2)) in
    (t ∷ closing moves.0, refl, ap (λ m. goes_on false table m t (closing moves.0)) moves.2 ∙ completed false kept.0 moves.0 moves.1 kept.2)

-- Where the limit stops the machine, what was taken and the symbol begin what is taken whole with no limit.
pub goes_deeper : (forms : Forms) (front rest : Row) → run true table (want.File forms ∷ []) 0 (front ++ rest) ≡ Stuck TooDeep rest
    → (other : Row) × (first other ≡ first rest) × (run false table (want.File forms ∷ []) 0 (front ++ other) ≡ Whole)
goes_deeper forms front rest h =
    let x = leads TooDeep front rest (want.File forms ∷ []) 0 h (file_wanted forms) in
    let y = deeper_from x.0 x.1 rest x.2 (sym (x.3 true rest) ∙ h) in
    (y.0, y.1, x.3 false y.0 ∙ y.2)
