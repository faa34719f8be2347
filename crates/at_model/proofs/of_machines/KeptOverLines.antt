-- What is kept stays well kept over all lines, and the work of each line is one number.
use Rattle.std.proofs.Common.{◌≡◌, ◌↔◌, ℕ, ◌+◌, min, List, [], ◌∷◌, ◌++◌, length, Option, Some, None, refl, sym, ap, ◌∙◌, arith}
use Rattle.std.specs.Prelude.{sum}
use Rattle.std.proofs.lemmas.List.Sums.{sum_by-append}
use Rattle.at_model.specs.Paths.{Node}
use Rattle.at_model.specs.Run.{Instance}
use Rattle.at_model.specs.Rules.{Rules}
use Rattle.at_model.specs.Meaning.{Among, Distinct}
use Rattle.at_model.specs.Lines.{Line}
use Rattle.at_model.specs.Machine.{State, Verdict, Refuses, Tells, Leaves, Edits, Asks, Posts, Waits, after, IsSound}
use Rattle.at_model.specs.Sparing.{KeptAfter, AreWellKept, IsWork, SpreadsValues}
use Rattle.at_model.specs.Keeping.{AreSpreading, heard, state_after, KeptOver, AreWorks, IsTotalWork, NothingKept, max_work}
use Rattle.at_model.proofs.Members.{no_more}
use Rattle.at_model.proofs.of_machines.Sound.{sound_line}
use Rattle.at_model.proofs.of_machines.WellKept.{kept_well}

pub sound_heard : (rules : Rules) (s : State) (l : Option Line) → IsSound rules.classes s → IsSound rules.classes (after s (heard rules s l))
sound_heard rules s None sound = sound
sound_heard rules s (Some l) sound = sound_line rules s sound l

well_heard : (rules : Rules) (s : State) (l : Option Line) (Kept : Instance Node → Type 0)
    → IsSound rules.classes s → SpreadsValues rules s.tree → AreWellKept rules s.tree Kept
    → AreWellKept rules (after s (heard rules s l)).tree (KeptAfter rules s (heard rules s l) Kept)
well_heard rules s None Kept sound spreads well = well
well_heard rules s (Some l) Kept sound spreads well = kept_well rules s l Kept sound spreads well

pub sound_over : (rules : Rules) (s : State) (ls : List (Option Line)) → IsSound rules.classes s → IsSound rules.classes (state_after rules s ls)
sound_over rules s [] sound = sound
sound_over rules s (l ∷ ls) sound = sound_over rules (after s (heard rules s l)) ls (sound_heard rules s l sound)

well_over : (rules : Rules) (s : State) (ls : List (Option Line)) (Kept : Instance Node → Type 0)
    → IsSound rules.classes s → AreSpreading rules s ls → AreWellKept rules s.tree Kept
    → AreWellKept rules (state_after rules s ls).tree (KeptOver rules s ls Kept)
well_over rules s [] Kept sound spread well = well
well_over rules s (l ∷ ls) Kept sound (spread, more) well = well_over rules (after s (heard rules s l)) ls
    (KeptAfter rules s (heard rules s l) Kept) (sound_heard rules s l sound) more (well_heard rules s l Kept sound spread well)

pub well_from_nothing : (rules : Rules) (s : State) (ls : List (Option Line)) → IsSound rules.classes s → AreSpreading rules s ls
    → AreWellKept rules (state_after rules s ls).tree (KeptOver rules s ls NothingKept)
well_from_nothing rules s ls sound spread = well_over rules s ls NothingKept sound spread (record { lazy = λ i none. absurd none; valued = λ i none. absurd none; deep = λ i j none leads is. none })

as_many : {A : Type 0} (xs ys : List A) → Distinct xs → Distinct ys → ((a : A) → Among a xs → Among a ys) → ((a : A) → Among a ys → Among a xs) → length xs ≡ length ys
as_many xs ys d e f g = let a = no_more xs ys d f in let b = no_more ys xs e g in omega (arith, a, b)

pub one_work : (rules : Rules) (s : State) (v : Verdict) (Kept : Instance Node → Type 0) (w u : ℕ) → IsWork rules s v Kept w → IsWork rules s v Kept u → w ≡ u
one_work rules s (Refuses refusal) Kept w u h k = h ∙ sym k
one_work rules s (Tells shown) Kept w u h k = h ∙ sym k
one_work rules s (Leaves marks) Kept w u h k = h ∙ sym k
one_work rules s (Edits e t) Kept w u h k = h ∙ sym k
one_work rules s (Posts q) Kept w u h k = h ∙ sym k
one_work rules s (Waits number) Kept w u h k = h ∙ sym k
one_work rules s (Asks q) Kept w u (xs, these, e) (ys, those, f) =
    e ∙ as_many xs ys these.distinct those.distinct (λ a m. (those.exactly a).1 ((these.exactly a).0 m)) (λ a m. (these.exactly a).1 ((those.exactly a).0 m)) ∙ sym f

works_once : (rules : Rules) (s : State) (ls : List (Option Line)) (Kept : Instance Node → Type 0) (ws us : List ℕ) → AreWorks rules s ls Kept ws → AreWorks rules s ls Kept us → ws ≡ us
works_once rules s [] Kept [] [] h k = refl
works_once rules s [] Kept [] (u ∷ us) h k = absurd k
works_once rules s [] Kept (w ∷ ws) us h k = absurd h
works_once rules s (l ∷ ls) Kept [] us h k = absurd h
works_once rules s (l ∷ ls) Kept (w ∷ ws) [] h k = absurd k
works_once rules s (l ∷ ls) Kept (w ∷ ws) (u ∷ us) (h, hs) (k, ks) =
    ap (λ x. x ∷ ws) (one_work rules s (heard rules s l) Kept w u h k) ∙ ap (λ xs. u ∷ xs) (works_once rules (after s (heard rules s l)) ls (KeptAfter rules s (heard rules s l) Kept) ws us hs ks)

pub one_total : (rules : Rules) (s : State) (ls : List (Option Line)) (Kept : Instance Node → Type 0) (a b : ℕ) → IsTotalWork rules s ls Kept a → IsTotalWork rules s ls Kept b → a ≡ b
one_total rules s ls Kept a b (ws, works, e) (us, also, f) = e ∙ ap (λ xs. min (sum xs) max_work) (works_once rules s ls Kept ws us works also) ∙ sym f

-- one line more at the end
pub kept_next : (rules : Rules) (s : State) (ls : List (Option Line)) (l : Option Line) (Kept : Instance Node → Type 0) (i : Instance Node) →
    KeptOver rules s (ls ++ l ∷ []) Kept i ↔ KeptAfter rules (state_after rules s ls) (heard rules (state_after rules s ls) l) (KeptOver rules s ls Kept) i
kept_next rules s [] l Kept i = (λ h. h, λ h. h)
kept_next rules s (m ∷ ls) l Kept i = kept_next rules (after s (heard rules s m)) ls l (KeptAfter rules s (heard rules s m) Kept) i

works_next : (rules : Rules) (s : State) (ls : List (Option Line)) (l : Option Line) (Kept : Instance Node → Type 0) (ws : List ℕ) (w : ℕ) → AreWorks rules s ls Kept ws →
    IsWork rules (state_after rules s ls) (heard rules (state_after rules s ls) l) (KeptOver rules s ls Kept) w → AreWorks rules s (ls ++ l ∷ []) Kept (ws ++ w ∷ [])
works_next rules s [] l Kept [] w h k = (k, tt)
works_next rules s [] l Kept (x ∷ ws) w h k = absurd h
works_next rules s (m ∷ ls) l Kept [] w h k = absurd h
works_next rules s (m ∷ ls) l Kept (x ∷ ws) w (h, hs) k = (h, works_next rules (after s (heard rules s m)) ls l (KeptAfter rules s (heard rules s m) Kept) ws w hs k)

-- a sum that stays at its greatest value goes on so
saturated : (greatest a w total : ℕ) → total ≡ min a greatest → min (total + w) greatest ≡ min (a + w) greatest
saturated greatest a w total e = omega (arith, e)

pub total_next : (rules : Rules) (s : State) (ls : List (Option Line)) (l : Option Line) (Kept : Instance Node → Type 0) (total w : ℕ) → IsTotalWork rules s ls Kept total →
    IsWork rules (state_after rules s ls) (heard rules (state_after rules s ls) l) (KeptOver rules s ls Kept) w → IsTotalWork rules s (ls ++ l ∷ []) Kept (min (total + w) max_work)
total_next rules s ls l Kept total w (ws, works, e) work =
    (ws ++ w ∷ [], works_next rules s ls l Kept ws w works work, saturated max_work (sum ws) w total e ∙ ap (λ n. min n max_work) (sym (sum_by-append (λ (x : ℕ). x) ws (w ∷ []) ∙ alone (sum ws) w)))
  where
    alone : (a w : ℕ) → a + (0 + w) ≡ a + w
    alone a w = omega arith
