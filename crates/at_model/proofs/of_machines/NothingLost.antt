-- What is kept over lines is of nodes of the tree, and what an edit doesn't touch of it is kept after the edit.
use Rattle.std.proofs.Common.{◌≡◌, List, [], ◌∷◌, ◌++◌, Option, Some, None, Ok, inl, inr, refl, sym, subst}
use Rattle.at_model.specs.Trees.{Tree}
use Rattle.at_model.specs.Paths.{Node}
use Rattle.at_model.specs.Run.{Instance}
use Rattle.at_model.specs.Rules.{Rules}
use Rattle.at_model.specs.Support.{IsInstanceThere}
use Rattle.at_model.specs.Alike.{InstanceLike, Names}
use Rattle.at_model.specs.Edits.{Edit, carried, edited}
use Rattle.at_model.specs.Lines.{Line}
use Rattle.at_model.specs.Machine.{State, Verdict, Edits, after, verdict, IsSound}
use Rattle.at_model.specs.Sparing.{KeptAfter}
use Rattle.at_model.specs.of_fixpoints.Resting.{IsUntouched}
use Rattle.at_model.specs.Keeping.{heard, state_after, KeptOver, NothingKept}
use Rattle.at_model.proofs.of_edits.Changes.{whole}
use Rattle.at_model.proofs.of_machines.Sound.{Safe, refused, told, asked, left, edits, posts, waited, safe}
use Rattle.at_model.proofs.of_formulas.Untouched.{forms_stay}
use Rattle.at_model.proofs.of_machines.WellAsked.{well_asked, well_there}
use Rattle.at_model.proofs.of_edits.CarriedInstances.{instance_carried, instance_there}
use Rattle.at_model.proofs.of_machines.KeptOverLines.{sound_heard, sound_over, kept_next}
use Rattle.at_model.proofs.of_edits.Larger.{within_edited}

-- all of these are instances of nodes of the tree
abbrev pub AreThere : Tree → (Instance Node → Type 0) → Type 0
AreThere t Kept = (i : Instance Node) → Kept i → IsInstanceThere t i

module _ (rules : Rules) (s : State) (Kept : Instance Node → Type 0) (sound : IsSound rules.classes s) (there : AreThere s.tree Kept) where
  there_by : (l : Line) (v : Verdict) → verdict rules s l ≡ v → Safe rules.classes s v → AreThere (after s v).tree (KeptAfter rules s v Kept)
  there_by l v is (refused c) = there
  there_by l v is (told shown) = there
  there_by l v is (left marks lead) = there
  there_by l v is (posts q lead) = there
  there_by l v is (waited number) = there
  there_by l v is (asked q) = λ i h. elim h [
    | inl kept ↦ there i kept
    | inr worth ↦ forms_stay rules s.tree q i (well_there rules s.tree q (well_asked rules s l q is)) worth.reached
  ]
  there_by l v is (edits e t made) = λ j (i, kept, free, like).
      instance_there rules s.tree t e (within_edited s.limit rules.classes s.tree e t made).0 sound.tree_conforms i j like (there i kept)

  there_heard : (l : Option Line) → AreThere (after s (heard rules s l)).tree (KeptAfter rules s (heard rules s l) Kept)
  there_heard None = there
  there_heard (Some l) = there_by l (verdict rules s l) refl (whole (Safe rules.classes s) refused rules s l (safe rules s sound l.session l.command))

there_over : (rules : Rules) (s : State) (ls : List (Option Line)) (Kept : Instance Node → Type 0)
    → IsSound rules.classes s → AreThere s.tree Kept → AreThere (state_after rules s ls).tree (KeptOver rules s ls Kept)
there_over rules s [] Kept sound there = there
there_over rules s (l ∷ ls) Kept sound there = there_over rules (after s (heard rules s l)) ls
    (KeptAfter rules s (heard rules s l) Kept) (sound_heard rules s l sound) (there_heard rules s Kept sound there l)

pub kept_there : (rules : Rules) (s : State) (ls : List (Option Line)) → IsSound rules.classes s → AreThere (state_after rules s ls).tree (KeptOver rules s ls NothingKept)
kept_there rules s ls sound = there_over rules s ls NothingKept sound (λ i none. absurd none)

-- the edit of a line is one that is accepted
made_by : (rules : Rules) (s : State) (e : Edit) (t : Tree) (v : Verdict) → Safe rules.classes s v → v ≡ Edits e t → edited rules.classes s.tree e ≡ Ok t
made_by rules s e t v (refused c) is = absurd cc
made_by rules s e t v (told shown) is = absurd cc
made_by rules s e t v (left marks lead) is = absurd cc
made_by rules s e t v (asked q) is = absurd cc
made_by rules s e t v (posts q lead) is = absurd cc
made_by rules s e t v (waited number) is = absurd cc
made_by rules s e t v (edits by u made) is =
    let same : by ≡ e = cc in
    let also : u ≡ t = cc in
    let accepted = (within_edited s.limit rules.classes s.tree by u made).0 in
    subst (λ x. edited rules.classes s.tree e ≡ Ok x) also (subst (λ x. edited rules.classes s.tree x ≡ Ok u) same accepted)

made_heard : (rules : Rules) (s : State) (l : Option Line) (e : Edit) (t : Tree) → IsSound rules.classes s → heard rules s l ≡ Edits e t → edited rules.classes s.tree e ≡ Ok t
made_heard rules s None e t sound is = absurd cc
made_heard rules s (Some l) e t sound is = made_by rules s e t (verdict rules s l) (whole (Safe rules.classes s) refused rules s l (safe rules s sound l.session l.command)) is

pub nothing_lost : (rules : Rules) (s : State) (ls : List (Option Line)) (l : Option Line) (e : Edit) (t : Tree)
    (i : Instance Node) → IsSound rules.classes s → heard rules (state_after rules s ls) l ≡ Edits e t →
    KeptOver rules s ls NothingKept i → IsUntouched rules (state_after rules s ls).tree e i → (j : Instance Node) × InstanceLike (Names (carried e)) i j × KeptOver rules s (ls ++ l ∷ []) NothingKept j
nothing_lost rules s ls l e t i sound is kept free =
    let made = made_heard rules (state_after rules s ls) l e t (sound_over rules s ls sound) is in
    let (j, like) = instance_carried rules (state_after rules s ls).tree t e made i (kept_there rules s ls sound i kept) free in
    let P : Verdict → Type 0 = λ v. KeptAfter rules (state_after rules s ls) v (KeptOver rules s ls NothingKept) j in
    (j, like, (kept_next rules s ls l NothingKept j).1 (subst P (sym is) (i, kept, free, like)))
