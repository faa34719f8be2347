-- Formulas by their pieces.
use Rattle.std.proofs.Common.{◌≡◌, ℕ, Bool, true, false, not, cond, List, [], ◌∷◌, ◌++◌, refl, ap, sym, ◌∙◌, subst, append_assoc, append-nil, Option, Some, None, Result, Ok, Err}
use Rattle.std.specs.Prelude.{OnOk, OnErr}
use Rattle.std.specs.Option.{MatchOption}
use Rattle.at_model.specs.Run.{Instance, Value, Truth}
use Rattle.at_model.specs.of_fixpoints.Formulas.{Formula, Known, Asks, Both, Either, atoms, is_surely, is_known_as, joined}
use Rattle.at_body.specs.declared.formula.Piece.{Piece}
use Rattle.at_body.specs.declared.formula.Piece.TheVariants as piece
use Rattle.at_body.specs.declared.formula.Surely.{Surely}
use Rattle.at_body.specs.Stacked.{below}
use Rattle.at_body.specs.Pieces.{AreTops, HasTop, IsTop, asked, combined, formula_of, is_value, nothing, operated, piled, put_together, stacked, together, top_of}

-- one piece more
pub one_more : (fs : List (Formula ℕ)) (ps : List Piece) (p : Piece) → stacked fs (ps ++ p ∷ []) ≡ piled p (stacked fs ps)
one_more fs [] p = refl
one_more fs (q ∷ ps) p = one_more (piled q fs) ps p

-- a value on top is the last piece
last_value : (p : Piece) (fs : List (Formula ℕ)) → is_value (top_of (piled p fs)) ≡ true → below (piled p fs) ≡ fs
last_value (piece.Known b) fs e = refl
last_value (piece.Asks i) fs e = absurd cc
last_value piece.Both [] e = absurd cc
last_value piece.Both (g ∷ []) e = absurd cc
last_value piece.Both (g ∷ f ∷ fs) e = absurd cc
last_value piece.Either [] e = absurd cc
last_value piece.Either (g ∷ []) e = absurd cc
last_value piece.Either (g ∷ f ∷ fs) e = absurd cc

-- what is known as a truth value is a value
pub known_value : (b : Bool) (f : Formula ℕ) → is_known_as b f ≡ true → is_value f ≡ true
known_value b (Known v) e = refl
known_value b (Asks i) e = absurd cc
known_value b (Both f g) e = absurd cc
known_value b (Either f g) e = absurd cc

pub popped : (ps qs : List Piece) (o : Option Piece) → MatchOption o (ps ≡ []) (λ p. ps ≡ qs ++ p ∷ []) → HasTop (stacked [] ps) → is_value (top_of (stacked [] ps)) ≡ true →
    stacked [] qs ≡ below (stacked [] ps)
popped ps qs None is top e = let there = rw is at top in absurd (off there)
  where
    off : [] ≡ nothing ∷ [] → ⊥
    off h = absurd cc
popped ps qs (Some p) is top e =
    let s : stacked [] ps ≡ piled p (stacked [] qs) = ap (stacked []) is ∙ one_more [] qs p in
    sym (ap below s ∙ last_value p (stacked [] qs) (subst (λ fs. is_value (top_of fs) ≡ true) s e))

pub lowered : (fs gs : List (Formula ℕ)) (ts us : List Surely) → us ≡ below ts → gs ≡ below fs → AreTops fs ts → AreTops gs us
lowered [] gs [] us e f h = rw (e, f) tt
lowered [] gs (t ∷ ts) us e f h = absurd h
lowered (x ∷ fs) gs [] us e f h = absurd h
lowered (x ∷ fs) gs (t ∷ ts) us e f (h, hs) = rw (e, f) hs

-- a piece more, or (where memory is wanting) none at all
pub put_tops : {E : Type 0} (res : Result Unit E) (ps qs : List Piece) (ss ts : List Surely) (p : Piece) (f : Formula ℕ) (fs : List (Formula ℕ)) (s : Surely) →
    OnOk res (qs ≡ ps ++ p ∷ []) → OnOk res (ts ≡ s ∷ ss) → OnErr res (qs ≡ []) → OnErr res (ts ≡ []) → piled p (stacked [] ps) ≡ f ∷ fs → IsTop f s → AreTops fs ss → AreTops (stacked [] qs) ts
put_tops (Ok u) ps qs ss ts p f fs s is are e g top h hs = rw (is, are, one_more [] ps p, top) (h, hs)
put_tops (Err x) ps qs ss ts p f fs s is are e g top h hs = rw (e, g) tt

pub put_formula : {E : Type 0} (res : Result Unit E) (ps qs : List Piece) (p : Piece) (fs : List (Formula ℕ)) → OnOk res (qs ≡ ps ++ p ∷ []) → piled p (stacked [] ps) ≡ fs → OnOk res (stacked [] qs ≡ fs)
put_formula (Ok u) ps qs p fs is e = ap (stacked []) is ∙ one_more [] ps p ∙ e
put_formula (Err x) ps qs p fs is e = tt

-- the two on top
pub record Two (f g : Formula ℕ) (fs : List (Formula ℕ)) (s t : Surely) (ss : List Surely) : Type 0 where
  pub left : IsTop f s
  pub right : IsTop g t
  pub others : AreTops fs ss

pub two_tops : (hs fs : List (Formula ℕ)) (f g : Formula ℕ) (s t : Surely) (ts ss us : List Surely) → hs ≡ g ∷ f ∷ fs → ts ≡ t ∷ us → us ≡ s ∷ ss → AreTops hs ts → Two f g fs s t ss
two_tops hs fs f g s t ts ss us is are more h = let (x, yz) = rw (is, are, more) at h in record { left = yz.0; right = x; others = yz.1 }

pub first_top : (hs fs : List (Formula ℕ)) (g : Formula ℕ) (t : Surely) (ts us : List Surely) → hs ≡ g ∷ fs → ts ≡ t ∷ us → AreTops hs ts → IsTop g t
first_top hs fs g t ts us is are h = let (x, y) = rw (is, are) at h in x

pub has_top : (hs fs : List (Formula ℕ)) (g : Formula ℕ) → hs ≡ g ∷ fs → HasTop hs
has_top hs fs g is = rw is refl

pub value_on_top : (c : Bool) (hs fs : List (Formula ℕ)) (g : Formula ℕ) → hs ≡ g ∷ fs → is_known_as c g ≡ true → is_value (top_of hs) ≡ true
value_on_top c hs fs g is e = rw is (known_value c g e)

pub join_known : (c : Bool) (hs fs : List (Formula ℕ)) (f g : Formula ℕ) → hs ≡ g ∷ f ∷ fs → is_known_as c g ≡ true → below hs ≡ put_together c hs
join_known c hs fs f g is e = rw (is, e) refl

pub join_else : (c : Bool) (hs fs : List (Formula ℕ)) (f g : Formula ℕ) → hs ≡ g ∷ f ∷ fs → is_known_as c g ≡ false → combined c f g ∷ fs ≡ put_together c hs
join_else c hs fs f g is e = rw (is, e) refl

-- a left side that is known leaves the right one to decide; else they are put together
pub joined_known : (c : Bool) (f g : Formula ℕ) → is_known_as c f ≡ true → joined c f g ≡ g
joined_known true f g e = rw e refl
joined_known false f g e = rw e refl

pub joined_else : (c : Bool) (f g : Formula ℕ) → is_known_as c f ≡ false → joined c f g ≡ together c f g
joined_else true f g e = rw e refl
joined_else false f g e = rw e refl

-- the instances of formulas that are stacked, those of the newest last
abbrev pub all_atoms : List (Formula ℕ) → List (Instance ℕ)
all_atoms [] = []
all_atoms (f ∷ fs) = all_atoms fs ++ atoms f

two_atoms : (c : Bool) (f g : Formula ℕ) → atoms (combined c f g) ≡ atoms f ++ atoms g
two_atoms true f g = refl
two_atoms false f g = refl

operated_atoms : (c : Bool) (fs : List (Formula ℕ)) → all_atoms (operated c fs) ≡ all_atoms fs
operated_atoms c [] = two_atoms c nothing nothing
operated_atoms c (g ∷ []) = two_atoms c nothing g
operated_atoms c (g ∷ f ∷ fs) = ap (λ is. all_atoms fs ++ is) (two_atoms c f g) ∙ sym (append_assoc (all_atoms fs) (atoms f) (atoms g))

-- pieces ask for their instances in the order of the formulas that they make
pub atoms_stacked : (fs : List (Formula ℕ)) (ps : List Piece) → all_atoms (stacked fs ps) ≡ all_atoms fs ++ asked ps
atoms_stacked fs [] = sym (append-nil (all_atoms fs))
atoms_stacked fs (piece.Known b ∷ ps) = atoms_stacked (Known (Truth b) ∷ fs) ps ∙ ap (λ is. is ++ asked ps) (append-nil (all_atoms fs))
atoms_stacked fs (piece.Asks i ∷ ps) = atoms_stacked (Asks i ∷ fs) ps ∙ append_assoc (all_atoms fs) (i ∷ []) (asked ps)
atoms_stacked fs (piece.Both ∷ ps) = atoms_stacked (operated true fs) ps ∙ ap (λ is. is ++ asked ps) (operated_atoms true fs)
atoms_stacked fs (piece.Either ∷ ps) = atoms_stacked (operated false fs) ps ∙ ap (λ is. is ++ asked ps) (operated_atoms false fs)

pub in_order : (ps : List Piece) (f : Formula ℕ) → stacked [] ps ≡ f ∷ [] → atoms f ≡ asked ps
in_order ps f e = sym (ap all_atoms e) ∙ atoms_stacked [] ps
