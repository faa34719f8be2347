-- Formulas by their pieces.
use Rattle.std.specs.Prelude.{◌≡◌, ℕ, Bool, true, false, cond, List, [], ◌∷◌, ◌++◌, ⊤}
use Rattle.at_model.specs.Run.{Instance, Truth}
use Rattle.at_model.specs.of_fixpoints.Formulas.{Formula, Known, Asks, Both, Either, is_surely, is_known_as}
use Rattle.at_body.specs.Stacked.{below}
use Rattle.at_body.specs.declared.formula.Piece.{Piece}
use Rattle.at_body.specs.declared.formula.Piece.TheVariants as piece
use Rattle.at_body.specs.declared.formula.Surely.{Surely}

-- both of them, or (false) either of them
abbrev pub combined : Bool → Formula ℕ → Formula ℕ → Formula ℕ
combined true f g = Both f g
combined false f g = Either f g

-- it stands where an operator lacks an operand, which it never does
abbrev pub nothing : Formula ℕ
nothing = Known (Truth false)

-- an operator on the two formulas on top
abbrev pub operated : Bool → List (Formula ℕ) → List (Formula ℕ)
operated c [] = combined c nothing nothing ∷ []
operated c (g ∷ []) = combined c nothing g ∷ []
operated c (g ∷ f ∷ fs) = combined c f g ∷ fs

-- one piece more, above these formulas
abbrev pub piled : Piece → List (Formula ℕ) → List (Formula ℕ)
piled (piece.Known b) fs = Known (Truth b) ∷ fs
piled (piece.Asks i) fs = Asks i ∷ fs
piled piece.Both fs = operated true fs
piled piece.Either fs = operated false fs

-- the formulas that pieces make above these, the newest on top
abbrev pub stacked : List (Formula ℕ) → List Piece → List (Formula ℕ)
stacked fs [] = fs
stacked fs (p ∷ ps) = stacked (piled p fs) ps

-- the one on top
abbrev pub top_of : List (Formula ℕ) → Formula ℕ
top_of [] = nothing
top_of (f ∷ fs) = f

abbrev pub formula_of : List Piece → Formula ℕ
formula_of ps = top_of (stacked [] ps)

-- the instances of pieces, in their order
abbrev pub asked : List Piece → List (Instance ℕ)
asked [] = []
asked (piece.Asks i ∷ ps) = i ∷ asked ps
asked (piece.Known b ∷ ps) = asked ps
asked (piece.Both ∷ ps) = asked ps
asked (piece.Either ∷ ps) = asked ps

-- it is just a value
abbrev pub is_value : Formula ℕ → Bool
is_value (Known v) = true
is_value f = false

-- that is what the formula surely is
pub record IsTop (f : Formula ℕ) (s : Surely) : Type 0 where
  pub no : s.no ≡ is_surely false f
  pub yes : s.yes ≡ is_surely true f
  pub known : s.known ≡ is_value f

-- and of each formula what it is
abbrev pub AreTops : List (Formula ℕ) → List Surely → Type 0
AreTops [] [] = ⊤
AreTops (f ∷ fs) (s ∷ ss) = IsTop f s × AreTops fs ss
AreTops fs ss = ⊥

-- both, or either, where the right one isn't left out
abbrev pub together : Bool → Formula ℕ → Formula ℕ → Formula ℕ
together c f g = cond (is_known_as c g) f (combined c f g)

-- the two on top are put together
abbrev pub put_together : Bool → List (Formula ℕ) → List (Formula ℕ)
put_together c (g ∷ f ∷ fs) = together c f g ∷ fs
put_together c fs = fs

-- there is one on top
abbrev pub HasTop : List (Formula ℕ) → Type 0
HasTop fs = fs ≡ top_of fs ∷ below fs

-- there are two
pub record AreTwo (fs : List (Formula ℕ)) : Type 0 where
  pub left : Formula ℕ
  pub right : Formula ℕ
  pub others : List (Formula ℕ)
  pub are : fs ≡ right ∷ left ∷ others

-- there is one, and no other one
pub record IsMade (fs : List (Formula ℕ)) : Type 0 where
  pub formula : Formula ℕ
  pub is : fs ≡ formula ∷ []
