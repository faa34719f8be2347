-- Conditions for formulas, and a system of them for instances.
use Rattle.std.specs.Prelude.{◌≡◌, ◌⊎◌, ℕ, ◌+◌, ◌<◌, Bool, true, false, cond, List, [], ◌∷◌, ◌++◌, None, Some, IsSome, length, reverse, slice_get, Vec, ⊤}
use Rattle.std.specs.Global.{Global}
use Rattle.at_model.specs.Run.{Value, Truth, Instance, Known}
use Rattle.at_model.specs.Bodies.{bool_eq, truth_of}
use Rattle.at_model.specs.Meaning.{Among}
use Rattle.at_model.specs.of_fixpoints.Formulas.{Formula, Asks, Both, Either, atoms}
use Rattle.at_model.specs.of_fixpoints.Formulas as formula
use Rattle.at_model.specs.of_fixpoints.Fixpoints.{Made}
use Rattle.at_body.specs.Pieces.{asked, formula_of, stacked}
use Rattle.at_body.specs.declared.formula.Piece.{Piece}
use Rattle.at_body.specs.declared.formula.Piece.TheVariants as piece
use Rattle.at_solve.specs.Components.{listed_at}
use Rattle.at_solve.specs.declared.condition.Condition.{Condition}
use Rattle.at_solve.specs.declared.condition.Condition.TheVariants as condition
use Rattle.at_search.specs.declared.conditions.Conditions.{Conditions}
use Rattle.at_search.specs.declared.ended.Ended.{Ended}
use Rattle.at_search.specs.declared.system.System.{System}
use Rattle.at_search.specs.Recorded.{Recorded}

-- that a value isn't the start value
abbrev pub told : (start value : Bool) → Condition
told start value = cond (bool_eq value start) condition.Never condition.Always

-- that both formulas together leave the start value, or (false) either of them: of two that start from true it takes one
abbrev pub two : (start conjunction : Bool) → (left right : ℕ) → Condition
two start conjunction l r = cond (bool_eq conjunction start) (condition.Either l r) (condition.Both l r)

-- The condition at this place says that the formula leaves the start value. An instance that is known has its value, any other one its
-- position, and one without a position never leaves it. The places are those behind so many conditions.
pub data Stands (start : Bool) (count : ℕ) (known : Known ℕ) (insts : List (Instance ℕ)) (parts : List Condition) : ℕ → Formula ℕ → Type 0 where
  by_value : (p : ℕ) (b : Bool) → slice_get parts p ≡ Some (told start b) → Stands start count known insts parts p (formula.Known (Truth b))
  by_known : (p : ℕ) (i : Instance ℕ) (v : Value ℕ) → known i ≡ Some v → slice_get parts p ≡ Some (told start (truth_of v)) →
      Stands start count known insts parts p (Asks i)
  by_place : (p q : ℕ) (i : Instance ℕ) → known i ≡ None → slice_get insts q ≡ Some i → slice_get parts p ≡ Some (condition.When q) →
      Stands start count known insts parts p (Asks i)
  nowhere : (p : ℕ) (i : Instance ℕ) → known i ≡ None → (¬ (Among i insts)) → slice_get parts p ≡ Some condition.Never →
      Stands start count known insts parts p (Asks i)
  by_both : (p l r : ℕ) (f g : Formula ℕ) → slice_get parts p ≡ Some (two start true (count + l) (count + r)) →
      Stands start count known insts parts l f → Stands start count known insts parts r g → Stands start count known insts parts p (Both f g)
  by_either : (p l r : ℕ) (f g : Formula ℕ) → slice_get parts p ≡ Some (two start false (count + l) (count + r)) →
      Stands start count known insts parts l f → Stands start count known insts parts r g → Stands start count known insts parts p (Either f g)

-- an operator on two formulas
abbrev pub operator : Bool → Piece
operator true = piece.Both
operator false = piece.Either

-- conditions at these places stand for these formulas
abbrev pub AreStanding : (start : Bool) (count : ℕ) → Known ℕ → List (Instance ℕ) → List Condition → List ℕ → List (Formula ℕ) → Type 0
AreStanding start count known insts parts [] [] = ⊤
AreStanding start count known insts parts (p ∷ ps) (f ∷ fs) =
    Stands start count known insts parts p f × AreStanding start count known insts parts ps fs
AreStanding start count known insts parts ps fs = ⊥

-- it has a position among these, which the list has
abbrev pub HasTarget : List (Instance ℕ) → List ℕ → Instance ℕ → Type 0
HasTarget insts targets i = (q : ℕ) × Among q targets × (slice_get insts q ≡ Some i)

-- Formulas of these instances ask for these positions, of instances that aren't known, and, where it is open, for one that isn't known and has none.
pub record Targets (known : Known ℕ) (insts : List (Instance ℕ)) (targets : List ℕ) (open' : Bool) (asked' : List (Instance ℕ)) : Type 0 where
  pub covered : (i : Instance ℕ) → Among i asked' → IsSome (known i) ⊎ (HasTarget insts targets i ⊎ (open' ≡ true))
  pub from : (q : ℕ) → Among q targets → (i : Instance ℕ) × Among i asked' × (known i ≡ None) × (slice_get insts q ≡ Some i)
  pub outside : open' ≡ true → (i : Instance ℕ) × Among i asked' × (known i ≡ None) × (¬ (Among i insts))

-- The pieces of the formula under way have these operands, and ask for these positions.
pub record IsUnderWay (known : Known ℕ) (insts : List (Instance ℕ)) (c : Conditions) (ps : List Piece) : Type 0 where
  pub operands : AreStanding c.start c.count known insts c.parts.items (reverse c.operands.items) (stacked [] ps)
  pub targets : Targets known insts c.targets.items c.is_open (asked ps)

-- conditions come behind those that are there
pub record StaysUnder (old new : Conditions) : Type 0 where
  pub start : new.start ≡ old.start
  pub count : new.count ≡ old.count
  pub more : List Condition
  pub parts : new.parts.items ≡ old.parts.items ++ more

-- nothing is there of the formula under way
pub record HasBegun (old new : Conditions) : Type 0 where
  pub start : new.start ≡ old.start
  pub count : new.count ≡ old.count
  pub parts : new.parts.items ≡ old.parts.items
  pub operands : new.operands.items ≡ []
  pub targets : new.targets.items ≡ []
  pub closed : new.is_open ≡ false

-- the condition is the last one, and the newest operand
pub record HasPushed (c : Condition) (old new : Conditions) : Type 0 where
  pub parts : new.parts.items ≡ old.parts.items ++ c ∷ []
  pub operands : reverse new.operands.items ≡ length old.parts.items ∷ reverse old.operands.items
  pub targets : new.targets.items ≡ old.targets.items
  pub stays : new.is_open ≡ old.is_open

-- The newest operand was at this place; or there was none, and one comes that stands for `false`.
pub record HasOperand (old new : Conditions) (place : ℕ) : Type 0 where
  pub taken : ((reverse old.operands.items ≡ place ∷ reverse new.operands.items) × (new.parts.items ≡ old.parts.items))
      ⊎ ((old.operands.items ≡ []) × (new.operands.items ≡ []) × (place ≡ length old.parts.items)
      × (new.parts.items ≡ old.parts.items ++ told old.start false ∷ []))
  pub targets : new.targets.items ≡ old.targets.items
  pub stays : new.is_open ≡ old.is_open

-- the instance leaves the start value never, or just where a formula of it does
abbrev pub IsPlaced : (start : Bool) (count : ℕ) → Known ℕ → List (Instance ℕ) → (parts system : List Condition) →
    (has : Instance ℕ → Formula ℕ → Type 0) → ℕ → Instance ℕ → Type 0
IsPlaced start count known insts parts system has q i = (slice_get system q ≡ Some condition.Never)
    ⊎ ((f : Formula ℕ) × (r : ℕ) × has i f × (slice_get system q ≡ Some (condition.When (count + r))) × Stands start count known insts parts r f)

-- the instance is open, since it is known or has no formula
pub record IsUnformed (known : Known ℕ) (ended : List (Instance ℕ × Ended)) (s : System) (q : ℕ) (i : Instance ℕ) : Type 0 where
  pub head : slice_get s.heads.items q ≡ Some condition.Never
  pub edges : listed_at s.edges.items q ≡ []
  pub is_open : slice_get s.open.items q ≡ Some true
  pub why : IsSome (known i) ⊎ ((f : Formula ℕ) → Recorded ended i (Made f) → ⊥)

-- It has the formula, for which its condition stands; it leads to the positions of that, and is open where that is.
pub record IsFormed (known : Known ℕ) (ended : List (Instance ℕ × Ended)) (insts : List (Instance ℕ)) (s : System) (q : ℕ) (i : Instance ℕ)
    (f : Formula ℕ) : Type 0 where
  pub place : ℕ
  pub unknown : known i ≡ None
  pub recorded : Recorded ended i (Made f)
  pub head : slice_get s.heads.items q ≡ Some (condition.When (s.conditions.count + place))
  pub stands : Stands s.conditions.start s.conditions.count known insts s.conditions.parts.items place f
  pub is_open : Bool
  pub at : slice_get s.open.items q ≡ Some is_open
  pub targets : Targets known insts (listed_at s.edges.items q) is_open (atoms f)

-- an instance stands once
abbrev pub AreApart : List (Instance ℕ) → Type 0
AreApart insts = (p q : ℕ) (i : Instance ℕ) → slice_get insts p ≡ Some i → slice_get insts q ≡ Some i → p ≡ q

-- The first n of these instances, which start so, stand in the system, each at its position.
pub record IsSystemTo (n : ℕ) (start : Bool) (known : Known ℕ) (ended : List (Instance ℕ × Ended)) (insts : List (Instance ℕ))
    (s : System) : Type 0 where
  pub start' : s.conditions.start ≡ start
  pub count : s.conditions.count ≡ length insts
  pub heads : length s.heads.items ≡ n
  pub edges : length s.edges.items ≡ n
  pub opens : length s.open.items ≡ n
  pub placed : (q : ℕ) (i : Instance ℕ) → q < n → slice_get insts q ≡ Some i →
      IsUnformed known ended s q i ⊎ ((f : Formula ℕ) × IsFormed known ended insts s q i f)

-- all of them do, and each stands once
pub record IsSystem (start : Bool) (known : Known ℕ) (ended : List (Instance ℕ × Ended)) (insts : List (Instance ℕ)) (s : System) : Type 0 where
  pub all : IsSystemTo (length insts) start known ended insts s
  pub apart : AreApart insts

-- one more instance is open
pub record HasOpened (old new : System) : Type 0 where
  pub conditions : new.conditions ≡ old.conditions
  pub heads : new.heads.items ≡ old.heads.items ++ condition.Never ∷ []
  pub targets : Vec ℕ Global
  pub none : targets.items ≡ []
  pub edges : new.edges.items ≡ old.edges.items ++ targets ∷ []
  pub open' : new.open.items ≡ old.open.items ++ true ∷ []

-- One more instance has the formula of these pieces.
pub record HasFormed (known : Known ℕ) (insts : List (Instance ℕ)) (ps : List Piece) (old new : System) : Type 0 where
  pub stays : StaysUnder old.conditions new.conditions
  pub place : ℕ
  pub heads : new.heads.items ≡ old.heads.items ++ condition.When (old.conditions.count + place) ∷ []
  pub stands : Stands old.conditions.start old.conditions.count known insts new.conditions.parts.items place (formula_of ps)
  pub targets : Vec ℕ Global
  pub edges : new.edges.items ≡ old.edges.items ++ targets ∷ []
  pub is_open : Bool
  pub opens : new.open.items ≡ old.open.items ++ is_open ∷ []
  pub asks : Targets known insts targets.items is_open (asked ps)
