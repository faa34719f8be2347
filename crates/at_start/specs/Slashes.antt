-- Components between slashes, `/Name:Kind*/`: nonterminal attributes that stand in the grammar (JastAdd2 reference manual, "Nonterminal
-- attributes"). The grammar is read of the text in which these slashes are blanks, and the places of the names behind them are its marks.
use Rattle.std.specs.Prelude.{◌≡◌, ℕ, zero, suc, ◌+◌, Bool, false, not, ◌&&◌, ◌||◌, ◌==◌, List, [], ◌∷◌, map, drop, Option, Some, None, if◌then◌else◌}
use Rattle.std.specs.List.{flat_map, slice_get}
use Rattle.std.specs.Str.{bytes_eq}
use lib.Chars.{codes}
use Rattle.at_model.specs.Declarations.{Place}
use Rattle.at_model.specs.Edits.{changed_at}
use Rattle.at_model.specs.Names.{is_name}
use Rattle.at_text.specs.Faults.{FaultsAt}
use Rattle.at_text.specs.Pieces.{Cut, Piece, Spelled, spelled_at}
use Rattle.at_text.specs.Place.{place_of}
use Rattle.at_text.specs.Symbols.{is_sign_kind, is_word_kind}
use Rattle.at_text.specs.declared.scan.ScanFault.{ScanFault}
use Rattle.at_text.specs.declared.scan.ScanFault.TheVariants.{Memory}
use Rattle.at_class.specs.Grammar.{place_view}
use Rattle.at_start.specs.declared.slashes.Spot.{Spot}
use Rattle.at_start.specs.declared.slashes.Spot.TheVariants.{Outside, Component, Kind, Bracketed}

-- ---- rows between slashes

-- the token is this sign
abbrev pub is_this : List ℕ → Spelled → Bool
is_this sign t = is_sign_kind t.kind && bytes_eq t.text sign

-- the token is a name
abbrev pub is_named : Spelled → Bool
is_named t = is_word_kind t.kind && is_name t.text

-- how many tokens [":" name] takes
abbrev pub kind_length : List Spelled → ℕ
kind_length [] = 0
kind_length (t ∷ []) = 0
kind_length (t ∷ u ∷ ts) = if is_this (codes ":") t && is_named u then 2 else 0

-- how many ["*"] takes
abbrev pub star_length : List Spelled → ℕ
star_length [] = 0
star_length (t ∷ ts) = if is_this (codes "*") t then 1 else 0

-- how many [":" name] ["*"] takes
abbrev pub typed_length : List Spelled → ℕ
typed_length ts = kind_length ts + star_length (drop (kind_length ts) ts)

-- a component between slashes: where these stand, its name, and how many tokens it has behind its first
pub record Slashed : Type 0 where
  pub opens : ℕ
  pub name : Spelled
  pub closes : ℕ
  pub more : ℕ

-- the token is one of the two signs that go on with a component
abbrev pub goes_on : Option Spelled → Bool
goes_on None = false
goes_on (Some t) = is_this (codes ":") t || is_this (codes "*") t

-- the one that this slash closes, if it is a slash, and what is behind it doesn't go on with a component
abbrev pub closed : (first name : Spelled) → ℕ → Option Spelled → Option Spelled → Option Slashed
closed first name n None next = None
closed first name n (Some t) next =
    if is_this (codes "/") t && not (goes_on next) then Some (record { opens = first.start; name = name; closes = t.start; more = n + 2 }) else None

-- "/" name [":" name] ["*"] "/", if these tokens begin so
abbrev pub first_slashed : List Spelled → Option Slashed
first_slashed [] = None
first_slashed (t ∷ []) = None
first_slashed (t ∷ u ∷ ts) =
    if is_this (codes "/") t && is_named u then closed t u (typed_length ts) (slice_get ts (typed_length ts)) (slice_get ts (typed_length ts + 1)) else None

-- ---- where they stand

-- where the token behind this one stands, if this one doesn't end a class
abbrev pub spot_within : Spot → Spelled → Spot
spot_within Outside t = if is_this (codes "::=") t then Component else Outside
spot_within Component t = if is_this (codes ":") t then Kind else if is_this (codes "[") t || is_this (codes "<") t then Bracketed else Component
spot_within Kind t = Component
spot_within Bracketed t = if is_this (codes "]") t || is_this (codes ">") t then Component else Bracketed

-- where the token behind this one stands
abbrev pub spot_behind : Spot → Spelled → Spot
spot_behind at t = if is_this (codes ";") t then Outside else spot_within at t

-- the component between slashes with which these tokens begin, if one may stand there
abbrev pub slashed_at : Spot → List Spelled → Option Slashed
slashed_at Outside ts = None
slashed_at Component ts = first_slashed ts
slashed_at Kind ts = None
slashed_at Bracketed ts = None

-- all of a row that stands there, the first tokens of which, so many, belong to the last one
abbrev pub all_slashed : Spot → ℕ → List Spelled → List Slashed
all_slashed at n [] = []
all_slashed at (suc n) (t ∷ ts) = all_slashed (spot_behind at t) n ts
all_slashed at zero (t ∷ ts) =
    elim (slashed_at at (t ∷ ts)) [ None ↦ all_slashed (spot_behind at t) 0 ts | Some s ↦ s ∷ all_slashed (spot_behind at t) s.more ts ]

-- those that begin behind its first token, where so many of the others belong to one
abbrev pub next_slashed : Spot → ℕ → List Spelled → List Slashed
next_slashed at n [] = []
next_slashed at n (t ∷ ts) = all_slashed (spot_behind at t) n ts

-- those of the tokens of a grammar
abbrev pub slashed_in : List Spelled → List Slashed
slashed_in ts = all_slashed Outside 0 ts

-- ---- the text

-- a slash gives way to a blank
abbrev pub blank : ℕ → ℕ
blank b = if b == 47 then 32 else b

-- the text with blanks for the slashes at these offsets
abbrev pub blanked : List ℕ → List ℕ → List ℕ
blanked text [] = text
blanked text (o ∷ os) = blanked (changed_at blank text o) os

-- where the slashes of these stand
abbrev pub slashes : List Slashed → List ℕ
slashes ss = flat_map (λ s. s.opens ∷ s.closes ∷ []) ss

-- the places of the names of these
abbrev pub marks_of : List ℕ → List Slashed → List Place
marks_of text ss = map (λ s. place_view (place_of text s.name.start)) ss

-- The grammar of the text is read of this one, with these marks; where the text is no row of tokens it is read as it stands.
pub data Unslashes (text : List ℕ) : List ℕ → List Place → Type 0 where
  cut : (ps : List Piece) → Cut text ps []
      → Unslashes text (blanked text (slashes (slashed_in (spelled_at 0 ps)))) (marks_of text (slashed_in (spelled_at 0 ps)))
  uncut : (e : ScanFault) → ¬ (e ≡ Memory) → FaultsAt text e → Unslashes text text []
