-- What stands in the way of keeping an entry again.
use Rattle.std.specs.Prelude.{◌≡◌, ◌&&◌, ◌||◌, ◌++◌, ◌∷◌, ℕ, List, Bool, true, false, None, Some, is_some, Contains}
use Rattle.at_model.specs.Run.{Instance, Location}
use Rattle.at_index.specs.declared.edge.Edge.{Edge}
use Rattle.at_cache.specs.declared.standing.Standing.{Standing}
use Rattle.at_cache.specs.declared.table.Table.{Table}
use Rattle.at_cache.specs.Info.{Info, memory_of}
use Rattle.at_cache.specs.Standings.{AreValued, IsTied, kept_held, remembered, standing_of}
use Rattle.at_cache.specs.Traced.{IsNext}

-- whether the entry in the slot is kept with a value
abbrev pub is_valued : Table → List Standing → ℕ → Bool
is_valued t standings s =
    (standing_of standings s).holds && elim (memory_of t s) [ None ↦ false | Some e ↦ is_some e.value ]

-- whether it is kept, and can be kept again or has a value
abbrev pub is_known : Table → List Standing → ℕ → Bool
is_known t standings s =
    (standing_of standings s).holds
    && ((standing_of standings s).traced || elim (memory_of t s) [ None ↦ false | Some e ↦ is_some e.value ])

-- The slot is among these, and all before it are known so.
pub record IsFirstOpen (t : Table) (standings : List Standing) (slots : List ℕ) (p : ℕ) : Type 0 where
  pub front : List ℕ
  pub back : List ℕ
  pub among : slots ≡ front ++ p ∷ back
  pub before : (q : ℕ) → Contains front q → is_known t standings q ≡ true

-- wherever the instance of the entry comes next, so does the one in the slot p
abbrev pub Follows : Table → List Standing → (lists : Location ℕ → List Edge) (puts : ℕ) → Info → (p : ℕ) → Type 0
Follows t standings lists puts e p = (f : Info) × (memory_of t p ≡ Some f)
    × ((q : Instance ℕ) → IsNext (remembered lists t standings) (kept_held lists t standings puts) q e.instance
    → IsNext (remembered lists t standings) (kept_held lists t standings puts) q f.instance)

-- the same of the one in the slot s
abbrev pub LeadsTo : Table → List Standing → (s p : ℕ) → Type 0
LeadsTo t standings s p = (lists : Location ℕ → List Edge) (puts : ℕ)
    → IsTied lists puts standings (memory_of t) → AreValued standings (memory_of t)
    → (e : Info) → memory_of t s ≡ Some e → Follows t standings lists puts e p
