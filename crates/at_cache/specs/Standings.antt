-- What entries that stay in memory show, by how they stand: what is kept, and what can be kept again.
use Rattle.std.specs.Prelude.{◌≡◌, ◌<◌, ◌||◌, ◌+◌, ◌/◌, ℕ, zero, suc, List, [], ◌∷◌, Bool, true, false, Option, None, Some, is_some, get_or, nat_eq, nat_lt, option_map, if◌then◌else◌}
use Rattle.std.specs.List.{flat_map, list_any}
use Rattle.std.specs.Map.{lookup}
use Rattle.std.specs.Option.{option_and_then}
use Rattle.at_model.specs.Run.{Instance, Location, Value}
use Rattle.at_body.specs.Same.{same_instance}
use Rattle.at_body.specs.Values.{value_view}
use Rattle.at_cache.specs.declared.cut.Cut.{Cut}
use Rattle.at_index.specs.declared.edge.Edge.{Edge}
use Rattle.at_cache.specs.declared.entry.Entry.{Entry}
use Rattle.at_cache.specs.declared.standing.Standing.{Standing}
use Rattle.at_cache.specs.declared.table.Table.{Table}
use Rattle.at_cache.specs.Info.{Info, Memory, memory_of, table_len}
use Rattle.at_cache.specs.Kept.{Entries, Kept, value_at}
use Rattle.at_cache.specs.Recorded.{covers, edge_to}
use Rattle.at_index.specs.Edges.{is_listed}
use Rattle.at_cache.specs.Traced.{Memories, Trace}

-- how what isn't there stands
abbrev pub nothing : Standing
nothing = record { since = 0; holds = false; traced = false }

-- how the entry in a slot stands
abbrev pub standing_of : List Standing → ℕ → Standing
standing_of standings s = get_or standings s nothing

-- how an entry stands without its trace, and where it isn't kept
abbrev pub untraced : Standing → Standing
untraced s = record s { traced = false }

abbrev pub unheld : Standing → Standing
unheld s = record s { holds = false }

-- what is in the slot stands otherwise
abbrev pub IsChanged : (change : Standing → Standing) → (slot : ℕ) → (old new : List Standing) → Type 0
IsChanged change slot old new = (k : ℕ) → standing_of new k ≡ (if nat_eq k slot then change (standing_of old k) else standing_of old k)

-- an entry that is kept, since when it is
abbrev pub shape : Standing → Info → Info
shape s e = record e { since = s.since }

abbrev pub shown : Standing → Info → Option Info
shown s e = if s.holds then Some (shape s e) else None

-- what is kept
abbrev pub held : List Standing → Memory → Memory
held standings m k = option_and_then (shown (standing_of standings k)) (m k)

-- whether what stands so is kept, or can be kept again
abbrev pub is_alive : Standing → Bool
is_alive s = s.holds || s.traced

-- the entries of which edges tell: an edge to any other one tells of nothing
abbrev pub alive : List Standing → Memory → Memory
alive standings m k = if is_alive (standing_of standings k) then m k else None

abbrev pub alive_in : Cut → Memory
alive_in c k = alive c.standings.items (memory_of c.entries) k

-- the entry, where it is kept
abbrev pub held_of : List Standing → Option Entry → Option Entry
held_of standings o = option_and_then (λ e. if (standing_of standings e.slot).holds then Some e else None) o

-- what is kept of an instance, with these edges of locations, after so many numbers
abbrev pub kept_held : (lists : Location ℕ → List Edge) → Table → List Standing → (puts : ℕ) → Entries
kept_held lists t standings puts i =
    option_map (λ e. record { value = option_map value_view e.value; covers = covers lists (held standings (memory_of t)) puts e.slot })
    (held_of standings (lookup (same_instance i) t.entries.entries))

-- the instances of the entries in these slots
abbrev pub instances_in : Memory → List ℕ → List (Instance ℕ)
instances_in m slots = flat_map (λ p. elim (m p) [ None ↦ [] | Some e ↦ e.instance ∷ [] ]) slots

-- the trace of an entry with that value
abbrev pub trace_of : (lists : Location ℕ → List Edge) → Memory → (slot : ℕ) → Info → Value ℕ → Trace
trace_of lists m s e v = record { value = v; reads = λ l. is_listed (edge_to s e) (lists l); uses = instances_in m e.links }

-- the trace of what is in the slot, where that is traced
abbrev pub trace_at : (lists : Location ℕ → List Edge) → List Standing → Memory → (slot : ℕ) → Option Trace
trace_at lists standings m s = option_and_then (λ e. if (standing_of standings s).traced then option_map (trace_of lists m s e) e.value else None) (m s)

-- the value that an entry was put with, where there was one
abbrev pub last_of : Option Entry → Option (Value ℕ)
last_of o = option_and_then (λ e. option_map value_view e.value) o

-- how many of these are kept
abbrev pub held_among : List Standing → ℕ
held_among [] = zero
held_among (s ∷ ss) = if s.holds then suc (held_among ss) else held_among ss

-- how many entries may be in memory where so many are kept: an eighth of these beside them, and some
abbrev pub most_beside : ℕ → ℕ
most_beside kept = kept + kept / 8 + 2048

-- what is remembered: the trace of an instance's entry, and its value; and where more is in memory than may be, an edit lets go of what
-- isn't kept
abbrev pub remembered : (lists : Location ℕ → List Edge) → Table → List Standing → Memories
remembered lists t standings = record {
  traced = λ i. option_and_then (λ e. trace_at lists standings (memory_of t) e.slot) (lookup (same_instance i) t.entries.entries);
  last = λ i. last_of (lookup (same_instance i) t.entries.entries);
  in_turns = false;
  count = table_len t;
  crowded = nat_lt (most_beside (held_among standings)) (table_len t);
}

-- whether an entry is in the slot p, and has an edge to the one in s
abbrev pub is_tied : Memory → ℕ → Info → ℕ → Bool
is_tied m s e p = elim (m p) [ None ↦ false | Some f ↦ is_listed (edge_to s e) f.users ]

-- Of all that is in memory: each entry that is kept or can be kept again is found from all entries that it used, by an edge of each; an
-- edge that has the number of the entry in its slot means that the entry used that one; and numbers are earlier ones.
pub record IsTied (lists : Location ℕ → List Edge) (puts : ℕ) (standings : List Standing) (m : Memory) : Type 0 where
  pub idle : (s : ℕ) (e : Info) → m s ≡ Some e → e.going ≡ false
  pub known : (s : ℕ) (e : Info) → m s ≡ Some e → e.stamp < puts
  pub used : (s : ℕ) (e : Info) → m s ≡ Some e → is_alive (standing_of standings s) ≡ true → (p : ℕ) → list_any (nat_eq p) e.links ≡ true
      → is_tied m s e p ≡ true
  pub uses : (p : ℕ) (f : Info) → m p ≡ Some f → (x : Edge) → is_listed x f.users ≡ true → (e : Info) → m x.slot ≡ Some e → e.stamp ≡ x.stamp
      → list_any (nat_eq p) e.links ≡ true
  pub past_readers : (l : Location ℕ) (x : Edge) → is_listed x (lists l) ≡ true → x.stamp < puts
  pub past_users : (p : ℕ) (f : Info) → m p ≡ Some f → (x : Edge) → is_listed x f.users ≡ true → x.stamp < puts

-- what is traced has a value
abbrev pub AreValued : List Standing → Memory → Type 0
AreValued standings m = (s : ℕ) (e : Info) → m s ≡ Some e → (standing_of standings s).traced ≡ true → is_some e.value ≡ true

-- what is kept of an instance has the value that it was put with last
pub last_is : (lists : Location ℕ → List Edge) (t : Table) (standings : List Standing) (puts : ℕ) (i : Instance ℕ) (v : Value ℕ)
    → value_at (kept_held lists t standings puts i) ≡ Some v → (remembered lists t standings).last i ≡ Some v
last_is lists t standings puts i v h = by (lookup (same_instance i) t.entries.entries) h
  where
    by_flag : (e : Entry) (b : Bool)
        → value_at (option_map (λ (e : Entry). let k : Kept = record {
          value = option_map value_view e.value;
          covers = covers lists (held standings (memory_of t)) puts e.slot;
        } in k) (if b then Some e else None)) ≡ Some v
        → option_map value_view e.value ≡ Some v
    by_flag e true h = h
    by_flag e false h = absurd (cc)

    by : (o : Option Entry)
        → value_at (option_map (λ (e : Entry). let k : Kept = record {
          value = option_map value_view e.value;
          covers = covers lists (held standings (memory_of t)) puts e.slot;
        } in k) (held_of standings o)) ≡ Some v
        → last_of o ≡ Some v
    by None h = absurd (cc)
    by (Some e) h = by_flag e (standing_of standings e.slot).holds h
