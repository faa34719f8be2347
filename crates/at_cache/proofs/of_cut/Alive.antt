-- The entries of which edges tell: those that are kept, or can be kept again.
use Rattle.at_cache.proofs.Common.{◌≡◌, ◌≤◌, inl, inr, ℕ, List, Bool, true, false, None, Some, nat_eq, if◌then◌else◌, refl, ap, ◌∙◌, subst, arith, none-some, Location, Edge, Standing, Info, Memory, Reads, Uses, is_current, reused, IsTied, alive, is_alive, standing_of, or_cases, or_left, or_right, edge_to}
use Rattle.at_cache.proofs.Users.{reused_from, current, told_of}

pub by_holding : (s : Standing) → s.holds ≡ true → is_alive s ≡ true
by_holding s on = or_left s.holds s.traced on

pub by_trace : (s : Standing) → s.traced ≡ true → is_alive s ≡ true
by_trace s on = or_right s.holds s.traced on

-- what stands so later stood so before
pub was_alive : (s t : Standing) → (t.holds ≡ true → s.holds ≡ true) → (t.traced ≡ true → s.traced ≡ true)
    → is_alive t ≡ true → is_alive s ≡ true
was_alive s t holds traced on = elim (or_cases t.holds t.traced on) [
  | inl h ↦ by_holding s (holds h)
  | inr h ↦ by_trace s (traced h)
]

module _ (st : List Standing) (m : Memory) (k : ℕ) (e : Info) where
  pub alive_on : m k ≡ Some e → is_alive (standing_of st k) ≡ true → alive st m k ≡ Some e
  alive_on there on = ap (λ b. if b then m k else None) on ∙ there

  pub tells_on : m k ≡ Some e → is_alive (standing_of st k) ≡ true → is_current (alive st m) (edge_to k e) ≡ true
  tells_on there on = current (alive st m) (edge_to k e) e (alive_on there on) refl

  pub alive_from : alive st m k ≡ Some e → (m k ≡ Some e) × (is_alive (standing_of st k) ≡ true)
  alive_from h = by (is_alive (standing_of st k)) refl h
    where
      by : (b : Bool) → is_alive (standing_of st k) ≡ b → (if b then m k else None) ≡ Some e
          → (m k ≡ Some e) × (is_alive (standing_of st k) ≡ true)
      by true on h = (h, on)
      by false off h = absurd (none-some e h)

-- an edge tells of nothing else
module _ (st : List Standing) (m : Memory) (x : Edge) where
  abbrev tells_if : Bool → Bool
  tells_if b = elim (if b then m x.slot else None) as (λ _. Bool) [ None ↦ false | Some e ↦ nat_eq e.stamp x.stamp ]

  pub not_told : is_alive (standing_of st x.slot) ≡ false → is_current (alive st m) x ≡ false
  not_told off = ap tells_if off

  pub told_as : is_alive (standing_of st x.slot) ≡ true → is_current (alive st m) x ≡ is_current m x
  told_as on = ap tells_if on

-- they are told of still where one has other users, and where several have
pub told_reused : (st : List Standing) (s : ℕ) (us : List Edge) (m mid : Memory) → ((k : ℕ) → mid k ≡ reused s us m k)
    → (y : Edge) → is_current (alive st m) y ≡ true → is_current (alive st mid) y ≡ true
told_reused st s us m mid is y h =
    let (e, told, stamp) = told_of (alive st m) y h in
    let (there, on) = alive_from st m y.slot e told in
    let (f, found, same) = reused_from s us m mid is y.slot e there in
    current (alive st mid) y f (alive_on st mid y.slot f found on) (same ∙ stamp)

pub told_uses : {told : Memory} {x : Edge} {slots : List ℕ} (st ts : List Standing) (m mid : Memory) → ts ≡ st
    → Uses told x slots m mid → (y : Edge) → is_current (alive st m) y ≡ true → is_current (alive ts mid) y ≡ true
told_uses st ts m mid same u y h =
    let (e, told, stamp) = told_of (alive st m) y h in
    let (there, on) = alive_from st m y.slot e told in
    let (f, found, is) = u.there y.slot e there in
    current (alive ts mid) y f (alive_on ts mid y.slot f found (ap (λ ss. is_alive (standing_of ss y.slot)) same ∙ on))
    (ap (λ (i : Info). i.stamp) is ∙ stamp)

-- by standings that are the same
module _ (st ts : List Standing) (same : (k : ℕ) → standing_of ts k ≡ standing_of st k) (m : Memory) where
  alive_alike : alive ts m ≡ alive st m
  alive_alike n k = if is_alive (same k n) then m k else None

  pub reads_stand : {L : Type 0} {x : Edge} {reads : List L} {lists later : L → List Edge} → Reads (is_current (alive ts m)) x reads lists later
      → Reads (is_current (alive st m)) x reads lists later
  reads_stand {L} {x} {reads} {lists} {later} r = subst (λ told. Reads (is_current told) x reads lists later) alive_alike r

  pub uses_stand : {x : Edge} {slots : List ℕ} {old new : Memory} → Uses (alive ts m) x slots old new → Uses (alive st m) x slots old new
  uses_stand {x} {slots} {old} {new} u = subst (λ told. Uses told x slots old new) alive_alike u

-- all is found as before where no more stands so
pub tied_on : {lists : Location ℕ → List Edge} {puts : ℕ} {st : List Standing} {m : Memory} (next : ℕ) (ts : List Standing) → puts ≤ next
    → ((k : ℕ) (e : Info) → m k ≡ Some e → is_alive (standing_of ts k) ≡ true → is_alive (standing_of st k) ≡ true)
    → IsTied lists puts st m → IsTied lists next ts m
tied_on next ts less fewer tied = record {
  idle = tied.idle;
  known = λ s e there. let past = tied.known s e there in omega (arith, past, less);
  used = λ s e there on. tied.used s e there (fewer s e there on);
  uses = tied.uses;
  past_readers = λ l x h. let past = tied.past_readers l x h in omega (arith, past, less);
  past_users = λ p f there x h. let past = tied.past_users p f there x h in omega (arith, past, less);
}
