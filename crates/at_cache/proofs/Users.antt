-- The users of entries, of which one has an edge more.
use Rattle.at_cache.proofs.Common.{◌≡◌, inl, inr, ℕ, List, [], ◌∷◌, ◌++◌, Bool, true, false, Option, None, Some, nat_eq, Contains, option_map, if◌then◌else◌, refl, sym, ap, ◌∙◌, subst, take, IsSome, is_some, eqb-true, cases_eq, eq-eqb, ne_eqb, none-some, same_Some, Location, Edge, is_listed, Lists, Reads, agree, has, is_in, lists_moved, lists_same, reads_all, reads_more, reads_none, Info, Memory, Uses, is_current, reused, users_at, with_users, edge_to}

-- what is there with other users was there
pub back : {told m mid : Memory} {x : Edge} {slots : List ℕ} → Uses told x slots m mid → (k : ℕ) (f : Info)
    → mid k ≡ Some f → (e : Info) × (m k ≡ Some e) × (f ≡ with_users f.users e)
back {told} {m} {mid} u k f found = by (m k) refl
  where
    by : (o : Option Info) → m k ≡ o → (e : Info) × (m k ≡ Some e) × (f ≡ with_users f.users e)
    by None none = absurd (none-some f (sym (u.free k none) ∙ found))
    by (Some e) there =
        let (g, had, is) = u.there k e there in
        (e, there, subst (λ (n : Info). n ≡ with_users n.users e) (same_Some g f (sym had ∙ found)) is)

-- an entry that is told of has the edges that it had, where what comes has another number
pub listed_still : {tells : Edge → Bool} {x : Edge} {reads : List (Location ℕ)} {lists later : Location ℕ → List Edge}
    → Reads tells x reads lists later → (k : ℕ) (g : Info) → tells (edge_to k g) ≡ true → (g.stamp ≡ x.stamp → ⊥) → (l : Location ℕ)
    → is_listed (edge_to k g) (later l) ≡ is_listed (edge_to k g) (lists l)
listed_still {lists = lists} {later = later} r k g live differs l =
    agree _ _ (λ h. has (lists l) (edge_to k g) (was (is_in (later l) (edge_to k g) h)))
    (λ h. has (later l) (edge_to k g) (r.keeps l (edge_to k g) (is_in (lists l) (edge_to k g) h) live))
  where
    was : Contains (later l) (edge_to k g) → Contains (lists l) (edge_to k g)
    was d = elim (r.only l (edge_to k g) d) [
      | inl old ↦ old
      | inr (one, at_l) ↦ absurd (differs (ap (λ (z : Edge). z.stamp) one))
    ]

pub current : (m : Memory) (y : Edge) (e : Info) → m y.slot ≡ Some e → e.stamp ≡ y.stamp → is_current m y ≡ true
current m y e there same = ap (λ (o : Option Info). elim o as (λ _. Bool) [ None ↦ false | Some e ↦ nat_eq e.stamp y.stamp ]) there ∙ eq-eqb e.stamp y.stamp same

-- other users of one entry
pub reused_here : (s : ℕ) (us : List Edge) (m : Memory) → reused s us m s ≡ option_map (with_users us) (m s)
reused_here s us m = ap (λ b. if b then option_map (with_users us) (m s) else m s) (eq-eqb s s refl)

pub reused_there : (s : ℕ) (us : List Edge) (m : Memory) (k : ℕ) → (k ≡ s → ⊥) → reused s us m k ≡ m k
reused_there s us m k differs = ap (λ b. if b then option_map (with_users us) (m k) else m k) (ne_eqb k s differs)

over : (us vs : List Edge) (o : Option Info) → option_map (with_users us) (option_map (with_users vs) o) ≡ option_map (with_users us) o
over us vs None = refl
over us vs (Some e) = refl

pub reused_twice : (s : ℕ) (us vs : List Edge) (m mid : Memory) → ((k : ℕ) → mid k ≡ reused s vs m k) → (k : ℕ) → reused s us mid k ≡ reused s us m k
reused_twice s us vs m mid is k = elim (cases_eq k s) [
  | inl same ↦ ap (reused s us mid) same ∙ reused_here s us mid ∙ ap (option_map (with_users us)) (is s ∙ reused_here s vs m) ∙ over us vs (m s) ∙ sym (reused_here s us m) ∙ ap (reused s us m) (sym same)
  | inr differs ↦ reused_there s us mid k differs ∙ is k ∙ reused_there s vs m k differs ∙ sym (reused_there s us m k differs)
]

-- the same entries are there
pub reused_from : (s : ℕ) (us : List Edge) (m mid : Memory) → ((k : ℕ) → mid k ≡ reused s us m k) → (k : ℕ) (e : Info) → m k ≡ Some e → (f : Info) × (mid k ≡ Some f) × (f.stamp ≡ e.stamp)
reused_from s us m mid is k e there = elim (cases_eq k s) [
  | inl same ↦ (with_users us e, ap mid same ∙ is s ∙ reused_here s us m ∙ ap (option_map (with_users us)) (ap m (sym same) ∙ there), refl)
  | inr differs ↦ (e, is k ∙ reused_there s us m k differs ∙ there, refl)
]

-- an edge that tells of an entry
pub told_of : (m : Memory) (y : Edge) → is_current m y ≡ true → (e : Info) × (m y.slot ≡ Some e) × (e.stamp ≡ y.stamp)
told_of m y h = by (m y.slot) refl h
  where
    by : (o : Option Info) → m y.slot ≡ o → elim o as (λ _. Bool) [ None ↦ false | Some e ↦ nat_eq e.stamp y.stamp ] ≡ true
        → (e : Info) × (m y.slot ≡ Some e) × (e.stamp ≡ y.stamp)
    by None none on = absurd (cc)
    by (Some e) there on = (e, there, eqb-true e.stamp y.stamp on)

-- no slot yet
pub uses_none : (told : Memory) (x : Edge) (m : Memory) → Uses told x [] m m
uses_none told x m = record { there = λ k e h. (e, h, refl); free = λ k h. h; users = reads_none (is_current told) x (users_at m) }

pub uses_all : {told : Memory} {x : Edge} {old new : Memory} (n : ℕ) (ss : List ℕ) → Uses told x (take n ss) old new → Uses told x ss old new
uses_all n ss u = record { there = u.there; free = u.free; users = reads_all n ss u.users }

pub users_of : (m : Memory) (k : ℕ) (e : Info) → m k ≡ Some e → users_at m k ≡ e.users
users_of m k e h = ap (λ (o : Option Info). elim o as (λ _. List Edge) [ None ↦ [] | Some e ↦ e.users ]) h

same_users : (m n : Memory) (k : ℕ) → n k ≡ m k → users_at n k ≡ users_at m k
same_users m n k h = ap (λ (o : Option Info). elim o as (λ _. List Edge) [ None ↦ [] | Some e ↦ e.users ]) h

pub from_kept : (m : Memory) (k : ℕ) → IsSome (m k) → (e : Info) × (m k ≡ Some e)
from_kept m k some = by (m k) some
  where
    by : (o : Option Info) → IsSome o → (e : Info) × (o ≡ Some e)
    by None h = absurd (cc)
    by (Some e) h = (e, refl)

-- one slot more
module _ {told : Memory} {now : Edge → Bool} {x : Edge} {old mid new : Memory} {ss : List ℕ} (s : ℕ) (on : (y : Edge) → is_current told y ≡ true → now y ≡ true) (u : Uses told x ss old mid)
    (users : List Edge) (some : IsSome (mid s)) (written : (k : ℕ) → new k ≡ reused s users mid k) (lists : Lists now x (users_at mid s) users) where
  other : (k : ℕ) → (k ≡ s → ⊥) → new k ≡ mid k
  other k differs = written k ∙ reused_there s users mid k differs

  here : (e : Info) → mid s ≡ Some e → new s ≡ Some (with_users users e)
  here e h = written s ∙ reused_here s users mid ∙ ap (option_map (with_users users)) h

  pub users_here : users_at new s ≡ users
  users_here = let (e, h) = from_kept mid s some in users_of new s (with_users users e) (here e h)

  pub users_other : (k : ℕ) → (k ≡ s → ⊥) → users_at new k ≡ users_at mid k
  users_other k differs = same_users mid new k (other k differs)

  listed_from : (k : ℕ) → Lists (is_current told) x (users_at mid k) (users_at new k)
  listed_from k = elim (cases_eq k s) [
    | inl at_s ↦ subst (λ n. Lists (is_current told) x (users_at mid n) (users_at new n)) (sym at_s)
        (subst (Lists (is_current told) x (users_at mid s)) (sym users_here) (lists_moved on refl lists))
    | inr differs ↦ lists_same (users_other k differs)
  ]

  pub uses_more : Uses told x (ss ++ s ∷ []) old new
  uses_more = record {
    there = λ k e h. let (f, found, is) = u.there k e h in elim (cases_eq k s) [
      | inl at_s ↦ (with_users users f, ap new at_s ∙ here f (ap mid (sym at_s) ∙ found), ap (with_users users) is)
      | inr differs ↦ (f, other k differs ∙ found, is)
    ];
    free = λ k h. elim (cases_eq k s) [
      | inl at_s ↦ let (e, there) = from_kept mid s some in absurd (none-some e (sym (u.free s (ap old (sym at_s) ∙ h)) ∙ there))
      | inr differs ↦ other k differs ∙ u.free k h
    ];
    users = reads_more cases_eq s u.users listed_from users_other;
  }

pub still_kept : {told : Memory} {x : Edge} {old new : Memory} {ss : List ℕ} → Uses told x ss old new → (k : ℕ) → IsSome (old k) → IsSome (new k)
still_kept {old = old} {new = new} u k some = let (e, h) = from_kept old k some in let (f, found, is) = u.there k e h in ap is_some found

pub still_there : (s : ℕ) (us : List Edge) (m mid : Memory) → IsSome (m s) → ((k : ℕ) → mid k ≡ reused s us m k) → IsSome (mid s)
still_there s us m mid some is = let (e, there) = from_kept m s some in let (f, found, same) = reused_from s us m mid is s e there in ap is_some found
