-- One entry is changed, and keeps its slot: by tests, and as a memory.
use Rattle.at_cache.proofs.Common.{◌≡◌, ◌⊎◌, inl, inr, ℕ, ◌<◌, List, [], ◌∷◌, Bool, true, false, cond, zero, suc, Option, None, Some, IsSome, option_map, nat_eq, if◌then◌else◌, length, slice_get, refl, sym, ap, ◌∙◌, subst, IfSome, cases_eq, eq-eqb, ne_eqb, none-some, same_Some, lookup, get, set_value_at, length-set_value_at, Instance, same_instance, Edge, Entry, Mark, Table, HaveCome, doomed, HasMark, edges_in, Info, Memory, info, is_going, next_of, IsPlaced, at, Enters, HasWritten, with_mark, slice_get_within}
use Rattle.at_cache.proofs.Came.{come_on}
use Rattle.at_cache.proofs.Moving.{at_changed, at_none, at_slot, at_some, placed, table_by, table_changed, apart_changed}

absent_set : (test : Instance ℕ → Bool) (es : List (Instance ℕ × Entry)) (p : ℕ) (w : Entry) → lookup test es ≡ None → lookup test (set_value_at es p w) ≡ None
absent_set test [] p w h = refl
absent_set test (e ∷ es) zero w h = by (test e.0) h
  where
    by : (b : Bool) → cond b (Some e.1) (lookup test es) ≡ None → cond b (Some w) (lookup test es) ≡ None
    by true k = absurd (none-some e.1 (sym k))
    by false k = k
absent_set test (e ∷ es) (suc p) w h = by (test e.0) h (absent_set test es p w)
  where
    by : (b : Bool) → cond b (Some e.1) (lookup test es) ≡ None → (lookup test es ≡ None → lookup test (set_value_at es p w) ≡ None) → cond b (Some e.1) (lookup test (set_value_at es p w)) ≡ None
    by true k on = absurd (none-some e.1 (sym k))
    by false k on = on k

module _ (es : List (Instance ℕ × Entry)) (slots : ℕ → Option ℕ) (slot p : ℕ) (is : IsPlaced es slots) (was : slots slot ≡ Some p) where
  pub place_within : p < length es
  place_within = let (e, there, of_slot) = (table_by is).from slot p was in slice_get_within es p e there

  module _ (fs : List (Instance ℕ × Entry)) (f : Entry → Entry) (keeps : (e : Entry) → (f e).slot ≡ e.slot) (written : HasWritten f p es fs) where
    fs_is : (e : Instance ℕ × Entry) → slice_get es p ≡ Some e → fs ≡ set_value_at es p (f e.1)
    fs_is e there = written e there

    pub placed_changed : IsPlaced fs slots
    placed_changed = let (e, there, of_slot) = (table_by is).from slot p was in
        subst (λ gs. IsPlaced gs slots) (sym (fs_is e there)) (placed (table_changed es slots slot p e (f e.1) (table_by is) was there (keeps e.1)) (apart_changed es p e (f e.1) there is.apart))

    pub absent_changed : (i : Instance ℕ) → lookup (same_instance i) es ≡ None → lookup (same_instance i) fs ≡ None
    absent_changed i h = let (e, there, of_slot) = (table_by is).from slot p was in ap (lookup (same_instance i)) (fs_is e there) ∙ absent_set (same_instance i) es p (f e.1) h

    pub length_changed : length fs ≡ length es
    length_changed = let (e, there, of_slot) = (table_by is).from slot p was in ap length (fs_is e there) ∙ length-set_value_at es p (f e.1)

    pub memory_changed : (g : Info → Info) → ((e : Instance ℕ × Entry) → info (e.0, f e.1) ≡ g (info e)) → (k : ℕ) → option_map info (at fs slots k) ≡ (if nat_eq k slot then option_map g (option_map info (at es slots k)) else option_map info (at es slots k))
    memory_changed g same k =
        let (e, there, of_slot) = (table_by is).from slot p was in
        let now = at_changed es slots slot p e (f e.1) (table_by is) was there (keeps e.1) k in
        let here = at_slot es slots slot p e (f e.1) (table_by is) was there (keeps e.1) in
        ap (λ gs. option_map info (at gs slots k)) (fs_is e there) ∙ ap (option_map info) now ∙ by e here (cases_eq k slot)
      where
        by : (e : Instance ℕ × Entry) → at es slots slot ≡ Some e → (k ≡ slot) ⊎ (k ≡ slot → ⊥) → option_map info (if nat_eq k slot then Some (e.0, f e.1) else at es slots k) ≡ (if nat_eq k slot then option_map g (option_map info (at es slots k)) else option_map info (at es slots k))
        by e here (inl at_k) =
            ap (λ b. option_map info (if b then Some (e.0, f e.1) else at es slots k)) (eq-eqb k slot at_k)
            ∙ ap Some (same e)
            ∙ ap (λ o. option_map g (option_map info o)) (sym here ∙ ap (at es slots) (sym at_k))
            ∙ sym (ap (λ b. if b then option_map g (option_map info (at es slots k)) else option_map info (at es slots k)) (eq-eqb k slot at_k))
        by e here (inr differs) =
            ap (λ b. option_map info (if b then Some (e.0, f e.1) else at es slots k)) (ne_eqb k slot differs)
            ∙ sym (ap (λ b. if b then option_map g (option_map info (at es slots k)) else option_map info (at es slots k)) (ne_eqb k slot differs))

-- where that is done in a table, each entry has its slot still, and none came
pub still : (t : Table) (slot p : ℕ) → get t.places slot ≡ Some p → (fs : List (Instance ℕ × Entry)) (f : Entry → Entry)
    → ((e : Entry) → (f e).slot ≡ e.slot) → HasWritten f p t.entries.entries fs
    → IsPlaced fs (get t.places) × HaveCome fs t.attributes.items
still t slot p was fs f keeps written =
    let es = t.entries.entries in
    let slots = get t.places in (
      placed_changed es slots slot p t.placed was fs f keeps written,
      come_on es fs t.attributes.items (absent_changed es slots slot p t.placed was fs f keeps written) t.come,
    )

-- a mark that tells of what goes
pub marked : (mark : Mark) (first : Option ℕ) → is_going mark ≡ true → next_of mark ≡ first → (e : Instance ℕ × Entry) → info (e.0, with_mark mark e.1) ≡ doomed first (info e)
marked mark first going next e = ap (λ (b : Bool). record (info e) { going = b; next = next_of mark }) going ∙ ap (λ (n : Option ℕ). record (info e) { going = true; next = n }) next

-- a slot that holds an entry is taken
pub taken_slot : (es : List (Instance ℕ × Entry)) (slots : ℕ → Option ℕ) (slot : ℕ) → IsSome (option_map info (at es slots slot)) → slots slot ≡ None → ⊥
taken_slot es slots slot some none = no_none (option_map info (at es slots slot)) some (ap (option_map info) (at_none es slots slot none))
  where
    no_none : (o : Option Info) → IsSome o → o ≡ None → ⊥
    no_none None h is = cc
    no_none (Some i) h is = none-some i (sym is)

-- one entry less, one more, and none in the next slot
pub users_there : (es : List (Instance ℕ × Entry)) (slots : ℕ → Option ℕ) (slot p : ℕ) (us : List Edge) → slots slot ≡ Some p → option_map (λ (e : Instance ℕ × Entry). (edges_in e.1.users)) (slice_get es p) ≡ Some us → us ≡ (elim (option_map info (at es slots slot)) as (λ _. List Edge) [ None ↦ [] | Some e ↦ e.users ])
users_there es slots slot p us was h = by (slice_get es p) h ∙ ap users_in (sym (at_some es slots slot p was))
  where
    users_in : Option (Instance ℕ × Entry) → List Edge
    users_in o = elim (option_map info o) as (λ _. List Edge) [ None ↦ [] | Some e ↦ e.users ]

    by : (o : Option (Instance ℕ × Entry)) → option_map (λ (e : Instance ℕ × Entry). (edges_in e.1.users)) o ≡ Some us → us ≡ users_in o
    by None h = absurd (none-some us h)
    by (Some e) h = sym (same_Some (edges_in e.1.users) us h)

pub mark_there : (es : List (Instance ℕ × Entry)) (slots : ℕ → Option ℕ) (slot p : ℕ) (mark : Mark) → slots slot ≡ Some p → option_map (λ (e : Instance ℕ × Entry). e.1.mark) (slice_get es p) ≡ Some mark → HasMark (option_map info (at es slots slot)) mark
mark_there es slots slot p mark was h = subst (λ o. HasMark (option_map info o) mark) (sym (at_some es slots slot p was)) (by (slice_get es p) h)
  where
    by : (o : Option (Instance ℕ × Entry)) → option_map (λ (e : Instance ℕ × Entry). e.1.mark) o ≡ Some mark → HasMark (option_map info o) mark
    by None h = absurd (none-some mark h)
    by (Some e) h = let same : e.1.mark ≡ mark = same_Some e.1.mark mark h in (info e, refl, ap is_going same, ap next_of same)

pub free_slot : (es : List (Instance ℕ × Entry)) (slots : ℕ → Option ℕ) (slot : ℕ) → slots slot ≡ None → option_map info (at es slots slot) ≡ None
free_slot es slots slot none = ap (option_map info) (at_none es slots slot none)

-- nothing is written where no entry is
pub unwritten : (m : Memory) (slot : ℕ) (f : Info → Info) → m slot ≡ None → (k : ℕ) → m k ≡ (if nat_eq k slot then option_map f (m k) else m k)
unwritten m slot f none k = elim (cases_eq k slot) [
  | inl same ↦ let gone : m k ≡ None = ap m same ∙ none in gone ∙ sym (ap (λ b. if b then option_map f (m k) else m k) (eq-eqb k slot same) ∙ ap (option_map f) gone)
  | inr differs ↦ sym (ap (λ b. if b then option_map f (m k) else m k) (ne_eqb k slot differs))
]

pub value_taken : (o : Option (Instance ℕ × Entry)) (r : Option Entry) → r ≡ option_map (λ e. e.1) o → IfSome r (λ e. (i : Instance ℕ) × (option_map info o ≡ Some (info (i, e))))
value_taken None r h = subst (λ q. IfSome q (λ e. (i : Instance ℕ) × (None ≡ Some (info (i, e))))) (sym h) tt
value_taken (Some e) r h = subst (λ q. IfSome q (λ f. (i : Instance ℕ) × (Some (info e) ≡ Some (info (i, f))))) (sym h) (e.0, refl)

pub memory_entered : (slot : ℕ) (e : Instance ℕ × Entry) (old new : ℕ → Option (Instance ℕ × Entry)) → ((k : ℕ) → new k ≡ (if nat_eq k slot then Some e else old k)) → (option_map info (new slot) ≡ Some (info e)) × ((k : ℕ) → (k ≡ slot → ⊥) → option_map info (new k) ≡ option_map info (old k))
memory_entered slot e old new h = (
  ap (option_map info) (h slot ∙ ap (λ b. if b then Some e else old slot) (eq-eqb slot slot refl)),
  λ k differs. ap (option_map info) (h k ∙ ap (λ b. if b then Some e else old k) (ne_eqb k slot differs)),
)

pub entered_at : {m n : Memory} {slot key : ℕ} {e : Info} → slot ≡ key → Enters m key e n → Enters m slot e n
entered_at {m} {n} {e = e} same h = subst (λ s. Enters m s e n) (sym same) h
