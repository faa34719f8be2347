-- The memory in which entries are linked anew, and those are gone that don't stay.
use Rattle.at_evict.proofs.Common.{◌≡◌, inl, inr, ℕ, ◌<◌, ◌≤◌, ◌+◌, List, [], Bool, true, false, nat_eq, length, Option, None, Some, true≢false, is_some, IfNone, OnSome, option_map, if◌then◌else◌, Contains, get_or, slice_get, refl, sym, ap, ◌∙◌, subst, arith, cases_eq, cases_lt, eq-eqb, ne_eqb, none-some, same_Some, Edge, AreAlone, AreOrdered, AreTaken, IsRelinked, Linked, Refolded, Relinks, RelinksAt, RemovesAt, Stays, Info, Memory, is_current, reused, users_at, with_users, relinked, got, none_in}
use Rattle.at_cache.proofs.Came.{none_by}
use Rattle.at_evict.proofs.of_folding.Gathering.{refolded_alone}

-- what is written at one slot
at_slot : (k s : ℕ) (a b : Option Info) → k ≡ s → (if nat_eq k s then a else b) ≡ a
at_slot k s a b same = ap (λ t. if t then a else b) (eq-eqb k s same)

off_slot : (k s : ℕ) (a b : Option Info) → (k ≡ s → ⊥) → (if nat_eq k s then a else b) ≡ b
off_slot k s a b differs = ap (λ t. if t then a else b) (ne_eqb k s differs)

-- whether an edge tells of an entry rests on the stamps alone
abbrev stamp_at : Option Info → Option ℕ
stamp_at o = option_map (λ (e : Info). e.stamp) o

current_by : (m n : Memory) → ((k : ℕ) → stamp_at (n k) ≡ stamp_at (m k)) → (x : Edge) → is_current n x ≡ is_current m x
current_by m n same x = seen n ∙ ap (λ o. elim o as (λ _. Bool) [ None ↦ false | Some t ↦ nat_eq t x.stamp ]) (same x.slot) ∙ sym (seen m)
  where
    seen : (m : Memory) → is_current m x ≡ elim (stamp_at (m x.slot)) [ None ↦ false | Some t ↦ nat_eq t x.stamp ]
    seen m = by (m x.slot)
      where
        by : (o : Option Info) → (elim o as (λ _. Bool) [ None ↦ false | Some e ↦ nat_eq e.stamp x.stamp ]) ≡ elim (stamp_at o) [ None ↦ false | Some t ↦ nat_eq t x.stamp ]
        by None = refl
        by (Some e) = refl

-- an entry that is taken its users is there still
pub current_taken : (slot : ℕ) (m mid : Memory) → ((k : ℕ) → mid k ≡ reused slot [] m k) → is_current mid ≡ is_current m
current_taken slot m mid taken = λ i x. current_by m mid stamps x i
  where
    stamps : (k : ℕ) → stamp_at (mid k) ≡ stamp_at (m k)
    stamps k = ap stamp_at (taken k) ∙ by (nat_eq k slot) (m k)
      where
        by : (t : Bool) (o : Option Info) → stamp_at (if t then option_map (with_users []) o else o) ≡ stamp_at o
        by true None = refl
        by true (Some e) = refl
        by false o = refl

-- an entry that has no more to get, and is used by such as stay by themselves
pub relinks_settled : (into : ℕ → List ℕ) (links : List ℕ) (slot : ℕ) (m : Memory) (e : Info) → links ≡ [] → m slot ≡ Some e → ((p : ℕ) → Contains e.links p → Stays into p)
    → AreAlone (is_current m) into e.users → IsRelinked (is_current m) into links (m slot) (m slot)
relinks_settled into links slot m e none there stay alone = subst (λ o. IsRelinked (is_current m) into links o o) (sym there) (
  e,
  refl,
  record { instance = refl; value = refl; stamp = refl; since = refl; going = refl },
  record { kept = λ p c. absurd (none_in p (subst (λ ls. Contains ls p) none c)); has = λ p c s. c; from = λ p c. inr (stay p c, c) },
  refolded_alone m into e.users alone,
)

module _ {into : ℕ → List ℕ} where
  pub relinks_nothing : (links : List ℕ) (slot : ℕ) (m : Memory) → (Stays into slot → ⊥) → RelinksAt into links slot m m
  relinks_nothing links slot m goes = record { here = λ s. absurd (goes s); others = λ k differs. refl; current = λ x. refl }

  pub relinks_none : (links : List ℕ) (slot : ℕ) (m : Memory) → is_some (m slot) ≡ false → RelinksAt into links slot m m
  relinks_none links slot m none = record {
    here = λ s. let gone = none_by (m slot) none in subst (λ o. IsRelinked (is_current m) into links o (m slot)) (sym gone) gone;
    others = λ k differs. refl;
    current = λ x. refl;
  }

  pub relinks_same : (links : List ℕ) (slot : ℕ) (m : Memory) → IsRelinked (is_current m) into links (m slot) (m slot) → RelinksAt into links slot m m
  relinks_same links slot m same = record { here = λ s. same; others = λ k differs. refl; current = λ x. refl }

  -- an entry is taken its users, and gets others and these links
  pub relinks_one : (links list : List ℕ) (slot : ℕ) (m mid new : Memory) (users later : List Edge) → ((k : ℕ) → mid k ≡ reused slot [] m k) → users ≡ users_at m slot
      → Refolded (is_current mid) into users later → ((k : ℕ) → new k ≡ (if nat_eq k slot then option_map (relinked list later) (mid k) else mid k))
      → ((e : Info) → m slot ≡ Some e → Linked into e.links links list) → RelinksAt into links slot m new
  relinks_one links list slot m mid new users later taken were lists written own = record {
    here = λ s. by (m slot) refl;
    others = λ k differs. written k ∙ off_slot k slot _ _ differs ∙ taken k ∙ off_slot k slot _ _ differs;
    current = λ x. current_by mid new stamps_new x ∙ ap (λ t. t x) same;
  }
    where
      stamps_new : (k : ℕ) → stamp_at (new k) ≡ stamp_at (mid k)
      stamps_new k = ap stamp_at (written k) ∙ by (nat_eq k slot) (mid k)
        where
          by : (t : Bool) (o : Option Info) → stamp_at (if t then option_map (relinked list later) o else o) ≡ stamp_at o
          by true None = refl
          by true (Some e) = refl
          by false o = refl

      same : is_current mid ≡ is_current m
      same = current_taken slot m mid taken

      new_is : (o : Option Info) → m slot ≡ o → new slot ≡ option_map (relinked list later) (option_map (with_users []) o)
      new_is o is = written slot ∙ at_slot slot slot _ _ refl ∙ ap (option_map (relinked list later)) (taken slot ∙ at_slot slot slot _ _ refl ∙ ap (option_map (with_users [])) is)

      by : (o : Option Info) → m slot ≡ o → IsRelinked (is_current m) into links o (new slot)
      by None is = new_is None is
      by (Some e) is = (
        relinked list later e,
        new_is (Some e) is,
        record { instance = refl; value = refl; stamp = refl; since = refl; going = refl },
        own e is,
        subst (λ us. Refolded (is_current m) into us later) (were ∙ ap (λ (o : Option Info). elim o [ None ↦ [] | Some f ↦ f.users ]) is) (subst (λ t. Refolded t into users later) same lists),
      )

-- The entries in the first ones of these slots are linked anew.
pub record RelinksBelow (into links : ℕ → List ℕ) (slots : List ℕ) (n : ℕ) (old new : Memory) : Type 0 where
  pub done : (i k : ℕ) → i < n → slice_get slots i ≡ Some k → Stays into k → IsRelinked (is_current old) into (links k) (old k) (new k)
  pub todo : (k : ℕ) → ((i : ℕ) → i < n → slice_get slots i ≡ Some k → ⊥) → new k ≡ old k
  pub current : (x : Edge) → is_current new x ≡ is_current old x

-- where edges tell of the same there are no other entries
no_more : (old new : Memory) → ((x : Edge) → is_current new x ≡ is_current old x) → (k : ℕ) → old k ≡ None → new k ≡ None
no_more old new current k none = by (new k) refl
  where
    by : (o : Option Info) → new k ≡ o → new k ≡ None
    by None is = is
    by (Some f) is =
        let told : is_current new (record { slot = k; stamp = f.stamp }) ≡ true =
        ap (λ o. elim o as (λ _. Bool) [ None ↦ false | Some e ↦ nat_eq e.stamp f.stamp ]) is ∙ eq-eqb f.stamp f.stamp refl in
        let gone : is_current old (record { slot = k; stamp = f.stamp }) ≡ false =
        ap (λ o. elim o as (λ _. Bool) [ None ↦ false | Some e ↦ nat_eq e.stamp f.stamp ]) none in
        absurd (true≢false (sym told ∙ current (record { slot = k; stamp = f.stamp }) ∙ gone))

module _ {into links : ℕ → List ℕ} (slots : List ℕ) where
  pub relinks_start : (m : Memory) → RelinksBelow into links slots 0 m m
  relinks_start m = record { done = λ i k less. absurd (omega (arith, less)); todo = λ k none. refl; current = λ x. refl }

  pub relinks_more : (places : ℕ → Option ℕ) (n d : ℕ) (m mid new : Memory) → n < length slots → AreOrdered places slots → RelinksBelow into links slots n m mid
      → RelinksAt into (links (get_or slots n d)) (get_or slots n d) mid new → RelinksBelow into links slots (n + 1) m new
  relinks_more places n d m mid new less ordered a b = record {
    done = λ i k under is stays. elim (cases_eq i n) [
      | inl same ↦
          let one : k ≡ slot = same_Some k slot (sym is ∙ ap (slice_get slots) same ∙ found) in
          subst (λ j. IsRelinked (is_current m) into (links j) (m j) (new j)) (sym one) (here (subst (Stays into) one stays))
      | inr differs ↦
          subst (IsRelinked (is_current m) into (links k) (m k)) (sym (b.others k (λ one. differs (once i n slot (is ∙ ap Some one) found))))
          (a.done i k (below i under differs) is stays)
    ];
    todo = λ k none. b.others k (λ one. none n (omega arith) (found ∙ ap Some (sym one))) ∙ a.todo k (λ i under. none i (omega (arith, under)));
    current = λ x. b.current x ∙ a.current x;
  }
    where
      slot : ℕ
      slot = get_or slots n d

      found : slice_get slots n ≡ Some slot
      found = got slots n d less

      currents : is_current mid ≡ is_current m
      currents = λ i x. a.current x i

      once : (i j s : ℕ) → slice_get slots i ≡ Some s → slice_get slots j ≡ Some s → i ≡ j
      once i j s x y = same_Some i j (sym (ordered i s x) ∙ ordered j s y)

      new_one : (i : ℕ) → i < n → slice_get slots i ≡ Some slot → ⊥
      new_one i under is = let same = once i n slot is found in absurd (omega (arith, under, same))

      here : Stays into slot → IsRelinked (is_current m) into (links slot) (m slot) (new slot)
      here stays = subst (λ t. IsRelinked t into (links slot) (m slot) (new slot)) currents
          (subst (λ o. IsRelinked (is_current mid) into (links slot) o (new slot)) (a.todo slot new_one) (b.here stays))

      below : (k : ℕ) → k < n + 1 → (k ≡ n → ⊥) → k < n
      below k under differs = elim (cases_lt k n) [ inl is ↦ is | inr over ↦ absurd (differs (omega (arith, under, over))) ]

  pub relinks_end : (n : ℕ) (old new : Memory) → length slots ≤ n → AreTaken old slots → RelinksBelow into links slots n old new → Relinks into links old new
  relinks_end n old new all taken a k stays = by (old k) refl
    where
      by : (o : Option Info) → old k ≡ o → IsRelinked (is_current old) into (links k) (old k) (new k)
      by None none = subst (λ o. IsRelinked (is_current old) into (links k) o (new k)) (sym none) (no_more old new a.current k none)
      by (Some e) is = let (i, less, at) = taken k e is in a.done i k (omega (arith, less, all)) (got slots i k less ∙ ap Some at) stays

  pub relinks_taken : (n : ℕ) (old new : Memory) → AreTaken old slots → RelinksBelow into links slots n old new → AreTaken new slots
  relinks_taken n old new taken a s f there = by (old s) refl
    where
      by : (o : Option Info) → old s ≡ o → Contains slots s
      by None none = absurd (none-some f (sym (no_more old new a.current s none) ∙ there))
      by (Some e) is = taken s e is

module _ {into : ℕ → List ℕ} where
  pub removes_nothing : (slot : ℕ) (m : Memory) → Stays into slot → RemovesAt into slot m m
  removes_nothing slot m stays = record { stays = λ s. refl; gone = λ f h. stays; others = λ k differs. refl }

  pub removes_none : (slot : ℕ) (m : Memory) → is_some (m slot) ≡ false → RemovesAt into slot m m
  removes_none slot m none = record { stays = λ s. refl; gone = λ f h. absurd (none-some f (sym (none_by (m slot) none) ∙ h)); others = λ k differs. refl }

  pub removes_one : (slot : ℕ) (m new : Memory) → (Stays into slot → ⊥) → new slot ≡ None → ((k : ℕ) → (k ≡ slot → ⊥) → new k ≡ m k) → RemovesAt into slot m new
  removes_one slot m new goes none others = record { stays = λ s. absurd (goes s); gone = λ f h. absurd (none-some f (sym none ∙ h)); others = others }

  pub removes_by : (slot : ℕ) (m new : Memory) {T : Type 0} (A : Type 0) (o : Option T) → (Stays into slot → ⊥) → is_some (m slot) ≡ true → IfNone o ((m slot ≡ None) × A) → OnSome o (new slot ≡ None)
      → OnSome o ((k : ℕ) → (k ≡ slot → ⊥) → new k ≡ m k) → RemovesAt into slot m new
  removes_by slot m new A None goes there none gone others = absurd (true≢false (sym there ∙ ap is_some (none.0)))
  removes_by slot m new A (Some e) goes there none gone others = removes_one slot m new goes gone others
