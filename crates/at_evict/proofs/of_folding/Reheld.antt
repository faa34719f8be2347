-- Entries that are kept are folded as others are: by the numbers that they came to be kept with.
use Rattle.at_evict.proofs.Common.{◌≡◌, ◌⊎◌, ℕ, List, Bool, true, false, Option, None, Some, option_map, nat_eq, Contains, refl, sym, ap, ◌∙◌, subst, option_and_then, none-some, same_Some, Location, Edge, Table, AreLinks, Folds, FoldsAt, HasUsed, HasUser, IsRelinked, Refolded, Relinks, Remains, Info, Memory, memory_of, is_current, IsIndexed, AreHeld, held, shown, standing_of, Index, kept_at}
use Rattle.at_cache.specs.declared.standing.Standing.{Standing}
use Rattle.at_cache.specs.Shedding.{FoldsHeld}
use Rattle.at_cache.proofs.Index as index
use Rattle.at_cache.proofs.Showing.{leaves_of}
use Rattle.at_cache.proofs.Testing.{indexed_by, tested}
use Rattle.at_cache.proofs.of_cut.Again.{held_as, held_on}
use Rattle.at_cache.proofs.of_cut.Flushed.{shown_held}
use Rattle.at_evict.proofs.of_folding.Made.{indexed_then, kept_then}
use Rattle.at_evict.proofs.of_folding.Walking.{folds_by}

module _ (st : List Standing) where
  -- with the numbers that the entries came to be kept with
  abbrev renumbered : Memory → Memory
  renumbered m k = option_map (held_as st k) (m k)

  held_at : (m : Memory) → AreHeld st m → (k : ℕ) → held st m k ≡ renumbered m k
  held_at m on k = by (m k) refl
    where
      by : (o : Option Info) → m k ≡ o → held st m k ≡ renumbered m k
      by None none = ap (option_and_then (shown (standing_of st k))) none ∙ sym (ap (option_map (held_as st k)) none)
      by (Some e) there = held_on st m k e there (on k e there) ∙ sym (ap (option_map (held_as st k)) there)

  as_held : (m : Memory) → AreHeld st m → held st m ≡ renumbered m
  as_held m on i k = held_at m on k i

  found : (m : Memory) (k : ℕ) (e : Info) → m k ≡ Some e → renumbered m k ≡ Some (held_as st k e)
  found m k e there = ap (option_map (held_as st k)) there

  was : (m : Memory) (k : ℕ) (f : Info) → renumbered m k ≡ Some f → (e : Info) × (m k ≡ Some e) × (held_as st k e ≡ f)
  was m k f h = by (m k) refl h
    where
      by : (o : Option Info) → m k ≡ o → option_map (held_as st k) o ≡ Some f → (e : Info) × (m k ≡ Some e) × (held_as st k e ≡ f)
      by None none h = absurd (none-some f h)
      by (Some e) there h = (e, there, same_Some (held_as st k e) f h)

  current_at : (m : Memory) (x : Edge) → is_current (renumbered m) x ≡ is_current m x
  current_at m x = by (m x.slot)
    where
      by : (o : Option Info) → (elim (option_map (held_as st x.slot) o) as (λ _. Bool) [ None ↦ false | Some e ↦ nat_eq e.stamp x.stamp ])
          ≡ (elim o as (λ _. Bool) [ None ↦ false | Some e ↦ nat_eq e.stamp x.stamp ])
      by None = refl
      by (Some e) = refl

  current_same : (m : Memory) → is_current m ≡ is_current (renumbered m)
  current_same m i x = sym (current_at m x) i

  folds_renumbered : (m : Memory) (into : ℕ → List ℕ) → ((s : ℕ) (e : Info) → m s ≡ Some e → FoldsAt m into s e)
      → (s : ℕ) (e : Info) → renumbered m s ≡ Some e → FoldsAt (renumbered m) into s e
  folds_renumbered m into at s e h =
      let (g, there, is) = was m s e h in
      record {
        used = λ r c. subst (λ (t : Edge → Bool). (r ≡ s) ⊎ HasUser t into e.users r) (current_same m)
            (subst (λ us. (r ≡ s) ⊎ HasUser (is_current m) into us r) (ap (λ (x : Info). x.users) is) ((at s g there).used r c));
        below = λ p c. (at s g there).below p (subst (λ ls. Contains ls p) (sym (ap (λ (x : Info). x.links) is)) c);
      }

  used_on : (m : Memory) (into : ℕ → List ℕ) (p r : ℕ) → HasUsed m into p r → HasUsed (renumbered m) into p r
  used_on m into p r (stays, (s, e, there, c, link)) = (stays, (s, held_as st s e, found m s e there, c, link))

  links_renumbered : (m : Memory) (into links : ℕ → List ℕ) → AreLinks m into links → AreLinks (renumbered m) into links
  links_renumbered m into links a = record {
    has = λ s r p e h c other d k.
        let (g, there, is) = was m s e h in
        a.has s r p g there c other (subst (λ ls. Contains ls p) (sym (ap (λ (x : Info). x.links) is)) d) k;
    from = λ r p c. used_on m into p r (a.from r p c);
  }

  relinks_renumbered : (m mid : Memory) (into links : ℕ → List ℕ) → Relinks into links m mid → Relinks into links (renumbered m) (renumbered mid)
  relinks_renumbered m mid into links h k stays =
      step (m k) (mid k) (subst (λ (t : Edge → Bool). IsRelinked t into (links k) (m k) (mid k)) (current_same m) (h k stays))
    where
      step : (o p : Option Info) → IsRelinked (is_current (renumbered m)) into (links k) o p
          → IsRelinked (is_current (renumbered m)) into (links k) (option_map (held_as st k) o) (option_map (held_as st k) p)
      step None p none = ap (option_map (held_as st k)) none
      step (Some e) p (f, is, left, its, users) = (
        held_as st k f,
        ap (option_map (held_as st k)) is,
        record { instance = left.instance; value = left.value; stamp = left.stamp; since = refl; going = left.going },
        its,
        users,
      )

  remains_renumbered : (mid n : Memory) (into : ℕ → List ℕ) → Remains into mid n → Remains into (renumbered mid) (renumbered n)
  remains_renumbered mid n into left = record {
    stays = λ k s. ap (option_map (held_as st k)) (left.stays k s);
    only = λ k f h. let (g, there, is) = was n k f h in left.only k g there;
  }

  -- what is left is kept
  held_left : (m mid n : Memory) (into links : ℕ → List ℕ) → AreHeld st m → Relinks into links m mid → Remains into mid n → AreHeld st n
  held_left m mid n into links on relinked left k f there = by (m k) refl (relinked k (left.only k f there))
    where
      by : (o : Option Info) → m k ≡ o → IsRelinked (is_current m) into (links k) o (mid k) → (standing_of st k).holds ≡ true
      by None none gone = absurd (none-some f (sym gone ∙ sym (left.stays k (left.only k f there)) ∙ there))
      by (Some e) is rest = on k e is

  module _ (lists later : Location ℕ → List Edge) (puts : ℕ) (t u : Table) (mid : Memory) (into links : ℕ → List ℕ) (on : AreHeld st (memory_of t))
      (indexed : IsIndexed lists puts (held st (memory_of t))) (at : (s : ℕ) (e : Info) → memory_of t s ≡ Some e → FoldsAt (memory_of t) into s e)
      (readers : (l : Location ℕ) → Refolded (is_current (memory_of t)) into (lists l) (later l)) (linked : AreLinks (memory_of t) into links)
      (relinked : Relinks into links (memory_of t) mid) (left : Remains into mid (memory_of u)) where
    i : Index lists puts (renumbered (memory_of t))
    i = indexed_by (subst (IsIndexed lists puts) (as_held (memory_of t) on) indexed)

    plan : Folds (renumbered (memory_of t)) into
    plan = folds_by i (folds_renumbered (memory_of t) into at)

    read : (l : Location ℕ) → Refolded (is_current (renumbered (memory_of t))) into (lists l) (later l)
    read l = subst (λ (c : Edge → Bool). Refolded c into (lists l) (later l)) (current_same (memory_of t)) (readers l)

    on_left : AreHeld st (memory_of u)
    on_left = held_left (memory_of t) mid (memory_of u) into links on relinked left

    index_left : Index later puts (renumbered (memory_of u))
    index_left = indexed_then i plan read (links_renumbered (memory_of t) into links linked) (relinks_renumbered (memory_of t) mid into links relinked)
        (remains_renumbered mid (memory_of u) into left)

    kept : (s : ℕ) (x : index.Standing) → kept_at later (renumbered (memory_of u)) puts s ≡ Some x → kept_at lists (renumbered (memory_of t)) puts s ≡ Some x
    kept = kept_then i plan read (links_renumbered (memory_of t) into links linked) (relinks_renumbered (memory_of t) mid into links relinked)
        (remains_renumbered mid (memory_of u) into left)

    kept_held_at : (s : ℕ) (x : index.Standing) → kept_at later (held st (memory_of u)) puts s ≡ Some x → kept_at lists (held st (memory_of t)) puts s ≡ Some x
    kept_held_at s x h = subst (λ (m : Memory). kept_at lists m puts s ≡ Some x) (sym (as_held (memory_of t) on))
        (kept s x (subst (λ (m : Memory). kept_at later m puts s ≡ Some x) (as_held (memory_of u) on_left) h))

    pub folds_held : FoldsHeld st puts lists t later u
    folds_held = record {
      there = on_left;
      indexed = subst (IsIndexed later puts) (sym (as_held (memory_of u) on_left)) (tested index_left);
      kept = λ i k is. (leaves_of (shown_held lists t st puts) (shown_held later u st puts) (λ l b. Unit {0}) (λ s x h. (kept_held_at s x h, λ l c. tt)) i k is).0;
    }
