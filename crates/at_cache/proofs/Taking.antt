-- A flush begins, and takes one entry out.
use Rattle.at_cache.proofs.Common.{◌≡◌, ◌⊎◌, inl, inr, ℕ, List, [], ◌∷◌, ◌++◌, true, Option, None, Some, Contains, refl, sym, ap, ◌∙◌, subst, cases_eq, none-some, same_Some, Contains-append_cases, Contains-append_left, Contains-append_right, Contains-cons_cases, Edge, Info, Memory, Reached, Work, IsChain, IsDoomed, IsSame, IsIdle, none_in}
use Rattle.at_cache.specs.Flushing as flushing
use Rattle.at_cache.proofs.Dooming.{chain_stays}

pub itself : (e : Info) → IsSame e e
itself e = record { instance = refl; value = refl; links = refl; stamp = refl; since = refl; users = refl }

-- nothing is done yet
pub begun : (m : Memory) → IsIdle m → Work m [] [] None m
begun m idle = record {
  chain = [];
  linked = refl;
  all = λ s e there going. absurd (let i = idle s e there in cc);
  same = λ s e there. (e, there, itself e);
  reason = λ s e there going. absurd (let i = idle s e there in cc);
  gone = λ s f there none. absurd (none-some f (sym none ∙ there));
  started = λ x c. absurd (none_in x c);
  left = λ s f there none x c. absurd (none-some f (sym none ∙ there));
  due = λ x c. absurd (none_in x c);
}

-- what is reached from fewer edges
pub reached_more : {old : Memory} {start : List Edge} (more : List Edge) {s : ℕ} → Reached old start s → Reached old (start ++ more) s
reached_more {old} {start} more (flushing.by_start x c e there same) = flushing.by_start x (Contains-append_left start more x c) e there same
reached_more {old} {start} more (flushing.by_user p r f found x c e there same) = flushing.by_user p (reached_more more r) f found x c e there same

-- these edges come to what is to do
pub more : {old m : Memory} {start : List Edge} {first : Option ℕ} (edges : List Edge) → Work old start [] first m → Work old (start ++ edges) edges first m
more {old} {m} {start = start} edges w = record {
  chain = w.chain;
  linked = w.linked;
  all = w.all;
  same = w.same;
  reason = λ s e there going. reached_more edges (w.reason s e there going);
  gone = λ s f there none. reached_more edges (w.gone s f there none);
  started = λ x c. elim (Contains-append_cases start edges x c) [ inl in_start ↦ by x (w.started x in_start) | inr in_edges ↦ inr in_edges ];
  left = λ s f there none x c. by x (w.left s f there none x c);
  due = λ x c f there same. flushing.by_start x (Contains-append_right start edges x c) f there same;
}
  where
    by : (x : Edge) → IsDoomed m x ⊎ Contains [] x → IsDoomed m x ⊎ Contains edges x
    by x (inl d) = inl d
    by x (inr c) = absurd (none_in x c)

-- the first one is taken out, and its users are to go
module _ {old m later : Memory} {start : List Edge} {s : ℕ} (w : Work old start [] (Some s) m) (gone : later s ≡ None) (others : (k : ℕ) → (k ≡ s → ⊥) → later k ≡ m k) where
  differs : (k : ℕ) (f : Info) → later k ≡ Some f → k ≡ s → ⊥
  differs k f found same = none-some f (sym gone ∙ ap later (sym same) ∙ found)

  was : (k : ℕ) (f : Info) → later k ≡ Some f → m k ≡ Some f
  was k f found = sym (others k (differs k f found)) ∙ found

  stays_doomed : (x : Edge) → IsDoomed m x → IsDoomed later x
  stays_doomed x d f found same = d f (was x.slot f found) same

  by_chain : (e : Info) → m s ≡ Some e → (ss : List ℕ) → IsChain m (Some s) ss → ((k : ℕ) (f : Info) → m k ≡ Some f → f.going ≡ true → Contains ss k) → Work old start e.users e.next later
  by_chain e there [] h all = absurd (none-some s (sym h))
  by_chain e there (t ∷ ts) (is, (e', there', going, rest), apart) all = record {
    chain = ts;
    linked = subst (λ (n : Info). IsChain later n.next ts) (sym e_is) (chain_stays m later e'.next ts rest (λ k c. others k (λ k_is. apart (subst (Contains ts) (k_is ∙ s_is) c))));
    all = λ k f found goes_now. elim (Contains-cons_cases t k ts (all k f (was k f found) goes_now)) [
      | inl same ↦ absurd (differs k f found (sym same ∙ sym s_is))
      | inr in_rest ↦ in_rest
    ];
    same = λ k f found. w.same k f (was k f found);
    reason = λ k f found goes_now. w.reason k f (was k f found) goes_now;
    gone = λ k f found none. elim (cases_eq k s) [
      | inl at_s ↦ subst (Reached old start) (sym at_s) s_goes
      | inr other ↦ w.gone k f found (sym (others k other) ∙ none)
    ];
    started = λ x c. by x (w.started x c);
    left = λ k f found none x c. elim (cases_eq k s) [
      | inl at_s ↦ let (o, was_there, alike) = w.same s e there in let same : o ≡ f = same_Some o f (sym was_there ∙ ap old (sym at_s) ∙ found) in
          inr (subst (λ us. Contains us x) (ap (λ (n : Info). n.users) (sym same) ∙ sym alike.users) c)
      | inr other ↦ by x (w.left k f found (sym (others k other) ∙ none) x c)
    ];
    due = λ x c g found same. let (o, was_there, alike) = w.same s e there in
        flushing.by_user s s_goes o was_there x (subst (λ us. Contains us x) alike.users c) g found same;
  }
    where
      s_is : s ≡ t
      s_is = same_Some s t is

      e_is : e ≡ e'
      e_is = same_Some e e' (sym there ∙ ap m s_is ∙ there')

      s_goes : Reached old start s
      s_goes = w.reason s e there (ap (λ (n : Info). n.going) e_is ∙ going)

      by : (x : Edge) → IsDoomed m x ⊎ Contains [] x → IsDoomed later x ⊎ Contains e.users x
      by x (inl d) = inl (stays_doomed x d)
      by x (inr c) = absurd (none_in x c)

  pub taken : (e : Info) → m s ≡ Some e → Work old start e.users e.next later
  taken e there = by_chain e there w.chain w.linked w.all

-- the first one that goes is there
pub first_there : {old m : Memory} {start : List Edge} {s : ℕ} → Work old start [] (Some s) m → m s ≡ None → ⊥
first_there {m = m} {s = s} w none = by w.chain w.linked
  where
    by : (ss : List ℕ) → IsChain m (Some s) ss → ⊥
    by [] h = none-some s (sym h)
    by (t ∷ ts) (is, (e, there, going, rest), apart) = none-some e (sym none ∙ ap m (same_Some s t is) ∙ there)
