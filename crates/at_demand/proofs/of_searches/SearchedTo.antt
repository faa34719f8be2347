-- A level's search goes on, step by step, up to where it comes to.
use Rattle.std.proofs.Common.{◌≡◌, ℕ, ◌<◌, ◌^◌, Option, Some, None, inl, inr, refl, sym, ◌∙◌, subst}
use Rattle.std.specs.Prelude.{Result, Ok, Err}
use Rattle.std.specs.declared.alloc.AllocError.{AllocError}
use Rattle.std.specs.Map.{keys_of}
use Rattle.at_model.specs.Meaning.{Among, Circle}
use Rattle.at_model.specs.Rules.{Rules}
use Rattle.at_model.specs.Run.{Instance}
use Rattle.at_model.specs.of_fixpoints.Circles.{IsOpen}
use Rattle.at_model.specs.of_fixpoints.Fixpoints.{End}
use Rattle.at_model.specs.of_fixpoints.Formulas.{Formula}
use Rattle.at_model.specs.of_fixpoints.Searched.{IsMade}
use Rattle.at_model.specs.of_fixpoints.Searching.{Looked, under}
use Rattle.at_model.proofs.Reached.{back_among, either_among}
use Rattle.at_store.specs.Shown.{Shown, contents}
use Rattle.at_cache.specs.Kept.{Entries}
use Rattle.at_cache.specs.Traced.{Memories}
use Rattle.at_search.specs.Recorded.{Recorded}
use Rattle.at_demand.specs.declared.demand.searching.Searched.{Searched}
use Rattle.at_demand.specs.declared.demand.searching.Searched.TheVariants as searched
use Rattle.at_demand.specs.declared.question.Question.{Question}
use Rattle.at_evaluate.specs.Valued.{KeepsEntries, meaning}
use Rattle.at_demand.specs.Levels.{all_levels, fault_in, levels_of, root_in, seen_in}
use Rattle.at_demand.specs.Searches.{AreKeptOrTold, CanSearch, ComesOn, FromFirst, GainsBetween, GoesOnSo, GoesSo, HasSearched, HasSearchedOn, HasSearchedTo, FollowsIn, FollowsOn, StandsBetween, StaysOn, WasSeenBy, left_to_do}
use Rattle.at_evaluate.proofs.Entered.{entered_on}
use Rattle.at_demand.proofs.of_levels.GainedBetween.{gains_nothing, gains_then, gains_where}
use Rattle.at_demand.proofs.of_searches.Moving.{asked_same}
use Rattle.at_demand.proofs.of_levels.Resolving.{keeps_groups, recorded_key}
use Rattle.at_demand.proofs.of_levels.StayingOn.{stays_same, stays_then}

-- A search has come on from where it stood: what came to be kept meanwhile, and what was demanded.
pub record HasComeOn (rules : Rules) (s : Shown) (before after : Entries) (former latter : Memories) (earlier later : ℕ)
    (old new : Question) : Type 0 where
  pub on : ComesOn rules s before after old new
  pub gains : GainsBetween rules s before after former latter earlier later old new (Unit {0})
  pub stays : StaysOn old new
  pub followed : FollowsOn rules s before after old new
  pub root : root_in new.level new.inst ≡ root_in old.level old.inst

-- as it begins
pub begins_on : (rules : Rules) (s : Shown) (entries : Entries) (m : Memories) (w : ℕ) (q : Question) → CanSearch rules s entries q → w < 2 ^ 64 →
    HasComeOn rules s entries entries m m w w q q
begins_on rules s entries m w q can small = record {
  on = record {
    chain = record { waiting = refl; inst = refl };
    ended = refl;
    can = can;
    follows = λ first l stay st k. (l, st, k, λ u o y. y);
  };
  gains = let st = can.stands in gains_nothing rules s entries m w q q st.can.answerable small refl;
  stays = stays_same q;
  followed = λ x. x;
  root = refl;
}

-- And then it comes to this.
module _ (rules : Rules) (s : Shown) (before mid after : Entries) (f m n : Memories) (w x y : ℕ) (old q new : Question)
    (c : HasComeOn rules s before mid f m w x old q) where
  came : ComesOn rules s before mid old q
  came = c.on

  below_old : (i : Instance ℕ) → Among i (under (levels_of q.waiting.entries)) → Among i (under (levels_of old.waiting.entries))
  below_old i h = let chain = came.chain in subst (λ ws. Among i (under (levels_of ws))) chain.waiting h

  ended_old : (i : Instance ℕ) → Among i (keys_of q.ended.entries) → WasSeenBy old i
  ended_old i h = inr (subst (λ ks. Among i ks) came.ended h)

  levels_old : (i : Instance ℕ) → Among i (under (all_levels q)) → WasSeenBy old i
  levels_old i (inl e) = let chain = came.chain in inl (inl (e ∙ chain.inst))
  levels_old i (inr h) = elim (either_among i (seen_in q.level) (under (levels_of q.waiting.entries)) h) [
    | inl a ↦ ended_old i (key a)
    | inr b ↦ inl (inr (back_among i (seen_in old.level) (under (levels_of old.waiting.entries)) (below_old i b)))
  ]
    where
      of_end : ((e : End ℕ (Formula ℕ)) × Recorded q.ended.entries i e × (fault_in q.level ≡ None → IsMade e)) → Among i (keys_of q.ended.entries)
      of_end (e, r, g) = recorded_key q.ended.entries i e r

      key : Among i (seen_in q.level) → Among i (keys_of q.ended.entries)
      key a =
          let can = came.can in
          let st = can.stands in
          let covered = st.covered in
          of_end (covered.ends i (subst (λ is. Among i is) (sym st.is.seen) a))

  all_gained : {Whole : Type 0} → GainsBetween rules s mid after m n x y q new Whole → GainsBetween rules s before after f n w y old new Whole
  all_gained g = gains_then rules s before mid after f m n w x y old q new c.gains g
      (let chain = came.chain in asked_same old q chain.waiting c.root) levels_old ended_old

  stay_on : (first : Entries) → KeepsEntries first before → KeepsEntries first mid
  stay_on first stay i some = let gains = c.gains in gains.stays i (entered_on first before stay i some) ∙ stay i some

  goes_then : (first : Entries) (l : Looked ℕ) → KeepsEntries first before → StandsBetween rules s before old l → AreKeptOrTold first before old l →
      FromFirst rules s mid q (λ e k. GoesOnSo rules s e after k new) → GoesOnSo rules s first after l new
  goes_then first l stay st k more =
      let (a, stands, kept, on) = came.follows first l stay st k in
      let (b, there, told, further) = more first a (stay_on first stay) stands kept in
      (b, there, told, λ u o z. on u o (further u o z))

  ends_then : (e : Searched) (first : Entries) (l : Looked ℕ) → KeepsEntries first before → StandsBetween rules s before old l → AreKeptOrTold first before old l →
      FromFirst rules s mid q (λ d k. GoesSo rules s d after k new e) → GoesSo rules s first after l new e
  ends_then searched.Next first l stay st k more =
      let (a, stands, kept, on) = came.follows first l stay st k in
      let (u, there, z) = more first a (stay_on first stay) stands kept in (u, there, on u None z)
  ends_then (searched.Back i) first l stay st k more =
      let (a, stands, kept, on) = came.follows first l stay st k in
      let (u, z) = more first a (stay_on first stay) stands kept in (u, on u (Some (Circle i)) z)
  ends_then searched.Over first l stay st k more = goes_then first l stay st k more

  comes_to : (e : Searched) → HasSearchedTo rules s after q new e → HasSearchedTo rules s after old new e
  comes_to searched.Next h = h
  comes_to (searched.Back i) (o, close, chain, ended) = (
    (let first = came.chain in subst (λ ws. IsOpen (contents s) (meaning rules) (under (levels_of ws)) i) first.waiting o),
    close,
    (let first = came.chain in record { waiting = chain.waiting ∙ first.waiting; inst = chain.inst ∙ first.inst }),
    ended ∙ came.ended,
  )
  comes_to searched.Over (done, can, chain, ended) = (
    done,
    can,
    (let first = came.chain in record { waiting = chain.waiting ∙ first.waiting; inst = chain.inst ∙ first.inst }),
    ended ∙ came.ended,
  )

  -- further on
  pub steps_on : HasSearchedOn {E = AllocError} rules s mid after m n x y q new (Ok None) →
      HasComeOn rules s before after f n w y old new
  steps_on h = further h.on
    where
      further : ComesOn rules s mid after q new × (left_to_do new < left_to_do q) → HasComeOn rules s before after f n w y old new
      further (on, less) = record {
        on = record {
          chain = let chain = came.chain in record { waiting = on.chain.waiting ∙ chain.waiting; inst = on.chain.inst ∙ chain.inst };
          ended = on.ended ∙ came.ended;
          can = on.can;
          follows = λ first l stay st k. goes_then first l stay st k on.follows;
        };
        gains = all_gained h.gains;
        stays = stays_then old q new c.stays h.stays;
        followed = λ x. h.followed (c.followed x);
        root = h.root ∙ c.root;
      }

  followed_to : (e : Searched) → FollowsIn rules s mid after q new e → FollowsIn rules s before after old new e
  followed_to searched.Next h = λ x. h (c.followed x)
  followed_to (searched.Back i) h = λ x. h (c.followed x)
  followed_to searched.Over h = λ x. h (c.followed x)

  -- to its end
  pub ends_on : (e : Searched) → HasSearchedOn {E = AllocError} rules s mid after m n x y q new (Ok (Some e)) →
      HasSearched {E = AllocError} rules s before after f n w y old new (Ok e)
  ends_on e h = record {
    gains = all_gained h.gains;
    waiting = let chain = came.chain in h.waiting ∙ chain.waiting;
    root = h.root ∙ c.root;
    stays = stays_then old q new c.stays h.stays;
    followed = followed_to e h.followed;
    to = let (to, follows) = h.on in comes_to e to;
    follows = λ first l stay st k. let (to, more) = h.on in ends_then e first l stay st k more;
  }

  -- or memory is wanting
  pub fails_on : (r : Result (Option Searched) AllocError) → HasSearchedOn {E = AllocError} rules s mid after m n x y q new r →
      (p : Result Searched AllocError) (e : AllocError) → p ≡ Err e → HasSearched {E = AllocError} rules s before after f n w y old new p
  fails_on r h p e is = subst (λ z. HasSearched {E = AllocError} rules s before after f n w y old new z) (sym is) (record {
    gains = gains_where rules s before after f n w y old new (keeps_groups rules r) (all_gained h.gains);
    waiting = let chain = came.chain in h.waiting ∙ chain.waiting;
    root = h.root ∙ c.root;
    stays = tt;
    followed = tt;
    to = tt;
    follows = tt;
  })

-- by what was answered
pub none_left : (rules : Rules) (s : Shown) (before after : Entries) (f m : Memories) (w x : ℕ) (old new : Question)
    (o : Option Searched) → o ≡ None → HasSearchedOn {E = AllocError} rules s before after f m w x old new (Ok o) →
    HasSearchedOn {E = AllocError} rules s before after f m w x old new (Ok None)
none_left rules s before after f m w x old new o e h =
    subst (λ z. HasSearchedOn {E = AllocError} rules s before after f m w x old new (Ok z)) e h

pub less_left : (rules : Rules) (s : Shown) (before after : Entries) (f m : Memories) (w x : ℕ) (old new : Question) →
    HasSearchedOn {E = AllocError} rules s before after f m w x old new (Ok None) → left_to_do new < left_to_do old
less_left rules s before after f m w x old new h = let (on, less) = h.on in less

pub some_left : (rules : Rules) (s : Shown) (before after : Entries) (f m : Memories) (w x : ℕ) (old new : Question)
    (o : Option Searched) (e : Searched) → o ≡ Some e → HasSearchedOn {E = AllocError} rules s before after f m w x old new (Ok o) →
    HasSearchedOn {E = AllocError} rules s before after f m w x old new (Ok (Some e))
some_left rules s before after f m w x old new o e is h =
    subst (λ z. HasSearchedOn {E = AllocError} rules s before after f m w x old new (Ok z)) is h
