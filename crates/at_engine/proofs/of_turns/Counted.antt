-- Single turns that stand one behind the other, and how many they are.
use Rattle.std.proofs.Common.{◌≡◌, ℕ, ◌+◌, ◌<◌, ◌≤◌, Option, Some, None, refl, sym, arith, subst, inl, inr}
use Rattle.std.specs.Prelude.{IfNone, IfSome}
use Rattle.at_model.specs.Meaning.{Answer}
use Rattle.at_model.specs.Replies.{Form}
use Rattle.at_model.specs.Rules.{Rules}
use Rattle.at_model.specs.Run.{Instance}
use Rattle.at_model.specs.Turning.{UnderWay}
use Rattle.at_model.specs.of_fixpoints.Searching.{Search, posted as search_posted}
use Rattle.at_store.specs.Shown.{Shown}
use Rattle.at_cache.specs.Kept.{Entries}
use Rattle.at_cache.specs.Traced.{Memories}
use Rattle.at_demand.specs.Levels.{StandsFor, asked_by}
use Rattle.at_demand.specs.Turns.{AreTurns as AreTurnsOfSearch, AreTurnsOfChain, BreaksOff as BreaksOffSearch, BreaksOffChain, under_way}
use Rattle.at_demand.specs.Turns as turns
use Rattle.at_demand.specs.declared.question.Question.{Question}
use Rattle.at_demand.specs.declared.demand.Demand.{Demand}
use Rattle.at_engine.specs.Engines.{rules_of}
use Rattle.at_engine.specs.Turning.{AreTurns, BreaksOffIn, CameFrom, CountsTurns, EndsSo, IsWithin, RunsOut}
use Rattle.at_engine.specs.declared.engine.Engine.{Engine}
use Rattle.at_engine.specs.declared.posts.Posted.{Posted}

-- one turn that is refused counts
pub counts_refused : {A : Type 0} (limit : Option ℕ) (a : A) → IfSome limit (λ n. 0 < n)
    → CountsTurns limit 1 1 (Some a)
counts_refused None a some = tt
counts_refused (Some n) a some = (refl, omega (arith, some))

-- it doesn't matter of what they count
pub counts_same : {A B : Type 0} (limit : Option ℕ) (given counted : ℕ) (a : A) (b : B)
    → CountsTurns limit given counted (Some a)
    → CountsTurns limit given counted (Some b)
counts_same None given counted a b h = tt
counts_same (Some n) given counted a b h = h

pub silent_same : (A B : Type 0) (limit : Option ℕ) (given counted : ℕ) → CountsTurns {A = A} limit given counted None
    → CountsTurns {A = B} limit given counted None
silent_same A B None given counted h = h
silent_same A B (Some n) given counted h = h

counts_within : {A : Type 0} (limit : Option ℕ) (given counted : ℕ) (a : A)
    → CountsTurns limit given counted (Some a) → IsWithin limit given
counts_within None given counted a h = tt
counts_within (Some n) given counted a h = h.1

-- there is one at least
pub some_silent : (A : Type 0) (limit : Option ℕ) (given counted : ℕ) → CountsTurns {A = A} limit given counted None
    → IfSome limit (λ n. 0 < n) → 0 < given
some_silent A None given counted h some = absurd h
some_silent A (Some n) given counted h some = omega (arith, h.1, some)

-- they are counted from the first one on
counted_from : (a : Option (Answer ℕ)) (n first end : ℕ) → first ≡ 0 → IfNone a (end ≡ first + n) → IfNone a (end ≡ 0 + n)
counted_from None n first end e f = omega (arith, e, f)
counted_from (Some a) n first end e f = tt

module _ (rules : Rules) (s : Shown) (memories : Memories) where
  -- with the last one for itself
  search_last : (n : ℕ) (d f : Entries) (u w : Search ℕ) (a : Answer ℕ) → AreTurnsOfSearch rules s memories n d u f w (Some a)
      → BreaksOffSearch rules s memories n d u f × (0 < n)
  search_last _ d f u w a (turns.more n _ x _ _ y _ _ front turned last right) =
      (record { given = n; fewer = omega arith; mid = x; way = y; turns = front; last = last }, omega arith)

  chain_last : (n : ℕ) (d f : Entries) (u w : UnderWay ℕ) (a : Answer ℕ) → AreTurnsOfChain rules s memories n d u f w (Some a)
      → BreaksOffChain rules s memories n d u f
  chain_last _ d f u w a (turns.more n _ x _ _ y _ _ front turned last) =
      record { given = n; fewer = omega arith; mid = x; way = y; turns = front; last = last }

  module _ (d : Entries) (o : Option Question) (i : Instance ℕ) (f : Entries) (end : Question) (a : Answer ℕ) where
    pub some_turn : (given : ℕ) → AreTurns rules s memories given d o i f end (Some a) → 0 < given
    some_turn given t =
        let (u, is) = t.stood in
        let (v, each, stands) = t.searched u is in
        (search_last given d f u v a each).1

    pub breaks_behind : (limit : Option ℕ) (counted : ℕ)
        → (given : ℕ) × CountsTurns limit given counted (Some a) × AreTurns rules s memories given d o i f end (Some a)
        → BreaksOffIn rules s memories limit d o i f
    breaks_behind limit counted (given, counts, t) = (
      given,
      counts_within limit given counted a counts,
      record {
        stood = t.stood;
        searched = λ u is. let (v, each, stands) = t.searched u is in (search_last given d f u v a each).0;
        plainly = λ none. chain_last given d f _ (under_way end) a (t.plainly none);
      },
    )

  -- turns of what is done for a question are turns of the question
  module _ (d : Entries) (q : Question) (f : Entries) where
    never_given : StandsFor rules s d q (search_posted (asked_by q)) → q.turns ≡ 0
    never_given stands = let few : q.turns ≤ 0 = stands.few in omega (arith, few)

    pub turns_from : (o : Option Question) → CameFrom rules s d o q → (given : ℕ) (end : Question) (a : Option (Answer ℕ))
        → AreTurns rules s memories given d (Some q) (asked_by q) f end a → AreTurns rules s memories given d o (asked_by q) f end a
    turns_from None (chain, stands) given end a t = record {
      stood = (search_posted (asked_by q), refl);
      searched = λ u is. t.searched u (subst (StandsFor rules s d q) (sym is) stands);
      plainly = λ none. subst (λ (u : UnderWay ℕ). AreTurnsOfChain rules s memories given d u f (under_way end) a) chain (t.plainly none);
      counted = counted_from a given q.turns end.turns (never_given stands) t.counted;
    }
    turns_from (Some p) came given end a t =
        subst (λ (x : Question). AreTurns rules s memories given d (Some x) (asked_by q) f end a) came t

    pub breaks_from : (o : Option Question) → CameFrom rules s d o q → (limit : Option ℕ)
        → BreaksOffIn rules s memories limit d (Some q) (asked_by q) f → BreaksOffIn rules s memories limit d o (asked_by q) f
    breaks_from None (chain, stands) limit (n, within, b) = (
      n,
      within,
      record {
        stood = (search_posted (asked_by q), refl);
        searched = λ u is. b.searched u (subst (StandsFor rules s d q) (sym is) stands);
        plainly = λ none. subst (λ (u : UnderWay ℕ). BreaksOffChain rules s memories n d u f) chain (b.plainly none);
      },
    )
    breaks_from (Some p) came limit b =
        subst (λ (x : Question). BreaksOffIn rules s memories limit d (Some x) (asked_by q) f) came b

module _ {K : Type 0} (kept : K
    → Entries) (memories : K → Memories) (e : Engine K) (d : Demand K) (p : Posted) (given : ℕ) (told : Form) where
  pub some_given : EndsSo kept memories e d p given told → 0 < given
  some_given (inl (refused, same, one)) = omega (arith, one)
  some_given (inr asks) = some_turn (rules_of e) e.store (memories e.demand.keeper) (kept e.demand.keeper) p.question asks.inst (kept d.keeper)
      asks.holds.end asks.holds.answer given asks.holds.turns

-- what was answered, and can't be told
pub out_behind : {K A : Type 0} (kept : K
    → Entries) (memories : K → Memories) (limit : Option ℕ) (e : Engine K) (d : Demand K) (p : Posted) (given counted : ℕ) (a : A)
    (told : Form) → CountsTurns limit given counted (Some a) → EndsSo kept memories e d p given told
    → RunsOut kept memories limit e d p
out_behind kept memories limit e d p given counted a told counts (inl (refused, same, one)) = inl same
out_behind kept memories limit e d p given counted a told counts (inr asks) = inr (record {
  inst = asks.inst;
  named = asks.named;
  words = asks.words;
  like = asks.like;
  holds = breaks_behind (rules_of e) e.store (memories e.demand.keeper) (kept e.demand.keeper) p.question asks.inst (kept d.keeper) asks.holds.end
      asks.holds.answer limit counted (given, counts_same limit given counted a asks.holds.answer counts, asks.holds.turns);
})
