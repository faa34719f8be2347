-- What comes to what is kept where memory runs out.
use Rattle.std.proofs.Common.{◌≡◌, ◌↔◌, ℕ, ◌+◌, ◌-◌, ◌^◌, ◌<◌, min, [], inl, inr, refl, ap, ◌∙◌, arith}
use Rattle.at_model.specs.Trees.{Tree}
use Rattle.at_model.specs.Paths.{Node}
use Rattle.at_model.specs.Run.{Instance}
use Rattle.at_model.specs.Rules.{Rules}
use Rattle.at_model.specs.Edits.{Edit as EditOf}
use Rattle.at_model.specs.Machine.{State, Verdict, Refuses, Tells, Leaves, Edits, Asks, Posts, Waits}
use Rattle.at_model.specs.Sparing.{KeptAfter, IsWork}
use Rattle.at_engine.specs.KeptOver.{Grows, IsWorthFor}

-- nothing comes where the same is kept
unworked : (IsWorth before after : Instance Node → Type 0) (w x more : ℕ) → ((j : Instance Node) → after j ↔ before j) → more ≡ 0 → (w < 2 ^ 64 → x ≡ min (w + more) (2 ^ 64 - 1)) → Grows IsWorth before after w x
unworked IsWorth before after w x more same none grows = record {
  stays = λ j h. (same j).1 h;
  gained = [];
  distinct = tt;
  exactly = λ j. (λ h. absurd h, λ h. h.1 ((same j).0 h.0));
  worth = λ j h. absurd h;
  grows = λ small. grows small ∙ ap (λ n. min (w + n) (2 ^ 64 - 1)) none;
}

pub same_grows : (IsWorth before after : Instance Node → Type 0) (w : ℕ) → ((j : Instance Node) → after j ↔ before j) → Grows IsWorth before after w w
same_grows IsWorth before after w same = unworked IsWorth before after w w 0 same refl (λ small. omega (arith, small))

-- what comes is worth that which it is worth less
pub weaker_grows : (IsWorth IsWorthToo before after : Instance Node → Type 0) (w x : ℕ) → ((j : Instance Node) → IsWorth j → IsWorthToo j) → Grows IsWorth before after w x → Grows IsWorthToo before after w x
weaker_grows IsWorth IsWorthToo before after w x weaker g = record {
  stays = g.stays;
  gained = g.gained;
  distinct = g.distinct;
  exactly = g.exactly;
  worth = λ j h. weaker j (g.worth j h);
  grows = g.grows;
}

-- what a verdict leaves and adds comes, unless it is an edit
pub kept_grows : (rules : Rules) (s : State) (v : Verdict) (before after : Instance Node → Type 0) (w x more : ℕ) → ((e : EditOf) (t : Tree) → v ≡ Edits e t → ⊥)
    → ((j : Instance Node) → after j ↔ KeptAfter rules s v before j) → IsWork rules s v before more → (w < 2 ^ 64 → x ≡ min (w + more) (2 ^ 64 - 1)) → Grows (IsWorthFor rules s v) before after w x
kept_grows rules s (Refuses refusal) before after w x more none kept work grows = unworked _ before after w x more kept work grows
kept_grows rules s (Tells shown) before after w x more none kept work grows = unworked _ before after w x more kept work grows
kept_grows rules s (Leaves marks) before after w x more none kept work grows = unworked _ before after w x more kept work grows
kept_grows rules s (Posts q) before after w x more none kept work grows = unworked _ before after w x more kept work grows
kept_grows rules s (Waits number) before after w x more none kept work grows = unworked _ before after w x more kept work grows
kept_grows rules s (Edits e t) before after w x more none kept work grows = absurd (none e t refl)
kept_grows rules s (Asks q) before after w x more none kept (added, a, size) grows = record {
  stays = λ j h. (kept j).1 (inl h);
  gained = added;
  distinct = a.distinct;
  exactly = λ j. (
    λ h. (let (worth, new) = (a.exactly j).0 h in ((kept j).1 (inr worth), new)),
    λ h. (a.exactly j).1 (elim ((kept j).0 h.0) [ inl old ↦ absurd (h.1 old) | inr worth ↦ worth ], h.1),
  );
  worth = λ j h. ((a.exactly j).0 h).0;
  grows = λ small. grows small ∙ ap (λ n. min (w + n) (2 ^ 64 - 1)) size;
}
