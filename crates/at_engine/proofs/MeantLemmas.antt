-- What words come to, in whatever state shows the tree and the marks.
use Rattle.std.proofs.Common.{◌≡◌, ℕ, List, Err, refl, sym, subst}
use Rattle.at_model.specs.Lines.{Command}
use Rattle.at_model.specs.Rules.{Rules}
use Rattle.at_protocol.specs.declared.reply.Form.{Form}
use Rattle.at_protocol.specs.declared.reply.Form.TheVariants as form
use Rattle.at_store.specs.Shown.{Shown}
use Rattle.at_engine.specs.Holding.{state_in}
use Rattle.at_engine.specs.Marks.{Mark}
use Rattle.at_engine.specs.Meant.{Means}
use Rattle.at_engine.specs.Telling.{IsToldOf, Obeys}
use Rattle.at_engine.specs.declared.engine.editing.Obstacle.{Obstacle}
use Rattle.at_engine.specs.declared.engine.editing.Obstacle.TheVariants as obstacle
use Rattle.at_engine.specs.declared.posts.Posts.{Posts}

-- a fact of one tree, with its rules and marks, is one of another that is the same
pub along : {A B C : Type 0} (P : A → B → C → Type 0) {a a' : A} {b b' : B} {c c' : C} → a ≡ a' → b ≡ b' → c ≡ c' → P a b c → P a' b' c'
along P {a' = a'} {b = b} {b' = b'} {c = c} p q r h = subst (P a' b') r (subst (λ y. P a' y c) q (subst (λ x. P x b c) p h))

module _ (rules : Rules) (s : Shown) (marks : List Mark) (session : ℕ) (c : Command) where
  -- what keeps an edit from being made is told so
  pub hindered_by : (o : Obstacle) → ((value : Form) → IsToldOf o value → (version : ℕ) (posts : Posts) → Obeys rules (state_in s version marks posts) session c value (state_in s version marks posts))
      → Means rules s marks session c (Err o)
  hindered_by (obstacle.Refused r) h = λ version posts. h (form.Refused r) refl version posts
  hindered_by obstacle.Memory h = tt

  pub told_meant : (o : Obstacle) → Means rules s marks session c (Err o) → (value : Form) → IsToldOf o value
      → (version : ℕ) (posts : Posts) → Obeys rules (state_in s version marks posts) session c value (state_in s version marks posts)
  told_meant (obstacle.Refused r) h value told version posts =
      subst (λ (f : Form). Obeys rules (state_in s version marks posts) session c f (state_in s version marks posts)) (sym told) (h version posts)
  told_meant obstacle.Memory h value told version posts = absurd told
