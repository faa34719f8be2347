-- Evaluations in one go: the loop over arguments, and over the elements of a fold.
use Rattle.std.proofs.Common.{◌≡◌, ◌<◌, ◌^◌, ℕ, List, [], ◌∷◌, ◌++◌, map, refl, sym, ap, ◌∙◌, subst, append_assoc, append-nil}
use Rattle.std.proofs.lemmas.List.{map_push}
use Rattle.at_model.specs.Run.{Value, Run, Gives, ◌>>=◌}
use Rattle.at_model.specs.Rules.{Rules}
use Rattle.at_store.specs.Shown.{Shown, contents}
use Rattle.at_rules.specs.Bodies.{body_view}
use Rattle.at_rules.specs.declared.body.Body.{Body}
use Rattle.at_body.specs.Rest.{ev, over, settled}
use Rattle.at_body.specs.Standing.{Place, inside}
use Rattle.at_body.specs.Values.{value_view}
use Rattle.at_body.specs.declared.todo.Fold.{Fold}
use Rattle.at_body.specs.declared.todo.Fold.TheVariants as fold
use Rattle.at_body.specs.declared.value.Value.{Value as ValueCode}
use Rattle.at_body.specs.Stacked.{below}
use Rattle.at_evaluate.specs.declared.direct.Level.{Level}
use Rattle.at_evaluate.specs.InParts.{HasCome, HasGained, Held, IsHeld}
use Rattle.at_evaluate.proofs.of_parts.Directly.{Grows, come_gives, come_then, gains_then, gains_within, grows, grows_none, grows_then, nothing_gained}
use Rattle.at_evaluate.proofs.of_parts.ByForm.{all_at, run_at}

-- A loop that has come so far: what is left of the evaluation is r, and with its value the whole comes to one.
pub record GoesOn {A B : Type 0} (rules : Rules) (s : Shown) (first now : Held) (old mid : Level)
    (whole : Run ℕ A) (r : Run ℕ B) (f : B → A) : Type 0 where
  pub right : IsHeld rules (contents s) now
  pub come : (last : Held) (new : Level) (b : B) → Grows rules s now last → HasCome rules (contents s) last mid new r b
      → HasCome rules (contents s) last old new whole (f b)
  pub gains : (last : Held) → HasGained rules s r now last → HasGained rules s whole first last

-- inside a fold, and behind it
pub bound_at : (q p : Place) (n : ℕ) (bs : List ℕ) → q ≡ p → bs ≡ n ∷ q.bound → record q { bound = bs } ≡ inside p n
bound_at q p n bs there is =
    ap (λ (b : List ℕ). let r : Place = record q { bound = b } in r) is ∙ ap (λ z. inside z n) there

pub unbound_at : (q p : Place) (n : ℕ) (bs cs : List ℕ) → q ≡ p → bs ≡ n ∷ q.bound → cs ≡ below bs →
    record q { bound = cs } ≡ p
unbound_at q p n bs cs there is left =
    ap (λ (b : List ℕ). let r : Place = record q { bound = b } in r) (left ∙ ap below is) ∙ there

module _ (rules : Rules) (s : Shown) where
  pub starts : {A : Type 0} (h : Held) (level : Level) (r : Run ℕ A) (f : A → A) → ((a : A) → f a ≡ a) →
      IsHeld rules (contents s) h → GoesOn rules s h h level level r r f
  starts h level r f same right = record {
    right = right;
    come = λ last new b g c. subst (λ z. HasCome rules (contents s) last level new r z) (sym (same b)) c;
    gains = λ last g. g;
  }

  -- nothing came since
  pub gains_so_far : {A B : Type 0} (whole : Run ℕ A) (r : Run ℕ B) (f : B → A) (first now : Held) (old mid : Level) →
      now.work < 2 ^ 64 → GoesOn rules s first now old mid whole r f → HasGained rules s whole first now
  gains_so_far whole r f first now old mid few i = i.gains now (nothing_gained rules s r now few i.right)

module _ (rules : Rules) (s : Shown) (p : Place) where
  -- a value in front of those of the other arguments
  abbrev pub in_front : Value ℕ → List (Value ℕ) → Run ℕ (List (Value ℕ))
  in_front v vs = Gives (v ∷ vs)

  abbrev pub behind_first : List Body → Value ℕ → Run ℕ (List (Value ℕ))
  behind_first bs v = all_at rules p bs >>= in_front v

  -- one argument more
  module _ (whole : Run ℕ (List (Value ℕ))) (first now next : Held) (old mid later : Level) (b : Body) (others rest :
      List Body) (more : rest ≡ b ∷ others) (done : List ValueCode)
      (i : GoesOn rules s first now old mid whole (all_at rules p rest) (λ vs. map value_view done ++ vs))
      (g : HasGained rules s (run_at rules p b) now next) where
    passed_first : (last : Held) → HasGained rules s (all_at rules p (b ∷ others)) now last →
        HasGained rules s whole first last
    passed_first last h = i.gains last (subst (λ bs. HasGained rules s (all_at rules p bs) now last) (sym more) h)

    pub passed_gains : HasGained rules s whole first next
    passed_gains = passed_first next (gains_within rules s (run_at rules p b) (behind_first others) now next g)

    module _ (v : ValueCode) (those : List ValueCode) (is : those ≡ done ++ v ∷ [])
        (q : HasCome rules (contents s) next mid later (run_at rules p b) (value_view v)) where
      arguments : (vs : List (Value ℕ)) → map value_view done ++ value_view v ∷ vs ≡ map value_view those ++ vs
      arguments vs = sym (append_assoc (map value_view done) (value_view v ∷ []) vs) ∙
          ap (λ z. z ++ vs) (sym (map_push value_view done v)) ∙ ap (λ z. map value_view z ++ vs) (sym is)

      one_more : (last : Held) (new : Level) (vs : List (Value ℕ)) → Grows rules s next last →
          HasCome rules (contents s) last later new (all_at rules p others) vs →
          HasCome rules (contents s) last mid new (all_at rules p (b ∷ others)) (value_view v ∷ vs)
      one_more last new vs grow c =
          come_then rules s (run_at rules p b) (behind_first others) (value_view v) (behind_first others (value_view v))
          (value_view v ∷ vs) next last mid later new refl g.right q grow
          (come_then rules s (all_at rules p others) (in_front (value_view v)) vs (in_front (value_view v) vs)
          (value_view v ∷ vs) last last later new new refl grow.right c (grows_none rules s last grow.right)
          (come_gives rules s last new (in_front (value_view v) vs) (value_view v ∷ vs) refl))

      pub passed_on : GoesOn rules s first next old later whole (all_at rules p others) (λ vs. map value_view
          those ++ vs)
      passed_on = record {
        right = g.right;
        come = λ last new vs grow c. subst (λ z. HasCome rules (contents s) last old new whole z) (arguments vs)
            (i.come last new (value_view v ∷ vs) (grows_then rules s now next last (grows rules s (run_at rules p
            b) now next g) grow) (subst (λ bs. HasCome rules (contents s) last mid new (all_at rules p bs) (value_view v
            ∷ vs)) (sym more) (one_more last new vs grow c)));
        gains = λ last h. passed_first last (gains_then rules s (run_at rules p b) (behind_first others)
            (value_view v) (behind_first others (value_view v)) now next last mid later refl g q
            (gains_within rules s (all_at rules p others) (in_front (value_view v)) next last h));
      }

  -- no argument more
  pub passed_all : (whole : Run ℕ (List (Value ℕ))) (first now : Held) (old mid : Level) (rest : List Body) →
      rest ≡ [] → (done : List ValueCode) →
      GoesOn rules s first now old mid whole (all_at rules p rest) (λ vs. map value_view done ++ vs) →
      HasCome rules (contents s) now old mid whole (map value_view done)
  passed_all whole first now old mid rest none done i =
      subst (λ z. HasCome rules (contents s) now old mid whole z) (append-nil (map value_view done))
      (i.come now mid [] (grows_none rules s now i.right) (come_gives rules s now mid (all_at rules p rest) []
      (ap (λ bs. all_at rules p bs) none)))

  -- an expression at an element, and all that is left of a fold
  abbrev pub inner_at : ℕ → Body → Run ℕ (Value ℕ)
  inner_at n b = ev rules.classes (body_view b) (inside p n)

  abbrev pub elements_at : Fold → Body → List ℕ → Run ℕ (Value ℕ)
  elements_at f b ns = over rules.classes f (body_view b) p ns

  abbrev pub settled_at : Fold → Body → ℕ → List ℕ → Value ℕ → Run ℕ (Value ℕ)
  settled_at f b n ns v = settled rules.classes f (body_view b) p n ns v

  over_step : (f : Fold) (b : Body) (n : ℕ) (ns : List ℕ) →
      elements_at f b (n ∷ ns) ≡ inner_at n b >>= settled_at f b n ns
  over_step fold.Exists b n ns = refl
  over_step fold.First b n ns = refl
  over_step (fold.Sum total) b n ns = refl

  -- one element more
  module _ (whole : Run ℕ (Value ℕ)) (first now next : Held) (old mid later : Level) (f : Fold) (b : Body) (n : ℕ)
      (ns nodes : List ℕ) (more : nodes ≡ n ∷ ns) (q : Place) (there : q ≡ inside p n)
      (i : GoesOn rules s first now old mid whole (elements_at f b nodes) (λ v. v))
      (g : HasGained rules s (run_at rules q b) now next) where
    here : HasGained rules s (inner_at n b) now next
    here = subst (λ z. HasGained rules s (run_at rules z b) now next) there g

    steps : elements_at f b nodes ≡ inner_at n b >>= settled_at f b n ns
    steps = ap (elements_at f b) more ∙ over_step f b n ns

    each_first : (last : Held) → HasGained rules s (inner_at n b >>= settled_at f b n ns) now last →
        HasGained rules s whole first last
    each_first last h = i.gains last (subst (λ r. HasGained rules s r now last) (sym steps) h)

    pub each_gains : HasGained rules s whole first next
    each_gains = each_first next (gains_within rules s (inner_at n b) (settled_at f b n ns) now next here)

    module _ (v : Value ℕ) (t : HasCome rules (contents s) next mid later (run_at rules q b) v) where
      come_here : HasCome rules (contents s) next mid later (inner_at n b) v
      come_here = subst (λ z. HasCome rules (contents s) next mid later (run_at rules z b) v) there t

      each_come : (last : Held) (new : Level) (u : Value ℕ) (r : Run ℕ (Value ℕ)) → settled_at f b n ns v ≡ r →
          Grows rules s next last → HasCome rules (contents s) last later new r u →
          HasCome rules (contents s) last old new whole u
      each_come last new u r is grow c = i.come last new u (grows_then rules s now next last (grows rules s
          (inner_at n b) now next here) grow) (subst (λ z. HasCome rules (contents s) last mid new z u) (sym steps)
          (come_then rules s (inner_at n b) (settled_at f b n ns) v r u next last mid later new is g.right come_here
          grow c))

      pub each_ends : (u : Value ℕ) → settled_at f b n ns v ≡ Gives u →
          HasCome rules (contents s) next old later whole u
      each_ends u is = each_come next later u (Gives u) is (grows_none rules s next g.right) (come_gives rules s next
          later (Gives u) u refl)

      pub each_on : (k : Fold) → settled_at f b n ns v ≡ elements_at k b ns →
          GoesOn rules s first next old later whole (elements_at k b ns) (λ v. v)
      each_on k is = record {
        right = g.right;
        come = λ last new u grow c. each_come last new u (elements_at k b ns) is grow c;
        gains = λ last h. each_first last (gains_then rules s (inner_at n b) (settled_at f b n ns) v (elements_at
            k b ns) now next last mid later is here come_here h);
      }

  -- no element more
  pub each_all : (whole : Run ℕ (Value ℕ)) (first now : Held) (old mid : Level) (f : Fold) (b : Body) (nodes : List ℕ) →
      nodes ≡ [] → (v : Value ℕ) → elements_at f b [] ≡ Gives v →
      GoesOn rules s first now old mid whole (elements_at f b nodes) (λ v. v) →
      HasCome rules (contents s) now old mid whole v
  each_all whole first now old mid f b nodes none v is i = i.come now mid v (grows_none rules s now i.right)
      (come_gives rules s now mid (elements_at f b nodes) v (ap (elements_at f b) none ∙ is))
