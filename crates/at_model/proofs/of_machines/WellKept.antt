-- What is kept stays well kept over every line.
use Rattle.std.proofs.Common.{◌≡◌, true, Ok, ◌⊎◌, inl, inr, refl, sym, ap, ◌∙◌}
use Rattle.at_model.specs.Trees.{Tree, conforms}
use Rattle.at_model.specs.Paths.{Node}
use Rattle.at_model.specs.Run.{Value, Instance, Location, Contents}
use Rattle.at_model.specs.Rules.{Rules, is_lazy}
use Rattle.at_model.specs.Meaning.{Outcome, Finds, content}
use Rattle.at_model.specs.Asking.{IsWellFormed}
use Rattle.at_model.specs.Alike.{InstanceLike, Names, OutcomeLike}
use Rattle.at_model.specs.Alike as alike
use Rattle.at_model.specs.Edits.{Edit, carried, edited}
use Rattle.at_model.specs.Lines.{Line}
use Rattle.at_model.specs.Machine.{State, Verdict, after, verdict, IsSound}
use Rattle.at_model.specs.Sparing.{IsWorthKeeping, KeptAfter, AreWellKept, SpreadsValues}
use Rattle.at_model.specs.of_fixpoints.Evaluations.{forms}
use Rattle.at_model.specs.of_fixpoints.Fixpoints.{Holds, HasValue}
use Rattle.at_model.specs.of_fixpoints.Formulas.{Forms}
use Rattle.at_model.specs.of_fixpoints.Met.{IsMet}
use Rattle.at_model.specs.of_fixpoints.Resting.{IsUntouched, Leads, Supports}
use Rattle.at_model.proofs.of_formulas.CarriedByFormulas.{outcome_there, leads_back}
use Rattle.at_model.proofs.of_formulas.Spreading.{leads_further, values_spread}
use Rattle.at_model.proofs.of_formulas.Untouched.{agree, below, like}
use Rattle.at_model.proofs.of_edits.Changes.{whole}
use Rattle.at_model.proofs.of_machines.Sound.{Safe, refused, told, asked, left, edits, posts, waited, safe}
use Rattle.at_model.proofs.of_machines.WellAsked.{well_asked as asks_well}
use Rattle.at_model.proofs.of_edits.Larger.{within_edited}

-- what is like a value is one
as_value : {N M : Type 0} {R : N → M → Type 0} (look : Contents M) (forms : Forms M) (j : Instance M)
    (v : Value N) (o : Outcome N) (p : Outcome M) → o ≡ Finds v → Holds look forms j p → OutcomeLike R o p
    → (w : Value M) × HasValue look forms j w
as_value look forms j v o p e h (alike.find {w = w} s) = (w, h)
as_value look forms j v o p e h (alike.fault f s) = absurd cc

-- what was met leads to what was met
met_on : {N : Type 0} (look : Contents N) (forms : Forms N) (q i j : Instance N) →
    Leads look forms i j → IsMet look forms q i → IsMet look forms q j
met_on look forms q i j leads met = record {
  by = met.by;
  looked = met.looked;
  settled = met.settled;
  is = met.is;
  outcome = met.outcome;
  holds = met.holds;
  led = leads_further look forms met.settled i j met.led leads;
}

supports_on : {N : Type 0} (look : Contents N) (forms : Forms N) (i j : Instance N) (l : Location N) →
    Leads look forms i j → Supports look forms l j → Supports look forms l i
supports_on look forms i j l leads (k, more, sees) = (k, leads_further look forms i j k leads more, sees)

module _ (rules : Rules) (s : State) (Kept : Instance Node → Type 0) (well : AreWellKept rules s.tree Kept) where
  module _ (sound : IsSound rules.classes s) (spreads : SpreadsValues rules s.tree) (q : Instance Node)
      (formed : IsWellFormed rules s.tree q) where
    -- what is worth keeping leads to what is, where that is lazy
    worth_on : (i j : Instance Node) → IsWorthKeeping rules s.tree q i → Leads (content s.tree) (forms rules) i j →
        is_lazy rules j.attribute ≡ true → IsWorthKeeping rules s.tree q j
    worth_on i j worth leads is =
        let (v, has) = values_spread rules s sound spreads q i j worth.value formed worth.reached worth.has leads in
        record {
          reached = leads_further (content s.tree) (forms rules) q i j worth.reached leads;
          lazy = is;
          value = v;
          has = has;
          before = λ c circle. met_on (content s.tree) (forms rules) q i j leads (worth.before c circle);
        }

    well_asked : AreWellKept rules s.tree (λ j. Kept j ⊎ IsWorthKeeping rules s.tree q j)
    well_asked = record { lazy = lazy; valued = valued; deep = deep }
      where
        lazy : (i : Instance Node) → Kept i ⊎ IsWorthKeeping rules s.tree q i → is_lazy rules i.attribute ≡ true
        lazy i (inl kept) = well.lazy i kept
        lazy i (inr worth) = worth.lazy

        valued : (i : Instance Node) → Kept i ⊎ IsWorthKeeping rules s.tree q i →
            (v : Value Node) × HasValue (content s.tree) (forms rules) i v
        valued i (inl kept) = well.valued i kept
        valued i (inr worth) = (worth.value, worth.has)

        deep : (i j : Instance Node) → Kept i ⊎ IsWorthKeeping rules s.tree q i →
            Leads (content s.tree) (forms rules) i j → is_lazy rules j.attribute ≡ true →
            Kept j ⊎ IsWorthKeeping rules s.tree q j
        deep i j (inl kept) leads is = inl (well.deep i j kept leads is)
        deep i j (inr worth) leads is = inr (worth_on i j worth leads is)

  module _ (ok : conforms rules.classes s.tree 0 ≡ true) (e : Edit) (u : Tree) (made : edited rules.classes s.tree e ≡ Ok u) where
    value_there : (i j : Instance Node) (v : Value Node) → IsUntouched rules s.tree e i
        → InstanceLike (Names (carried e)) i j → HasValue (content s.tree) (forms rules) i v
        → (w : Value Node) × HasValue (content u) (forms rules) j w
    value_there i j v free same has =
        let (p, holds, l) = outcome_there (agree e) (content s.tree) (content u) (forms rules) (forms rules)
        (like rules e) i j (Finds v) (same, below rules s.tree u e i ok made free) has in
        as_value (content u) (forms rules) j v (Finds v) p refl holds l

    -- kept before the edit and not touched by it, and then called this
    abbrev pub Stays : Instance Node → Type 0
    Stays j = (i : Instance Node) × Kept i × IsUntouched rules s.tree e i × InstanceLike (Names (carried e)) i j

    led_stays : (i j k : Instance Node) → Kept i → IsUntouched rules s.tree e i
        → InstanceLike (Names (carried e)) i j
        → Leads (content u) (forms rules) j k → is_lazy rules k.attribute ≡ true → Stays k
    led_stays i j k kept free alike leads is =
        let (m, (same, more), led) = leads_back (agree e) (content s.tree) (content u) (forms rules) (forms rules)
        (like rules e) i j k (alike, below rules s.tree u e i ok made free) leads in (
          m,
          well.deep i m kept led (ap (is_lazy rules) same.attribute ∙ is),
          (λ l rests. free l (supports_on (content s.tree) (forms rules) i m l led rests)),
          same,
        )

    well_edited : AreWellKept rules u Stays
    well_edited = record {
      lazy = λ j (i, kept, free, like). ap (is_lazy rules) (sym like.attribute) ∙ well.lazy i kept;
      valued = λ j (i, kept, free, like). let (v, has) = well.valued i kept in value_there i j v free like has;
      deep = λ j k (i, kept, free, like) leads is. led_stays i j k kept free like leads is;
    }

  well_after : IsSound rules.classes s → SpreadsValues rules s.tree → (l : Line) (v : Verdict) → verdict rules s l ≡ v →
      Safe rules.classes s v → AreWellKept rules (after s v).tree (KeptAfter rules s v Kept)
  well_after sound spreads l v is (refused c) = well
  well_after sound spreads l v is (told shown) = well
  well_after sound spreads l v is (asked q) = well_asked sound spreads q (asks_well rules s l q is)
  well_after sound spreads l v is (left marks lead) = well
  well_after sound spreads l v is (posts q lead) = well
  well_after sound spreads l v is (waited number) = well
  well_after sound spreads l v is (edits e u made) =
      well_edited sound.tree_conforms e u (within_edited s.limit rules.classes s.tree e u made).0

pub kept_well : (rules : Rules) (s : State) (l : Line) (Kept : Instance Node → Type 0)
    → IsSound rules.classes s → SpreadsValues rules s.tree → AreWellKept rules s.tree Kept
    → AreWellKept rules (after s (verdict rules s l)).tree (KeptAfter rules s (verdict rules s l) Kept)
kept_well rules s l Kept sound spreads well = well_after rules s Kept well sound spreads l (verdict rules s l) refl (whole (Safe rules.classes s) refused rules s l (safe rules s sound l.session l.command))
