-- Searches by rules, over a tree.
use Rattle.std.proofs.Common.{◌≡◌, ◌⊎◌, ℕ, zero, suc, ◌+◌, ◌*◌, ◌≤◌, length, Bool, true, false, List, Option, Some, None, inl, inr, refl, sym, subst, ◌∙◌}
use Rattle.at_model.specs.Run.{Value, Instance, Known}
use Rattle.at_model.specs.Rules.{Rules, start_of}
use Rattle.at_model.specs.Trees.{Tree}
use Rattle.at_model.specs.Paths.{Node, node_eq}
use Rattle.at_model.specs.Meaning.{Among, Answer, Finds, content}
use Rattle.at_model.specs.Asking.{IsWellFormed}
use Rattle.at_model.specs.Instances.{instances}
use Rattle.at_model.specs.WellFormed.{AreWellFormed, IsTreeSound}
use Rattle.at_model.specs.of_fixpoints.Evaluations.{forms}
use Rattle.at_model.specs.of_fixpoints.Formulas.{Formula, atoms}
use Rattle.at_model.specs.of_fixpoints.Fixpoints.{End, Made, Spoilt, Valued, EndsAt, EndsSo, HasForm, HasValue}
use Rattle.at_model.specs.of_fixpoints.Circles.{HasNone, Answers}
use Rattle.at_model.specs.of_fixpoints.Resting.{Leads}
use Rattle.at_model.specs.of_fixpoints.Searching.{Search, Silent, Turned, asked_in, posted}
use Rattle.at_model.specs.of_fixpoints.Searched.{IsMade, EndsWell, IsWhole, IsOn}
use Rattle.at_model.proofs.Computed.{is_among, among_sound, among_is}
use Rattle.at_model.proofs.of_formulas.UniqueOutcomes.{ends_at}
use Rattle.at_model.proofs.of_formulas.Components.{pick, FormedIn, form_of, are_formed}
use Rattle.at_model.proofs.of_formulas.Closure.{closure, leads_by}
use Rattle.at_model.proofs.of_formulas.FormulasTogether.{listed}
use Rattle.at_model.proofs.of_formulas.Solved.{component_valued, one_depth}
use Rattle.at_model.proofs.of_formulas.StartsKept.{of_none}
use Rattle.at_model.proofs.of_searching.Thinning.{IsTold}
use Rattle.at_model.proofs.of_searching.FewTurns.{few_turns}
use Rattle.at_model.proofs.of_searching.Turned as turned

-- whether an instance is one of a list can be told
pub told : IsTold (Instance Node)
told i is = by_test (is_among i is) refl
  where
    by_test : (b : Bool) → is_among i is ≡ b → Among i is ⊎ (¬ (Among i is))
    by_test true e = inl (among_sound i is e)
    by_test false e = inr (λ h. let q : is_among i is ≡ true = among_is i is h in let z : true ≡ false = sym q ∙ e in absurd cc)

module _ (rules : Rules) (t : Tree) where
  abbrev Whole : Instance Node → Type 0
  Whole = IsWhole (content t) (forms rules)

  -- the list of what is whole
  closed_list : (n : ℕ) (W js : List (Instance Node)) → FormedIn (EndsAt (content t) (forms rules) n) W js →
      (j : Instance Node) → Among j js → EndsWell (EndsSo (content t) (forms rules)) IsMade (λ k. Among k W) j
  closed_list n W js l j h =
      let (f, x, m) = form_of (EndsAt (content t) (forms rules) n) W js j l h in
      record { end = Made f; ends = (n, x); good = tt; next = λ k a. pick (atoms f) W k m a }

  -- what is whole has a value
  pub valued : (i : Instance Node) → Whole i → HasNone (content t) (forms rules) i → ⊥
  valued i (W, c, h) none = by_start (start_of rules i.attribute) refl
    where
      made : (j : Instance Node) → Among j W →
          (f : Formula Node) × HasForm (content t) (forms rules) j f × ((k : Instance Node) → Among k (atoms f) → Among k W)
      made j g = let x = c j g in formed x.end x.ends x.good x.next
        where
          formed : (e : End Node (Formula Node)) → EndsSo (content t) (forms rules) j e → IsMade e →
              ((k : Instance Node) → Among k (asked_in e) → Among k W) →
              (f : Formula Node) × HasForm (content t) (forms rules) j f
              × ((k : Instance Node) → Among k (atoms f) → Among k W)
          formed (Made f) y good n = (f, y, n)
          formed (Spoilt k at) y good n = absurd good

      by_start : (s : Option Bool) → start_of rules i.attribute ≡ s → ⊥
      by_start (Some b) e = let (v, x) = component_valued (content t) (forms rules) W made i b h e in none (Finds v) x
      by_start None e =
          let (n, l) = one_depth (content t) (forms rules) W W made in
          let (f, y, m) = form_of (EndsAt (content t) (forms rules) n) W W i l h in
          let (v, q) = of_none (content t) rules node_eq i f (n, y) e in
          none (Finds v) (
            suc n,
            (
              are_formed (EndsAt (content t) (forms rules) n) (ends_at (content t) (forms rules) n n) W l i h,
              subst (λ z. Valued (λ j g. EndsAt (content t) (forms rules) n j (Made g)) z i v) (sym e)
                  (subst (λ z. EndsAt (content t) (forms rules) n i (Made z)) q y),
            ),
          )

module _ (rules : Rules) (ok : AreWellFormed rules) (t : Tree) (sound : IsTreeSound rules.classes t) (q : Instance Node)
    (formed : IsWellFormed rules t q) where
  -- what is led to, and has a value, is whole
  pub whole : (i : Instance Node) (v : Value Node) → Leads (content t) (forms rules) q i →
      HasValue (content t) (forms rules) i v → IsWhole (content t) (forms rules) i
  whole i v l (zero, h) = absurd h
  whole i v l (suc n, (c, x)) =
      let (W, f, a) = closure (EndsAt (content t) (forms rules) n) i c (instances rules t q.arguments)
      (λ k r. listed rules ok t sound q formed k
      (turned.leads_by (content t) (forms rules) q i k l (leads_by (content t) (forms rules) n i k r))) in
      (W, (λ j h. closed_list rules t n W W f j h), a)

  -- a turn leaves a question on its tree
  pub stays_on : (kept : Known Node) → ((i : Instance Node) (v : Value Node) → kept i ≡ Some v → HasValue (content t) (forms rules) i v) →
      (s new : Search Node) → IsOn (content t) (forms rules) q s → Turned (content t) (forms rules) kept s new None →
      IsOn (content t) (forms rules) q new
  stays_on kept right s new on x =
      turned.turned_on (content t) (forms rules) told kept right q whole (valued rules t) s new None on x refl

  -- what it answers is the answer
  pub answered : (kept : Known Node) → ((i : Instance Node) (v : Value Node) → kept i ≡ Some v → HasValue (content t) (forms rules) i v) →
      (s new : Search Node) (a : Answer Node) → IsOn (content t) (forms rules) q s →
      Turned (content t) (forms rules) kept s new (Some a) → Answers (content t) (forms rules) q a
  answered kept right s new a on x =
      turned.turned_answers (content t) (forms rules) told kept right q whole (valued rules t) s new (Some a) a on x refl

  -- it has few turns without an answer
  pub few_of_rules : (n : ℕ) (s : Search Node) → Silent (content t) (forms rules) n (posted q) s →
      n + 2 ≤ 2 * length (instances rules t q.arguments)
  few_of_rules n s x =
      few_turns (content t) (forms rules) told q whole (valued rules t) (instances rules t q.arguments)
      (λ i l. listed rules ok t sound q formed i l) n s x
