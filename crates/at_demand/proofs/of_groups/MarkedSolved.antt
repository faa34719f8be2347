-- What is solved and marked whole then.
use Rattle.std.proofs.Common.{◌≡◌, ℕ, true, List, ◌++◌, Some, Result, Ok, Err, inl, inr, refl, sym, ap, ◌∙◌, subst}
use Rattle.std.proofs.lemmas.Option.{same_Some}
use Rattle.std.specs.Prelude.{IsErrAnd, IsSome}
use Rattle.std.specs.Map.{lookup}
use Rattle.at_model.specs.Run.{Instance}
use Rattle.at_model.specs.Meaning.{Among}
use Rattle.at_model.specs.Rules.{Rules}
use Rattle.at_model.specs.of_fixpoints.Fixpoints.{EndsSo}
use Rattle.at_store.specs.Shown.{Shown, contents}
use Rattle.at_body.specs.Same.{same_instance}
use Rattle.at_cache.specs.Kept.{Entries}
use Rattle.at_cache.specs.Traced.{Memories}
use Rattle.at_search.specs.Recorded.{AreWhole as AreWholeOver, end_of}
use Rattle.at_search.specs.declared.ended.Ended.{Ended}
use Rattle.at_demand.specs.declared.evaluation.Find.{Find}
use Rattle.at_demand.specs.declared.question.Question.{Question}
use Rattle.at_demand.specs.ChainSteps.{HasMarkedAll}
use Rattle.at_demand.specs.Covering.{AreWhole}
use Rattle.at_demand.specs.Groups.{HasMarkedSolved, HasSolved, KeepsGroups, Tells}
use Rattle.at_demand.specs.Known.{FoundKept, known_in}
use Rattle.at_evaluate.specs.Valued.{meaning}
use Rattle.at_demand.specs.Levels.{AreFactsOf, IsFormOf}
use Rattle.at_evaluate.specs.Meant.{AreRightValues}
use Rattle.at_demand.specs.Only.{AreLean}
use Rattle.at_demand.specs.Worth.{AreSettled}
use Rattle.at_demand.proofs.Marking.{told_among}
use Rattle.at_demand.proofs.of_groups.KeptGroup.{err_ok, fails_too}
use Rattle.at_demand.proofs.of_groups.Members.{entry_key, key_entry}
use Rattle.at_demand.proofs.of_groups.Telling.{tells_so}

-- whole, it has ended as it had
abbrev whole : Ended → Ended
whole x = record { ending = x.ending; is_whole = true }

module _ (these : List (Instance ℕ)) (mid new : Question) (m : HasMarkedAll these mid new) where
  -- each that was recorded is recorded to have ended so still
  pub ending_on : (i : Instance ℕ) (x : Ended) → lookup (same_instance i) mid.ended.entries ≡ Some x →
      (y : Ended) × (lookup (same_instance i) new.ended.entries ≡ Some y) × (y.ending ≡ x.ending)
  ending_on i x at = elim (told_among i these) [
    | inl a ↦ (whole x, m.marked i x a at, refl)
    | inr off ↦ (x, m.others i off ∙ at, refl)
  ]

  -- and was so before
  pub ending_back : (i : Instance ℕ) (y : Ended) → lookup (same_instance i) new.ended.entries ≡ Some y →
      (x : Ended) × (lookup (same_instance i) mid.ended.entries ≡ Some x) × (y.ending ≡ x.ending)
  ending_back i y at =
      let (x, there) = key_entry mid.ended.entries i (subst (Among i) m.keys (entry_key new.ended.entries i y at)) in
      let (z, here, same) = ending_on i x there in
      (x, there, ap (λ (w : Ended). w.ending) (same_Some y z (sym at ∙ here)) ∙ same)

module _ (rules : Rules) (s : Shown) (before after : Entries) (former latter : Memories)
    (earlier later : ℕ) (old mid new : Question)
    (these : List (Instance ℕ)) (m : HasMarkedAll these mid new) where
  facts_marked : AreFactsOf rules (contents s) after mid → AreFactsOf rules (contents s) after new
  facts_marked all =
      let e : mid.found.entries ≡ new.found.entries = sym m.found in
      record {
        ends = λ i d r. let (y, at, is) = r in let (x, there, same) = ending_back these mid new m i y at in
            subst (EndsSo (contents s) (meaning rules) i) is
            (subst (λ z. EndsSo (contents s) (meaning rules) i (end_of z)) (sym same) (all.ends i (end_of x.ending) (
              x,
              there,
              refl,
            )));
        forms = λ i f r. let (y, at, is) = r in let (x, there, same) = ending_back these mid new m i y at in
            subst (λ fs. IsFormOf rules (contents s) after fs i f) e (all.forms i f (x, there, sym same ∙ is));
        circular = λ i f r. let (y, at, is) = r in let (x, there, same) = ending_back these mid new m i y at in
            all.circular i f (x, there, sym same ∙ is);
        values = subst (λ fs. AreRightValues (contents s) (meaning rules) (known_in after fs)) e all.values;
        wholes = subst (λ fs. AreWholeOver (contents s) (meaning rules) (known_in after fs)) e all.wholes;
      }

  -- what was told before is told then
  pub tells_marked : (Whole : Type 0) → Tells rules s before after former latter earlier later old mid these
      Whole →
      Tells rules s before after former latter earlier later old new these Whole
  tells_marked Whole t =
      let e : mid.found.entries ≡ new.found.entries = sym m.found in
      record {
        chain = record { waiting = m.chain.waiting ∙ t.chain.waiting; inst = m.chain.inst ∙ t.chain.inst };
        level = m.level ∙ t.level;
        ended = m.keys ∙ t.ended;
        endings = λ i x at. let (y, there, same) = t.endings i x at in let (z, here, also) = ending_on these mid new m i
            y there in (z, here, also ∙ same);
        passed = m.passed ∙ t.passed;
        turns = m.turns ∙ t.turns;
        stays = t.stays;
        finds = subst (λ fs. (more : List (Instance ℕ × Find)) × (fs ≡ old.found.entries ++ more)) e t.finds;
        told = λ i some. t.told i (subst (λ fs. IsSome (known_in after fs i)) (sym e) some);
        kept = t.kept;
        entries = t.entries;
        values = subst (λ fs. AreRightValues (contents s) (meaning rules) (known_in after fs)) e t.values;
        facts = λ h. facts_marked (t.facts h);
        whole = λ h. subst (AreWhole rules (contents s)) e (t.whole h);
        took = subst (FoundKept after) e t.took;
        right = t.right;
        plain = t.plain;
        lean = λ h. subst (AreLean rules (contents s)) e (t.lean h);
        settled = λ h. subst (AreSettled rules after) e (t.settled h);
        only = t.only;
        spare = t.spare;
        counts = t.counts;
        traces = t.traces;
      }

  pub marked_solved : {E : Type 0} (r : Result (Unit {0}) E) (u : Unit {0}) → r ≡ Ok u →
      HasSolved {E = E} rules s before after former latter earlier later old mid these r →
      HasMarkedSolved {E = E} rules s before after former latter earlier later old new these (Ok (tt {0}))
  marked_solved {E = E} r u ok h = by u (subst (HasSolved {E = E} rules s before after former latter earlier later
      old mid these) ok h)
    where
      by : (u : Unit {0}) → HasSolved {E = E} rules s before after former latter earlier later old mid these
          (Ok u) →
          HasMarkedSolved {E = E} rules s before after former latter earlier later old new these (Ok (tt {0}))
      by u x = record {
        tells = tells_marked (KeepsGroups {E = E} rules (Ok u)) x.tells;
        rest = λ closed i a. elim (x.rest closed i a) [
          | inl some ↦ inl (subst (λ fs. IsSome (known_in after fs i)) (sym m.found) some)
          | inr spoilt ↦ inr spoilt
        ];
        each = λ i a. elim (x.each i a) [
          | inl some ↦ inl (subst (λ fs. IsSome (known_in after fs i)) (sym m.found) some)
          | inr stopped ↦ inr stopped
        ];
        marked = (mid, x.same, m);
      }

-- or it could not be
module _ (rules : Rules) (s : Shown) (before after : Entries) (former latter : Memories)
    (earlier later : ℕ) (old new : Question)
    (these : List (Instance ℕ)) {E : Type 0} where
  pub solving_broke : (r : Result (Unit {0}) E) (e : E) (q : Result (Unit {0}) E) (Q : E → Type 0) → r ≡ Err e →
      IsErrAnd q Q →
      HasSolved {E = E} rules s before after former latter earlier later old new these r →
      HasMarkedSolved {E = E} rules s before after former latter earlier later old new these q
  solving_broke r e q Q broke failed h = record {
    tells = tells_so rules s before after former latter earlier later old new these these (λ i a. a)
        (KeepsGroups rules r) h.tells (KeepsGroups rules q)
        (λ whole. h.tells.spare (fails_too rules r e q Q broke failed whole));
    rest = λ closed. err_ok _ q Q failed;
    each = err_ok _ q Q failed;
    marked = err_ok _ q Q failed;
  }
