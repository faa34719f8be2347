-- What turns leave of a search, and what they answer.
use Rattle.std.proofs.Common.{◌≡◌, ◌⊎◌, ℕ, ◌+◌, arith, List, [], ◌∷◌, ◌++◌, Option, Some, None, inl, inr, refl, sym, subst, ap}
use Rattle.at_model.specs.Run.{Value, Instance, Contents, FaultKind, Known, Run, Gives, Fails, Looks, Demands}
use Rattle.at_model.specs.Meaning.{Outcome, Finds, Faults, Among, Reaches, Answer, Outcomes, Circle}
use Rattle.at_model.proofs.Reached.{back_among}
use Rattle.at_model.specs.of_fixpoints.Formulas.{Formula, Forms}
use Rattle.at_model.specs.of_fixpoints.Fixpoints.{End, Spoilt, LeadsOver, stays, goes, Ends, HoldsAt, Holds, HasValue, EndsSo}
use Rattle.at_model.specs.of_fixpoints.Circles.{HasNone, IsOpen, Closes, Circular, Answers}
use Rattle.at_model.specs.of_fixpoints.Circles as closes
use Rattle.at_model.specs.of_fixpoints.Resting.{Comes, Leads}
use Rattle.at_model.specs.of_fixpoints.Resting as led
use Rattle.at_model.specs.of_fixpoints.Searching.{Level, Search, Looked, begun, posted, root_of, asked, asked_in, under, behind, past, gone_to, gone_over, fallen_to, First, this, passes, IsPassed, IsValued, Adds, IsStuck, Wants, Follows, Turned}
use Rattle.at_model.specs.of_fixpoints.Searching as turn
use Rattle.at_model.specs.of_fixpoints.Searched.{IsWhole, HasCome, AreStacked, IsOn}
use Rattle.at_model.proofs.of_formulas.Heights.{higher, ends_more}
use Rattle.at_model.proofs.of_searching.Thinning.{IsTold}
use Rattle.at_model.proofs.of_searching.Strictly.{wants_none, stuck_none}
use Rattle.at_model.proofs.of_searching.Steps.{has_begun, has_passed, has_seen}

module _ {N : Type 0} (look : Contents N) (forms : Forms N) where
  pub leads_over : (i j k : Instance N) → LeadsOver (EndsSo look forms) i j → Leads look forms j k → Leads look forms i k
  leads_over _ j k (stays _) l = l
  leads_over _ j k (goes i m _ f h a r) l = led.goes i m k (inr (f, h, a)) (leads_over m j k r l)

  pub leads_by : (i j k : Instance N) → Leads look forms i j → Leads look forms j k → Leads look forms i k
  leads_by _ _ k (led.stays i) l = l
  leads_by _ _ k (led.goes i m j c r) l = led.goes i m k c (leads_by m j k r l)

  -- what was asked leads to what the last level demands
  pub root_led : (root : Instance N) (ls : List (Level N)) → AreStacked look forms root ls →
      Leads look forms (root_of root ls) root
  root_led root [] s = led.stays root
  root_led root (l ∷ ls) (demands, off, (come, fresh, shut), rest) =
      leads_by (root_of l.root ls) l.root root (root_led l.root ls rest)
      (leads_over l.root l.next root (come.led l.next (back_among l.next l.seen (l.next ∷ l.todo) (inl refl)))
      (led.goes l.next root root (inl demands) (led.stays root)))

  -- where what the last level demands has no outcome, what closes there closes what was asked
  closes_down : (root : Instance N) (ls : List (Level N)) (j : Instance N) → AreStacked look forms root ls →
      HasNone look forms root → Closes look forms (under ls) [] (root ∷ []) j → Circular look forms (root_of root ls) j
  closes_down root [] j s none x = x
  closes_down root (l ∷ ls) j (demands, off, (come, fresh, shut), rest) none x =
      closes_down l.root ls j rest
      (wants_none look forms l.root root
      (record { by = l.next; led = come.led l.next (back_among l.next l.seen (l.next ∷ l.todo) (inl refl)); demands = demands })
      none)
      (come.closes j (closes.deeper l.next root shut fresh (demands, none) off x))

-- where it demands one that has a fault it ends by that
pub demanded_fault : {N : Type 0} (look : Contents N) (forms : Forms N) (i k : Instance N) (f : FaultKind) (at : Instance N)
    (r : Run N (Formula N)) → Reaches look (HasValue look forms) r k → Holds look forms k (Faults f at) →
    (n : ℕ) × Ends look (HoldsAt look forms n) i r (Spoilt f at)
demanded_fault look forms i k f at (Gives a) x h = absurd x
demanded_fault look forms i k f at (Fails g) x h = absurd x
demanded_fault look forms i k f at (Looks l c) x h = demanded_fault look forms i k f at (c (look l)) x h
demanded_fault look forms i k f at (Demands m c) (inl e) (n, h) =
    (n, inr (f, at, subst (λ z. HoldsAt look forms n z (Faults f at)) (sym e) h, refl))
demanded_fault look forms i k f at (Demands m c) (inr (v, (d, g), x)) h =
    let (n, y) = demanded_fault look forms i k f at (c v) x h in
    let p : n + d ≡ d + n = omega arith in (
      d + n,
      inl (
        v,
        higher look forms d n m (Finds v) g,
        subst (λ z. Ends look (HoldsAt look forms z) i (c v) (Spoilt f at)) p
            (ends_more look (HoldsAt look forms n) (HoldsAt look forms (n + d)) (λ j o z. higher look forms n d j o z) i (c v)
            (Spoilt f at) y),
      ),
    )

-- The question q has come so far between two tries.
pub record IsBetween {N : Type 0} (look : Contents N) (forms : Forms N) (q : Instance N) (s : Looked N) : Type 0 where
  pub starts : root_of s.root s.below ≡ q
  pub come : HasCome look forms (under s.below) s.root s.seen s.todo
  pub stacked : AreStacked look forms s.root s.below
  pub told : (i : Instance N) (o : Outcome N) → Among (i, o) s.told → Holds look forms i o
  pub ended : (i : Instance N) → Among i s.ended → (e : End N (Formula N)) × EndsSo look forms i e

module _ {N : Type 0} (look : Contents N) (forms : Forms N) (told : IsTold (Instance N)) (kept : Known N)
    (right : (i : Instance N) (v : Value N) → kept i ≡ Some v → HasValue look forms i v) (q : Instance N)
    (whole : (i : Instance N) (v : Value N) → Leads look forms q i → HasValue look forms i v → IsWhole look forms i)
    (valued : (i : Instance N) → IsWhole look forms i → HasNone look forms i → ⊥) where
  -- what is passed was seen, or is whole
  pass_of : (s : Looked N) → IsBetween look forms q s → (i : Instance N) → Leads look forms q i → IsPassed kept s i →
      Among i s.seen ⊎ IsWhole look forms i
  pass_of s b i l (inl a) = inl a
  pass_of s b i l (inr (v, inl k)) = inr (whole i v l (right i v k))
  pass_of s b i l (inr (v, inr t)) = inr (whole i v l (b.told i (Finds v) t))

  -- all to do is led to
  pub led_to : (s : Looked N) → IsBetween look forms q s → (i : Instance N) → Among i s.todo → Leads look forms q i
  led_to s b i a =
      subst (λ z. Leads look forms z i) b.starts
      (leads_by look forms (root_of s.root s.below) s.root i (root_led look forms s.root s.below b.stacked)
      (leads_over look forms s.root i i (b.come.led i (back_among i s.seen s.todo a)) (led.stays i)))

  passes_to : (s : Looked N) → IsBetween look forms q s → (todo : List (Instance N)) (i : Instance N)
      (rest : List (Instance N)) → ((j : Instance N) → Among j todo → Leads look forms q j) →
      HasCome look forms (under s.below) s.root s.seen todo → First (IsPassed kept s) todo i rest →
      HasCome look forms (under s.below) s.root s.seen (i ∷ rest) × (¬ (Among i s.seen))
  passes_to s b _ _ _ l c (this i rest n) = (c, λ a. n (inl a))
  passes_to s b _ i rest l c (passes j {todo} done f) =
      passes_to s b todo i rest (λ k a. l k (inr a))
      (has_passed look forms told (under s.below) s.root s.seen j todo valued c (pass_of s b j (l j (inl refl)) done)) f

  -- so the question stands at the first one that isn't passed
  pub first_at : (s : Looked N) → IsBetween look forms q s → (i : Instance N) (rest : List (Instance N)) →
      First (IsPassed kept s) s.todo i rest →
      HasCome look forms (under s.below) s.root s.seen (i ∷ rest) × (¬ (Among i s.seen))
  first_at s b i rest f = passes_to s b s.todo i rest (led_to s b) b.come f

  -- between two tries, past one whose equation has ended
  pub over_on : (s : Looked N) → IsBetween look forms q s → (i : Instance N) (rest : List (Instance N)) (e : End N (Formula N)) →
      First (IsPassed kept s) s.todo i rest → (¬ (IsOpen look forms (under s.below) i)) → EndsSo look forms i e →
      IsBetween look forms q (gone_over s i rest e)
  over_on s b i rest e f shut x =
      let (c, fresh) = first_at s b i rest f in
      record {
        starts = b.starts;
        come = has_seen look forms told (under s.below) s.root s.seen i rest e x fresh shut c;
        stacked = b.stacked;
        told = b.told;
        ended = b.ended;
      }

  -- at the level below, where the last one's outcome is told
  pub fallen_on : (s : Looked N) → IsBetween look forms q s → (l : Level N) (ls : List (Level N))
      (more : List (Instance N × Outcome N)) → s.below ≡ l ∷ ls →
      ((i : Instance N) (o : Outcome N) → Among (i, o) more → Holds look forms i o) → IsOn look forms q (fallen_to s l ls more)
  fallen_on s b l ls more e holds =
      let (demands, off, at, rest) = subst (AreStacked look forms s.root) e b.stacked in
      record {
        starts = subst (λ z. root_of s.root z ≡ q) e b.starts;
        last = at;
        stacked = rest;
        told = holds;
        ended = b.ended;
      }

  -- behind the try of its next one, which has ended so
  pub behind_on : (s : Search N) → IsOn look forms q s → (e : End N (Formula N)) → EndsSo look forms s.last.next e →
      IsBetween look forms q (behind s e)
  behind_on s o e x =
      let (c, fresh, shut) = o.last in
      record {
        starts = o.starts;
        come = has_seen look forms told (under s.below) s.last.root s.last.seen s.last.next s.last.todo e x fresh shut c;
        stacked = o.stacked;
        told = o.told;
        ended = λ i h. elim h [
          | inl p ↦ subst (λ z. (d : End N (Formula N)) × EndsSo look forms z d) (sym p) (e, x)
          | inr a ↦ o.ended i a
        ];
      }

  adds_hold : (these : List (Instance N)) (told' more : List (Instance N × Outcome N)) → Adds look forms these told' more →
      ((i : Instance N) (o : Outcome N) → Among (i, o) told' → Holds look forms i o) →
      (i : Instance N) (o : Outcome N) → Among (i, o) more → Holds look forms i o
  adds_hold these told' more a h i o m = elim (a.holds i o m) [ inl t ↦ h i o t | inr (w, g) ↦ g ]

  pub with_fault : (s : Looked N) → IsBetween look forms q s → (k : FaultKind) (at : Instance N) →
      Holds look forms s.root (Faults k at) → (i : Instance N) (o : Outcome N) →
      Among (i, o) ((s.root, Faults k at) ∷ s.told) → Holds look forms i o
  with_fault s b k at h i o (inl p) = let d : i ≡ s.root = ap (λ (x : Instance N × Outcome N). x.0) p in let g : o ≡ Faults k at = ap (λ (x : Instance N × Outcome N). x.1) p in
      subst (λ z. Holds look forms i z) (sym g) (subst (λ z. Holds look forms z (Faults k at)) (sym d) h)
  with_fault s b k at h i o (inr a) = b.told i o a

  -- where the level below demanded that, its equation has ended by the fault
  pub spoilt_below : (s : Looked N) → IsBetween look forms q s → (l : Level N) (ls : List (Level N)) → s.below ≡ l ∷ ls →
      (k : FaultKind) (at : Instance N) → Holds look forms s.root (Faults k at) → EndsSo look forms l.next (Spoilt k at)
  spoilt_below s b l ls e k at h =
      let (demands, off, come, rest) = subst (AreStacked look forms s.root) e b.stacked in
      demanded_fault look forms l.next s.root k at (forms.formula l.next) demands h

  -- between two tries, with outcomes of what the levels have seen
  pub told_on : (s : Looked N) → IsBetween look forms q s → (more : List (Instance N × Outcome N)) →
      Adds look forms (s.seen ++ under s.below) s.told more → IsBetween look forms q (record s { told = more })
  told_on s b more a = record {
    starts = b.starts;
    come = b.come;
    stacked = b.stacked;
    told = adds_hold (s.seen ++ under s.below) s.told more a b.told;
    ended = b.ended;
  }

  -- a question follows on its tree
  pub follows_on : (s : Looked N) (new : Search N) (o : Option (Answer N)) → IsBetween look forms q s →
      Follows look forms kept s new o → o ≡ None → IsOn look forms q new
  follows_on s _ _ b (turn.goes_to {i = i} {rest = rest} f shut off) e =
      let (c, fresh) = first_at s b i rest f in
      record { starts = b.starts; last = (c, fresh, shut); stacked = b.stacked; told = b.told; ended = b.ended }
  follows_on s new o b (turn.goes_over {i = i} {rest = rest} d f shut a x y) e =
      follows_on (gone_over s i rest d) new o (over_on s b i rest d f shut x) y e
  follows_on s _ _ b (turn.comes_back f a x) e = absurd cc
  follows_on s _ _ b (turn.has_found new v all below h r) e = absurd cc
  follows_on s _ _ b (turn.has_failed new k at all below h) e = absurd cc
  follows_on s _ _ b (turn.finds l ls v more all below h r adds m) e =
      fallen_on s b l ls more below (adds_hold s.seen s.told more adds b.told)
  follows_on s new o b (turn.faults l ls k at all below h y) e =
      follows_on (behind (fallen_to s l ls ((s.root, Faults k at) ∷ s.told)) (Spoilt k at)) new o
      (behind_on (fallen_to s l ls ((s.root, Faults k at) ∷ s.told))
      (fallen_on s b l ls ((s.root, Faults k at) ∷ s.told) below (with_fault s b k at h)) (Spoilt k at)
      (spoilt_below s b l ls below k at h)) y e
  follows_on s new o b (turn.tells more a y) e = follows_on (record s { told = more }) new o (told_on s b more a) y e

  -- what it answers then is the answer of what was asked
  pub follows_answers : (s : Looked N) (new : Search N) (o : Option (Answer N)) (a : Answer N) → IsBetween look forms q s →
      Follows look forms kept s new o → o ≡ Some a → Answers look forms q a
  follows_answers s _ _ a b (turn.goes_to f shut off) e = absurd cc
  follows_answers s new o a b (turn.goes_over {i = i} {rest = rest} d f shut h x y) e =
      follows_answers (gone_over s i rest d) new o a (over_on s b i rest d f shut x) y e
  follows_answers s _ _ a b (turn.comes_back {i = i} {rest = rest} f under_way stuck) e =
      let (c, fresh) = first_at s b i rest f in
      let none = stuck_none look forms s.root i (c.led i (back_among i s.seen (i ∷ rest) (inl refl))) stuck in
      let shut = stuck_none look forms i i (stays i) stuck in
      let x = closes_down look forms s.root s.below i b.stacked none (c.closes i (closes.back i (under_way, shut))) in
      let y : Answers look forms q (Circle i) = subst (λ z. Circular look forms z i) b.starts x in
      let d : Circle i ≡ a = cc in subst (Answers look forms q) d y
  follows_answers s _ _ a b (turn.has_found new v all below h r) e =
      let d : Outcomes (Finds v) ≡ a = cc in
      let g : s.root ≡ q = subst (λ z. root_of s.root z ≡ q) below b.starts in
      subst (Answers look forms q) d (subst (λ z. HasValue look forms z v) g h)
  follows_answers s _ _ a b (turn.has_failed new k at all below h) e =
      let d : Outcomes (Faults k at) ≡ a = cc in
      let g : s.root ≡ q = subst (λ z. root_of s.root z ≡ q) below b.starts in
      subst (Answers look forms q) d (subst (λ z. Holds look forms z (Faults k at)) g h)
  follows_answers s _ _ a b (turn.finds l ls v more all below h r adds m) e = absurd cc
  follows_answers s new o a b (turn.faults l ls k at all below h y) e =
      follows_answers (behind (fallen_to s l ls ((s.root, Faults k at) ∷ s.told)) (Spoilt k at)) new o a
      (behind_on (fallen_to s l ls ((s.root, Faults k at) ∷ s.told))
      (fallen_on s b l ls ((s.root, Faults k at) ∷ s.told) below (with_fault s b k at h)) (Spoilt k at)
      (spoilt_below s b l ls below k at h)) y e
  follows_answers s new o a b (turn.tells more m y) e =
      follows_answers (record s { told = more }) new o a (told_on s b more m) y e

  pub past_on : (s : Search N) → IsOn look forms q s → (v : Value N) → kept s.last.next ≡ Some v → IsBetween look forms q (past s)
  past_on s o v k =
      let (c, fresh, shut) = o.last in
      let l = subst (λ z. Leads look forms z s.last.next) o.starts
      (leads_by look forms (asked s) s.last.root s.last.next (root_led look forms s.last.root s.below o.stacked)
      (leads_over look forms s.last.root s.last.next s.last.next
      (c.led s.last.next (back_among s.last.next s.last.seen (s.last.next ∷ s.last.todo) (inl refl)))
      (led.stays s.last.next))) in
      record {
        starts = o.starts;
        come = has_passed look forms told (under s.below) s.last.root s.last.seen s.last.next s.last.todo valued c
            (inr (whole s.last.next v l (right s.last.next v k)));
        stacked = o.stacked;
        told = o.told;
        ended = λ i h. elim h [
          | inl p ↦ subst (λ z. (e : End N (Formula N)) × EndsSo look forms z e) (sym p) (end_of s.last.next (whole s.last.next v l (right s.last.next v k)))
          | inr a ↦ o.ended i a
        ];
      }
    where
      end_of : (i : Instance N) → IsWhole look forms i → (e : End N (Formula N)) × EndsSo look forms i e
      end_of i (W, c, h) = let x = c i h in (x.end, x.ends)

  pub settled_on : (s : Search N) → IsOn look forms q s → (more : List (Instance N × Outcome N)) →
      Adds look forms (under (s.last ∷ s.below)) s.told more → IsOn look forms q (record s { told = more })
  settled_on s o more a = record {
    starts = o.starts;
    last = o.last;
    stacked = o.stacked;
    told = adds_hold (under (s.last ∷ s.below)) s.told more a o.told;
    ended = o.ended;
  }

  -- a turn leaves a question on its tree
  pub turned_on : (s new : Search N) (o : Option (Answer N)) → IsOn look forms q s → Turned look forms kept s new o →
      o ≡ None → IsOn look forms q new
  turned_on s _ _ b (turn.is_kept v k h) e = absurd cc
  turned_on s new o b (turn.passed v k y) e = follows_on (past s) new o (past_on s b v k) y e
  turned_on s new o b (turn.ends d x y) e = follows_on (behind s d) new o (behind_on s b d x) y e
  turned_on s _ _ b (turn.closes j r i) e = absurd cc
  turned_on s _ _ b (turn.deepens j r off unknown fresh) e = record {
    starts = b.starts;
    last = (has_begun look forms told (under (s.last ∷ s.below)) j, (λ a. a), (λ i. off i.0));
    stacked = (r, off, b.last, b.stacked);
    told = b.told;
    ended = b.ended;
  }
  turned_on s new o b (turn.settles more a y) e = turned_on (record s { told = more }) new o (settled_on s b more a) y e

  -- what it answers is the answer of what was asked
  pub turned_answers : (s new : Search N) (o : Option (Answer N)) (a : Answer N) → IsOn look forms q s →
      Turned look forms kept s new o → o ≡ Some a → Answers look forms q a
  turned_answers s _ _ a b (turn.is_kept v k h) e =
      let d : Outcomes (Finds v) ≡ a = cc in
      subst (Answers look forms q) d (subst (λ z. HasValue look forms z v) b.starts h)
  turned_answers s new o a b (turn.passed v k y) e = follows_answers (past s) new o a (past_on s b v k) y e
  turned_answers s new o a b (turn.ends d x y) e = follows_answers (behind s d) new o a (behind_on s b d x) y e
  turned_answers s _ _ a b (turn.closes j r (under_way, none)) e =
      let (c, fresh, shut) = b.last in
      let to_next = c.led s.last.next (back_among s.last.next s.last.seen (s.last.next ∷ s.last.todo) (inl refl)) in
      let lost = wants_none look forms s.last.root j (record { by = s.last.next; led = to_next; demands = r }) none in
      let x = closes_down look forms s.last.root s.below j b.stacked lost
      (c.closes j (closes.comes_back s.last.next j shut fresh (r, none) under_way)) in
      let y : Answers look forms q (Circle j) = subst (λ z. Circular look forms z j) b.starts x in
      let d : Circle j ≡ a = cc in subst (Answers look forms q) d y
  turned_answers s _ _ a b (turn.deepens j r off unknown fresh) e = absurd cc
  turned_answers s new o a b (turn.settles more m y) e =
      turned_answers (record s { told = more }) new o a (settled_on s b more m) y e

-- a question as it is posted
pub begun_on : {N : Type 0} (look : Contents N) (forms : Forms N) → IsTold (Instance N) → (q : Instance N) →
    IsOn look forms q (posted q)
begun_on look forms told q = record {
  starts = refl;
  last = (has_begun look forms told [] q, (λ a. a), (λ o. o.0));
  stacked = tt;
  told = λ i o h. absurd h;
  ended = λ i h. absurd h;
}
