-- What comes of turns of the question at a position.
use Rattle.std.proofs.Common.{◌≡◌, ℕ, ◌<◌, List, [], length, Option, Some, None, Result, Ok, Err, refl, sym, ap, ◌∙◌, subst, inl, inr}
use Rattle.std.specs.Prelude.{slice_get, slice_set, IfSome}
use Rattle.std.specs.Option.{option_map}
use Rattle.at_model.specs.Edits.{max_nodes}
use Rattle.at_model.specs.Alike.{AnswerLike, InstanceLike, Names}
use Rattle.at_model.specs.Asking.{IsWellFormed}
use Rattle.at_model.specs.Machine.{answer_form, line_of}
use Rattle.at_model.specs.Meaning.{Answer}
use Rattle.at_model.specs.Paths.{Node}
use Rattle.at_model.specs.Replies.{Refused}
use Rattle.at_model.specs.Run.{Instance}
use Rattle.at_protocol.specs.ReplyView.{code_view}
use Rattle.at_protocol.specs.declared.reply.Form.{Form}
use Rattle.at_protocol.specs.declared.reply.Form.TheVariants as form
use Rattle.at_protocol.specs.declared.reply.Refusal.{Refusal}
use Rattle.at_store.specs.Shown.{contents, path, tree}
use Rattle.at_cache.specs.Kept.{Entries}
use Rattle.at_cache.specs.Traced.{Memories, StayTraced}
use Rattle.at_demand.specs.Known.{answer_view}
use Rattle.at_demand.specs.Answerable.{CanTurn as CanBeTurned, IsBasis}
use Rattle.at_demand.specs.Answered.{HasTurnedOften}
use Rattle.at_demand.specs.Groups.{KeepsGroups}
use Rattle.at_demand.specs.Levels.{asked_by}
use Rattle.at_evaluate.specs.Right.{IsThere}
use Rattle.at_demand.specs.Sound.{AreSound}
use Rattle.at_demand.specs.Turns.{IsSparingTurns}
use Rattle.at_demand.specs.declared.answer.Answer.{Answer as AnswerCode}
use Rattle.at_demand.specs.declared.demand.Demand.{Demand}
use Rattle.at_demand.specs.declared.question.Question.{Question}
use Rattle.at_engine.specs.Engines.{marks_of, rules_of, state_of, IsHeld, IsTyped}
use Rattle.at_engine.specs.Holding.{AreKeptTyped, HasBegun, IsBegunFor, IsPostedOn, IsSoundWith}
use Rattle.at_engine.specs.Keeping.{IsSpare, IsSparingOn}
use Rattle.at_engine.specs.Posted.{posted_view}
use Rattle.at_engine.specs.Telling.{IsAnswerTo, IsToldAs}
use Rattle.at_engine.specs.Turning.{AreTurns, Attends, Begins, BeginsSparing, BreaksOffIn, Came, CameFrom, CanTurn, CountsTurns, HasGone, IsBegun, Reopens, TakesOut, StandsAt}
use Rattle.at_engine.specs.declared.engine.Engine.{Engine}
use Rattle.at_engine.specs.declared.engine.turning.Begun.{Begun}
use Rattle.at_engine.specs.declared.engine.turning.Begun.TheVariants as begun
use Rattle.at_engine.specs.declared.posts.Posted.{Posted}
use Rattle.at_engine.specs.declared.posts.Posts.{Posts}
use Rattle.at_model.proofs.of_machines.WellAsked.{well_asked}
use Rattle.at_demand.proofs.of_levels.Resolving.{keeps_groups}
use Rattle.at_engine.proofs.Numbered.{answer_named}
use Rattle.at_engine.proofs.of_keeping.KeptTyped.{basis_held, sound_typed, typed_more}
use Rattle.at_engine.proofs.of_turns.Counted.{breaks_behind, breaks_from, counts_refused, counts_same, silent_same, turns_from}
use Rattle.at_engine.proofs.of_turns.Openings.{sound_grown, sound_reopened, spare_grown, spare_reopened}
use Rattle.at_engine.proofs.of_turns.Settling.{broken as breaks_off, counted}
use Rattle.at_engine.proofs.Positions.{get_set, holds_at, same_there, set_set, there_at, within_set}
use Rattle.at_engine.proofs.of_turns.Wordings.{answers_asked, answers_refused}
use Rattle.at_engine.proofs.Typing.{numbered_typed}
use Rattle.at_engine.proofs.of_keeping.Tracing.{remembered_still}

-- what was done for the question at the position was taken out of it
pub record Taken {K : Type 0} (kept : K → Entries) (memories : K
    → Memories) (e : Engine K) (position : ℕ) (o : Option Question)
    (t : Posts) : Type 0 where
  pub posted : Posted
  pub there : StandsAt e.posts.items.items position posted
  pub same : o ≡ posted.question
  pub opens : Reopens position e.posts t posted None
  pub held : IsHeld kept memories e

pub taken : {K : Type 0} (kept : K → Entries) (memories : K → Memories) (e : Engine K) → IsHeld kept memories e
    → (position : ℕ)
    → position < length e.posts.items.items → (o : Option Question) (t : Posts)
    → TakesOut position e.posts t o
    → Taken kept memories e position o t
taken kept memories e held position within o t took =
    let (p, there) = there_at e.posts.items.items position within in
    let at = took.there p there in
    record { posted = p; there = there; same = at.0; opens = at.1; held = held }

module _ {K : Type 0} (kept : K → Entries) (memories : K
    → Memories) (e : Engine K) (position : ℕ) (limit : Option ℕ) (new : Engine K)
    (p : Posted) (there : StandsAt e.posts.items.items position p) (now : Option Question)
    (reopens : Reopens position e.posts new.posts p now)
    (rest : new ≡ record e { demand = new.demand; posts = new.posts })
    (sound : IsHeld kept memories new) where
  pub attended : {E : Type 0} (r : Result (ℕ × Option Form) E)
      → (KeepsGroups (rules_of e) r → IsSpare kept e → IsSpare kept new) → Came kept memories limit e new.demand p now r
      → Attends kept memories e new position (λ q. HasGone kept memories limit e new position q r) (KeepsGroups (rules_of e) r)
  attended r spare came = record {
    done = λ q at. subst (λ (x : Posted). HasGone kept memories limit e new position x r)
        (same_there e.posts.items.items position p q there at)
        (record { now = now; reopens = reopens; came = came });
    rest = rest;
    spare = spare;
    sound = sound;
  }

module _ {K : Type 0} (kept : K → Entries) (memories : K
    → Memories) (e : Engine K) (position : ℕ) (limit : Option ℕ)
    (o : Option Question) (t : Posts) (it : Taken kept memories e position o t) where
  abbrev bare : Posted
  bare = record it.posted { question = None }

  abbrev entries : Entries
  entries = kept e.demand.keeper

  there_still : StandsAt t.items.items position bare
  there_still = subst (λ (l : List Posted). slice_get l position ≡ Some bare) (sym it.opens.items)
      (get_set e.posts.items.items position it.posted bare it.there)

  pub within_still : position < length t.items.items
  within_still = subst (λ (l : List Posted). position < length l) (sym it.opens.items)
      (within_set e.posts.items.items position it.posted bare it.there)

  pub sound_taken : IsSoundWith (rules_of e) e.store (marks_of e) t entries (memories e.demand.keeper)
  sound_taken = sound_reopened (rules_of e) e.store entries entries (λ i some. refl)
      (marks_of e) e.posts it.held position it.posted
      it.there None t it.opens it.held.right it.held.typed it.held.remembered tt

  -- its rules and its tree are as they were
  pub ready_taken : IsTyped (rules_of e) (state_of e) → CanTurn kept memories (record e { posts = t }) position
  ready_taken typed = record {
    sound = sound_taken;
    typed = record { formed = typed.formed; circular = typed.circular; tokens = typed.tokens };
    within = within_still;
  }

  spare_taken : IsSpare kept e → IsSpare kept (record e { posts = t })
  spare_taken h = record {
    unbounded = h.unbounded;
    spare = spare_reopened (rules_of e) e.store entries entries (λ i some. refl)
        (marks_of e) e.posts it.held position
        it.posted it.there None t it.opens h.spare.kept tt h.spare;
  }

  begun_bare : (o : Option Question) → HasBegun (rules_of e) e.store entries it.posted o
      → HasBegun (rules_of e) e.store entries bare o
  begun_bare None h = tt
  begun_bare (Some q) h = record { standing = h.standing; named = h.named; asks = h.asks; like = h.like }

  was_begun : HasBegun (rules_of e) e.store entries bare o
  was_begun = subst (HasBegun (rules_of e) e.store entries bare) (sym it.same) (begun_bare it.posted.question
      (holds_at (IsPostedOn (rules_of e) e.store entries) e.posts.items.items position it.posted it.there it.held.posted).begun)

  was_sparing : IsSpare kept e → IsSparingOn (rules_of e) (contents e.store) entries o
  was_sparing spare = subst (IsSparingOn (rules_of e) (contents e.store) entries) (sym it.same)
      (holds_at (λ (x : Posted). IsSparingOn (rules_of e)
      (contents e.store) entries x.question) e.posts.items.items position it.posted
      it.there spare.spare.posted')

  -- with nothing tried
  pub not_read : {E : Type 0} (r : Result (ℕ × Option Form) E) (e' : E) → r ≡ Err e'
      → Attends kept memories e (record e { posts = t }) position (λ q. HasGone kept memories limit e
      (record e { posts = t }) position q r) (KeepsGroups (rules_of e) r)
  not_read r e' is =
      let new : Engine K = record e { posts = t } in
      attended kept memories e position limit new it.posted it.there None it.opens refl sound_taken r
      (λ whole spare. spare_taken spare)
      (subst (Came kept memories limit e new.demand it.posted None) (sym is) (inl refl))

  pub was_refused : {E : Type 0} {b : Begun} → ((x : Posted) → StandsAt t.items.items position x
      → HasBegun (rules_of e) e.store entries x o
      → Begins (rules_of e) e.store entries x o b) → (f : Refusal) → b ≡ begun.Refused f → IfSome limit (λ n. 0 < n)
      → Attends kept memories e (record e { posts = t }) position
      (λ q. HasGone {E = E} kept memories limit e (record e { posts = t }) position q (Ok (1, Some (form.Refused f)))) (Unit {0})
  was_refused {E} {b} begins f is some =
      let new : Engine K = record e { posts = t } in
      let words = subst (Begins (rules_of e) e.store entries bare o) is (begins bare there_still was_begun) in
      let v = posted_view (path e.store) it.posted in
      let said : IsAnswerTo (rules_of e) (state_of e) v (form.Refused f) = record {
        writable = tt;
        form = Refused
            (code_view f);
        is_form = refl;
        answers = answers_refused (rules_of e) (state_of e) v (code_view f) words;
      } in
      attended kept memories e position limit new it.posted it.there None it.opens refl sound_taken
      {E = E} (Ok (1, Some (form.Refused f))) (λ whole spare. spare_taken spare) (
        1,
        counts_refused limit (form.Refused f) some,
        said,
        inl
            (record { code = code_view f; words = words }, refl, refl),
      )

  -- a question was begun
  pub begun_for : {b : Begun} → ((x : Posted) → StandsAt t.items.items position x
      → HasBegun (rules_of e) e.store entries x o
      → Begins (rules_of e) e.store entries x o b) → (q : Question) → b ≡ begun.Question q
      → IsBegun (rules_of e) e.store entries bare o q
  begun_for begins q is = subst (Begins (rules_of e) e.store entries bare o) is (begins bare there_still was_begun)

  pub sparing_for : {b : Begun} → (IsSparingOn (rules_of e) (contents e.store) entries o
      → BeginsSparing (rules_of e) (contents e.store) entries b)
      → (q : Question) → b ≡ begun.Question q → IsSpare kept e
      → IsSparingTurns (rules_of e) (contents e.store) entries q
  sparing_for sparing q is spare =
      subst (BeginsSparing (rules_of e) (contents e.store) entries) is (sparing (was_sparing spare))

  module _ (typed : IsTyped (rules_of e) (state_of e)) where
    basis : IsBasis (rules_of e) e.store
    basis = basis_held kept memories e it.held typed

    sound : AreSound (rules_of e) e.store entries
    sound = sound_typed (rules_of e) e.store basis entries it.held.right.values it.held.typed

    pub can_be_turned : (q : Question) → IsBegun (rules_of e) e.store entries bare o q → CanBeTurned (rules_of e) e.store entries q
    can_be_turned q b = record {
      answerable = record { basis = basis; right = it.held.right.values; plain = it.held.right.plain };
      standing = b.begun.standing;
      wholes = sound.whole;
    }

    module _ (q : Question) (b : IsBegun (rules_of e) e.store entries bare o q)
        (sparing : IsSpare kept e → IsSparingTurns (rules_of e) (contents e.store) entries q) where
      there_asked : IsThere e.store (asked_by q)
      there_asked = (b.begun.named, b.begun.like)

      formed : IsWellFormed (rules_of e) (tree e.store) b.begun.named
      formed =
          let v = posted_view (path e.store) bare in
          well_asked (rules_of e)
          (record { tree = tree e.store; limit = max_nodes; version = 0; marks = v.marks; posts = 0; posted = [] })
          (line_of v) b.begun.named b.begun.asks

      came : CameFrom (rules_of e) e.store entries it.posted.question q
      came = subst (λ (x : Option Question). CameFrom (rules_of e) e.store entries x q) it.same b.came

      -- it was given turns
      module _ {E' : Type 0} (d : Demand K) (later : Question) (r : Result (ℕ × Option AnswerCode) E')
          (h : HasTurnedOften (rules_of e) e.store (memories e.demand.keeper) entries (kept d.keeper) e.demand.work d.work limit q later r)
          (traces : StayTraced (memories e.demand.keeper) (memories d.keeper)) where
        abbrev more : Entries
        more = kept d.keeper

        typed_later : AreKeptTyped (rules_of e) e.store more
        typed_later = typed_more (rules_of e) e.store basis (asked_by q)
            (numbered_typed (rules_of e) e.store (asked_by q) b.begun.named b.begun.like formed) entries more h.worthy it.held.typed

        pub sound_more : IsSoundWith (rules_of e) e.store (marks_of e) t more (memories d.keeper)
        sound_more = sound_grown (rules_of e) e.store entries more h.worthy.stays (marks_of e) t sound_taken
            (h.stays there_asked it.held.right) typed_later
            (remembered_still (rules_of e) e.store (memories e.demand.keeper)
            (memories d.keeper) traces it.held.remembered)

        spare_more : KeepsGroups (rules_of e) r → IsSpare kept e → IsSpare kept (record e { posts = t; demand = d })
        spare_more whole was = record {
          unbounded = was.unbounded;
          spare = spare_grown (rules_of e) e.store entries more h.worthy.stays (marks_of e) t sound_taken
              (h.spare whole was.spare.kept (sparing was)) (spare_taken was).spare;
        }

        module _ {E : Type 0} (result : Result (ℕ × Option Form) E) where
          abbrev HasAttended : Type 0
          HasAttended = Attends kept memories e (record e { posts = t; demand = d }) position
              (λ p. HasGone kept memories limit e (record e { posts = t; demand = d }) position p result) (KeepsGroups (rules_of e) result)

          without_memory : (e' : E) → result ≡ Err e' → (KeepsGroups (rules_of e) result → KeepsGroups (rules_of e) r)
              → BreaksOffIn (rules_of e) e.store (memories e.demand.keeper) limit entries (Some q) (asked_by q) more → HasAttended
          without_memory e' is keeps broke =
              let new : Engine K = record e { posts = t; demand = d } in
              let from = breaks_from (rules_of e) e.store (memories e.demand.keeper) entries q more it.posted.question came limit broke in
              attended kept memories e position limit new it.posted it.there None it.opens refl sound_more result
              (λ whole spare. spare_more (keeps whole) spare)
              (subst (Came kept memories limit e new.demand it.posted None) (sym is)
              (inr (record { inst = asked_by q; named = b.begun.named; words = b.begun.asks; like = b.begun.like; holds = from })))

          -- memory ran out in a turn, or behind the last one
          pub broke_off : (e' : E) (f : E') → result ≡ Err e' → r ≡ Err f → HasAttended
          broke_off e' f is failed = without_memory e' is
              (λ whole. keeps_groups (rules_of e) r (subst (λ (x : Result (ℕ × Option Form) E). KeepsGroups (rules_of e) x) is whole))
              (broken r failed h)
            where
              broken : (x : Result (ℕ × Option AnswerCode) E') → x ≡ Err f
                  → HasTurnedOften (rules_of e) e.store (memories e.demand.keeper) entries more e.demand.work d.work limit q later x
                  → BreaksOffIn (rules_of e) e.store (memories e.demand.keeper) limit entries (Some q) (asked_by q) more
              broken (Ok g) failed h = absurd cc
              broken (Err f) failed h = breaks_off E' (rules_of e) e.store limit entries more e.demand.work d.work (memories e.demand.keeper) q later
                  b.begun.standing sound f h

      module _ (d : Demand K) (later : Question) (turns : ℕ) where
        abbrev grown : Entries
        grown = kept d.keeper

        abbrev Turned : (E' : Type 0) → Option AnswerCode → Type 0
        Turned E' a = HasTurnedOften {E = E'} (rules_of e) e.store (memories e.demand.keeper) entries grown e.demand.work d.work limit q later
            (Ok (turns, a))

        given_so : (E' : Type 0) (a : Option AnswerCode) → Turned E' a → (given : ℕ) × CountsTurns limit given turns (option_map answer_view a)
            × AreTurns (rules_of e) e.store (memories e.demand.keeper) given entries (Some q) (asked_by q) grown later (option_map answer_view a)
        given_so E' a h = counted E' (rules_of e) e.store limit entries grown e.demand.work d.work (memories e.demand.keeper) q later
            b.begun.standing sound (turns, a) h

        -- its answer can't be told
        pub untold : {E E' : Type 0} (a : AnswerCode) (h : Turned E' (Some a)) (traces : StayTraced (memories e.demand.keeper) (memories d.keeper))
            (result : Result (ℕ × Option Form) E) (e' : E) → result ≡ Err e'
            → Attends kept memories e (record e { posts = t; demand = d }) position
            (λ p. HasGone kept memories limit e (record e { posts = t; demand = d }) position p result) (KeepsGroups (rules_of e) result)
        untold {E} {E'} a h traces result e' is = without_memory {E' = E'} d later (Ok (turns, Some a)) h traces result e' is (λ whole. tt)
            (breaks_behind (rules_of e) e.store (memories e.demand.keeper) entries (Some q) (asked_by q) grown later (answer_view a) limit turns
            (given_so E' (Some a) h))

        -- it is told
        pub told : {E E' : Type 0} (a : AnswerCode) (h : Turned E' (Some a)) (traces : StayTraced (memories e.demand.keeper) (memories d.keeper))
            (f : Form) → ((x : Answer Node) → AnswerLike (Names (path e.store)) (answer_view a) x
            → IsToldAs (rules_of e) (tree e.store) x f)
            → Attends kept memories e (record e { posts = t; demand = d }) position
            (λ p. HasGone {E = E} kept memories limit e (record e { posts = t; demand = d }) position p (Ok (turns, Some f))) (Unit {0})
        told {E} {E'} a h traces f tells =
            let new : Engine K = record e { posts = t; demand = d } in
            let (given, counts, each) = given_so E' (Some a) h in
            let v = posted_view (path e.store) it.posted in
            let (x, like, answers) = answer_named (rules_of e) e.store it.held.idle (asked_by q) b.begun.named
            (answer_view a) b.begun.like h.answers in
            let is = tells x like in
            let said : IsAnswerTo (rules_of e) (state_of e) v f = record {
              writable = is.writable;
              form = answer_form (rules_of e) (tree e.store) x;
              is_form = is.is_form;
              answers = answers_asked (rules_of e) (state_of e) v b.begun.named x b.begun.asks answers;
            } in
            attended kept memories e position limit new it.posted it.there None it.opens refl
            (sound_more {E' = E'} d later (Ok (turns, Some a)) h traces) {E = E} (Ok (turns, Some f))
            (λ whole spare. spare_more {E' = E'} d later (Ok (turns, Some a)) h traces tt spare) (
              given,
              counts_same limit given turns (answer_view a) f counts,
              said,
              inr (record {
                inst = asked_by q;
                named = b.begun.named;
                words = b.begun.asks;
                like = b.begun.like;
                holds = record {
                  end = later;
                  answer = answer_view a;
                  named = x;
                  turns = turns_from (rules_of e) e.store (memories e.demand.keeper) entries q grown it.posted.question came given later (Some (answer_view a)) each;
                  like = like;
                  form = refl;
                  all = λ was. h.all was.spare.kept (sparing was);
                };
              }),
            )

        -- it has no answer yet
        pub not_yet : {E E' : Type 0} (h : Turned E' None) (traces : StayTraced (memories e.demand.keeper) (memories d.keeper))
            (k : Posts) → ((p : Posted) → slice_get t.items.items position ≡ Some p → Reopens position t k p (Some later))
            → Attends kept memories e (record e { posts = k; demand = d }) position
            (λ p. HasGone {E = E} kept memories limit e (record e { posts = k; demand = d }) position p (Ok (turns, None))) (Unit {0})
        not_yet {E} {E'} h traces k keeps =
            let new : Engine K = record e { posts = k; demand = d } in
            let (given, counts, each) = given_so E' None h in
            let put = keeps bare there_still in
            let still : IsBegunFor (rules_of e) e.store grown bare later = record {
              standing = h.standing;
              named = b.begun.named;
              asks = b.begun.asks;
              like = subst (λ (i : Instance ℕ). InstanceLike (Names (path e.store)) i b.begun.named)
                  (sym h.same) b.begun.like;
            } in
            let opens : Reopens position e.posts k it.posted (Some later) = record {
              count = put.count ∙ it.opens.count;
              items = put.items ∙ ap (λ (l : List Posted). slice_set l position
                  (record it.posted { question = Some later })) it.opens.items
                  ∙ set_set e.posts.items.items position bare (record it.posted { question = Some later });
            } in
            attended kept memories e position limit new it.posted it.there (Some later) opens refl
            (sound_reopened (rules_of e) e.store entries grown h.worthy.stays
            (marks_of e) t sound_taken position bare there_still (Some later) k
            put (h.stays there_asked it.held.right) (typed_later {E' = E'} d later (Ok (turns, None)) h traces)
            (remembered_still (rules_of e) e.store (memories e.demand.keeper)
            (memories d.keeper) traces it.held.remembered) still)
            {E = E} (Ok (turns, None))
            (λ whole was. record {
              unbounded = was.unbounded;
              spare = spare_reopened (rules_of e) e.store entries grown h.worthy.stays
                  (marks_of e) t sound_taken position bare there_still
                  (Some later) k put (h.spare tt was.spare.kept (sparing was)) (h.sparing was.spare.kept (sparing was))
                  (spare_taken was).spare;
            }) (
              given,
              silent_same (Answer ℕ) Form limit given turns counts,
              record {
                inst = asked_by q;
                named = b.begun.named;
                words = b.begun.asks;
                like = b.begun.like;
                holds = (
                  later,
                  refl,
                  turns_from (rules_of e) e.store (memories e.demand.keeper) entries q grown it.posted.question came given later None each,
                );
              },
            )
