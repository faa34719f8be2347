-- What the turns of the first open question come to, in the words of the machine.
use Rattle.std.proofs.Common.{◌≡◌, ℕ, zero, suc, ◌+◌, ◌-◌, ◌<◌, ◌≤◌, Bool, true, false, not, if◌then◌else◌, List, [], ◌∷◌, ◌++◌, length, map, Option, Some, None, Result, Ok, Err, refl, sym, ap, ◌∙◌, subst, arith, append-nil}
use Rattle.std.proofs.lemmas.List.{length-map}
use Rattle.std.specs.Prelude.{slice_get, slice_set, remove, IfSome, MatchBool, Vec, vec_capacity}
use Rattle.std.specs.Global.{Global}
use Rattle.std.proofs.lemmas.Option.{slice_get_within}
use Rattle.std.specs.declared.alloc.AllocError.{AllocError}
use Rattle.at_model.specs.Enduring.{AreNumbered, AreTokens}
use Rattle.at_model.specs.Machine.{State, Posted as PostedOf, AnswersPosted, Given, spent, telling, Turns, done_reply, first_of, without}
use Rattle.at_model.specs.Replies.{Form as FormOf, Memory, Reply, reply_text}
use Rattle.at_model.specs.Rules.{Rules}
use Rattle.at_model.specs.WellFormed.{AreWellFormed}
use Rattle.at_protocol.specs.declared.reply.Form.{Form}
use Rattle.at_store.specs.Shown.{Shown, path, tree}
use Rattle.at_cache.specs.Kept.{Entries}
use Rattle.at_cache.specs.Traced.{Memories}
use Rattle.at_demand.specs.Groups.{KeepsGroups}
use Rattle.at_evaluate.specs.Meant.{AreCircularWell}
use Rattle.at_demand.specs.declared.demand.Demand.{Demand}
use Rattle.at_demand.specs.declared.question.Question.{Question}
use Rattle.at_rules.specs.Circular.{HasNoneCircular}
use Rattle.at_engine.specs.Engines.{marks_of, rules_of, state_of, IsHeld, IsSound, IsTyped, Knows}
use Rattle.at_engine.specs.Holding.{state_in, IsSoundWith}
use Rattle.at_engine.specs.Posted.{posted_view, turns_given}
use Rattle.at_engine.specs.Keeping.{IsSpare, KeepsWhole}
use Rattle.at_engine.specs.Making.{WentOn}
use Rattle.at_engine.specs.Serving.{Calls}
use Rattle.at_engine.specs.Hearing.{IsClosed}
use Rattle.at_engine.specs.Telling.{IsAnswerTo, IsSaid}
use Rattle.at_engine.specs.Turned.{HasGiven, HasTried, HasTurned, gives, none_open}
use Rattle.at_engine.specs.Turning.{Attends, Came, CountsTurns, EndsSo, HasEnded, HasGone, Reopens, RunsOut, StandsAt, TakesOff, told_of}
use Rattle.at_engine.specs.declared.engine.Engine.{Engine}
use Rattle.at_engine.specs.declared.engine.saying.Told.{Told}
use Rattle.at_engine.specs.declared.posts.Posted.{Posted}
use Rattle.at_engine.specs.declared.engine.turning.Spent.{Spent}
use Rattle.at_engine.proofs.of_keeping.GoneOn.{went_along}
use Rattle.at_engine.proofs.of_turns.Counted.{counts_refused, counts_same, out_behind, silent_same, some_given, some_silent}
use Rattle.at_engine.proofs.of_turns.Openings.{TurnTold, gone, is_numbered, told_err, told_ok}
use Rattle.at_engine.proofs.Positions.{get_set, there_at}
use Rattle.at_engine.proofs.of_turns.Turnings.{answered_at, ran_out_at, silent_turns, told_turns, without_it}

-- the list begins with an element
pub first_there : {A : Type 0} (xs : List A) → 0 < length xs → (x : A) × (rest : List A) × (xs ≡ x ∷ rest)
first_there [] h = absurd (omega (arith, h))
first_there (x ∷ xs) h = (x, xs, refl)

pub removed_anew : {A : Type 0} (xs : List A) (i : ℕ) (a : A) → remove (slice_set xs i a) i ≡ remove xs i
removed_anew [] zero a = refl
removed_anew [] (suc i) a = refl
removed_anew (x ∷ xs) zero a = refl
removed_anew (x ∷ xs) (suc i) a = ap (λ l. x ∷ l) (removed_anew xs i a)

-- the rules and the tree stay, so that evaluations keep to the kinds
pub typed_rest : {K : Type 0} (e m : Engine K) → m ≡ record e { demand = m.demand; posts = m.posts } → IsTyped (rules_of e) (state_of e) → IsTyped (rules_of m) (state_of m)
typed_rest {K} e m rest h = record {
  formed = subst AreWellFormed (sym (ap (λ (x : Engine K). x.rules) rest)) h.formed;
  circular = subst AreCircularWell (sym (ap (λ (x : Engine K). x.rules) rest)) h.circular;
  tokens = subst (λ (s : Shown). AreTokens (tree s)) (sym (ap (λ (x : Engine K). x.store) rest)) h.tokens;
}

-- the parts that stay over both
pub rest_end : {K : Type 0} (e m n : Engine K) → m ≡ record e { demand = m.demand; posts = m.posts } → n ≡ record m { posts = record n.posts { count = m.posts.count } } → n ≡ record e { demand = n.demand; posts = n.posts }
rest_end {K} e m n rest tells =
    let parts : Engine K → Engine K = λ x. record x { demand = n.demand; posts = n.posts } in
    ap parts tells ∙ ap parts rest

-- so they do when a question is open no longer
pub typed_end : {K : Type 0} (m n : Engine K) → n ≡ record m { posts = record n.posts { count = m.posts.count } } → IsTyped (rules_of m) (state_of m) → IsTyped (rules_of n) (state_of n)
typed_end {K} m n rest h = record {
  formed = subst AreWellFormed (sym (ap (λ (x : Engine K). x.rules) rest)) h.formed;
  circular = subst AreCircularWell (sym (ap (λ (x : Engine K). x.rules) rest)) h.circular;
  tokens = subst (λ (s : Shown). AreTokens (tree s)) (sym (ap (λ (x : Engine K). x.store) rest)) h.tokens;
}

-- a question at some position is open no longer
module _ {K : Type 0} (kept : K → Entries) (e : Engine K) {remembered : Memories}
    (sound : IsSoundWith (rules_of e) e.store (marks_of e) e.posts (kept e.demand.keeper) remembered) (position : ℕ) (p : Posted) (there : StandsAt e.posts.items.items position p) (m : Engine K) (rest : m ≡ record e { demand = m.demand; posts = m.posts })
    (o : Option Question) (opens : Reopens position e.posts m.posts p o) where
  -- it stands there as it has come
  pub stands_open : StandsAt m.posts.items.items position (record p { question = o })
  stands_open = subst (λ (l : List Posted). slice_get l position ≡ Some (record p { question = o })) (sym opens.items) (get_set e.posts.items.items position p (record p { question = o }) there)

  module _ (n : Engine K) (tells : n ≡ record m { posts = record n.posts { count = m.posts.count } }) (items : n.posts.items.items ≡ remove m.posts.items.items position) where
    pub state_gone : state_of n ≡ without p.number (state_of e)
    state_gone =
        ap (λ (x : Engine K). state_in x.store x.version (marks_of x) n.posts) tells ∙ ap (λ (x : Engine K). state_in x.store x.version (marks_of x) n.posts) rest
        ∙ gone (rules_of e) e.store e.version (marks_of e) e.posts position p there sound.numbered n.posts
        (items ∙ ap (λ (l : List Posted). remove l position) opens.items ∙ removed_anew e.posts.items.items position (record p { question = o }))
        (ap (λ (x : Engine K). x.posts.count) tells ∙ opens.count)

    pub closed_so : (memories : K → Memories) (r : Result Form AllocError) → HasEnded kept memories e n.demand p r → (told : Told) → told ≡ told_of p m.version r
        → IsClosed kept memories e n p told
    closed_so memories r ended told is =
        subst (IsClosed kept memories e n p) (sym (is ∙ ap (λ (v : ℕ). told_of p v r) (ap (λ (x : Engine K). x.version) rest))) (record {
          there = is_numbered (rules_of e) e.store e.version (marks_of e) e.posts position p there sound.numbered;
          gone = state_gone;
          session = refl;
          done = refl;
          ended = ended;
        })

module _ {K : Type 0} (kept : K → Entries) (memories : K → Memories) (e : Engine K) {remembered : Memories}
    (sound : IsSoundWith (rules_of e) e.store (marks_of e) e.posts (kept e.demand.keeper) remembered) (p : Posted) (others : List Posted) (least : e.posts.items.items ≡ p ∷ others) where
  abbrev view : Posted → PostedOf
  view = posted_view (path e.store)

  pub first_stands : StandsAt e.posts.items.items 0 p
  first_stands = ap (λ (l : List Posted). slice_get l 0) least

  viewed : (state_of e).posted ≡ view p ∷ map view others
  viewed = ap (map view) least

  increase : AreNumbered 0 (view p ∷ map view others) e.posts.count
  increase = subst (λ (l : List PostedOf). AreNumbered 0 l e.posts.count) viewed sound.numbered

  abbrev at_turn : ℕ → State
  at_turn t = record (state_of e) { posted = record (view p) { turns = t } ∷ map view others }

  as_now : at_turn (turns_given p.question) ≡ state_of e
  as_now = ap (λ (l : List PostedOf). record (state_of e) { posted = l }) (sym viewed)

  -- the state in which the question has come farther
  module _ (m : Engine K) (rest : m ≡ record e { demand = m.demand; posts = m.posts }) where
    state_mid : state_of m ≡ state_in e.store e.version (marks_of e) m.posts
    state_mid = ap (λ (x : Engine K). state_in x.store x.version (marks_of x) m.posts) rest

    state_at : (o : Option Question) (t : ℕ) → Reopens 0 e.posts m.posts p o → turns_given o ≡ t → state_of m ≡ at_turn t
    state_at o t r is =
        let items = r.items ∙ ap (λ (l : List Posted). slice_set l 0 (record p { question = o })) least in
        state_mid ∙ (λ i. record (state_of e) { posts = r.count i; posted = map view (items i) }) ∙ ap at_turn is

    -- then it was told
    module _ (n : Engine K) (tells : n ≡ record m { posts = record n.posts { count = m.posts.count } }) (items : n.posts.items.items ≡ remove m.posts.items.items 0) (o : Option Question) (opens : Reopens 0 e.posts m.posts p o) where
      gone_end : state_of n ≡ without p.number (state_of e)
      gone_end = state_gone kept e sound 0 p first_stands m rest o opens n tells items

      version_mid : m.version ≡ e.version
      version_mid = ap (λ (x : Engine K). x.version) rest

      module _ (wants : Bool) (before after : List ℕ) where
        pub told_so : (f : Form) (x : IsAnswerTo (rules_of e) (state_of e) (view p) f) → IsSaid (told_of p m.version (Ok f)) wants before after → TurnTold (rules_of e) (state_of e) (view p) (state_of n) wants x.form before after
        told_so f x said = told_ok (rules_of e) e.store e.version (marks_of e) e.posts 0 p first_stands sound.numbered (state_of n) gone_end before after f x wants
            (subst (λ (v : ℕ). IsSaid (told_of p v (Ok f)) wants before after) version_mid said)

        pub failed_so : (e' : AllocError) → IsSaid (told_of p m.version (Err e')) wants before after → (wants ≡ true) × TurnTold (rules_of e) (state_of e) (view p) (state_of n) wants Memory before after
        failed_so e' said = told_err (rules_of e) e.store e.version (marks_of e) e.posts 0 p first_stands sound.numbered (state_of n) gone_end before after e' wants
            (subst (λ (v : ℕ). IsSaid (told_of p v (Err e')) wants before after) version_mid said)

      demand_end : n.demand ≡ m.demand
      demand_end = ap (λ (x : Engine K). x.demand) tells

      module _ (limit : Option ℕ) (before after : List ℕ) where
        gone_at : (t : ℕ) → without p.number (at_turn t) ≡ state_of n
        gone_at t =
            without_it (rules_of e) (state_of e) (view p) (map view others) e.posts.count increase t
            ∙ sym (without_it (rules_of e) (state_of e) (view p) (map view others) e.posts.count increase (turns_given p.question))
            ∙ ap (without p.number) as_now ∙ sym gone_end

        turn_at : (t : ℕ) (wants : Bool) (form : FormOf) → AnswersPosted (rules_of e) (state_of e) (view p) form
            → Turns (rules_of e) (at_turn t) p.number (state_of n) (Some (
              wants,
              done_reply (state_of e) (view p)
                  (if wants then Memory else form),
            ))
        turn_at t true form answers = subst (λ (x : State). Turns (rules_of e) (at_turn t) p.number x (Some
            (true, done_reply (state_of e) (view p) Memory)))
            (gone_at t) (ran_out_at (rules_of e) (state_of e) (view p) (map view others) e.posts.count increase t)
        turn_at t false form answers = subst (λ (x : State). Turns (rules_of e) (at_turn t) p.number x (Some
            (false, done_reply (state_of e) (view p) form)))
            (gone_at t) (answered_at (rules_of e) (state_of e) (view p)
            (map view others) e.posts.count increase t form answers)

        spent_so : (given counted : ℕ) (wants : Bool) (reply : Reply) → 0 < given
            → CountsTurns {A = Bool × Reply} limit given counted (Some (wants, reply))
            → Given (rules_of e) given (state_of e) ((wants, reply) ∷ []) (state_of n)
            → after ≡ before ++ reply_text reply
            → HasTried kept memories limit e n p others given (Some (wants, reply))
            → (KeepsWhole (rules_of e) wants → IsSpare kept e → IsSpare kept n)
            → WentOn kept memories [] e m
            → HasGiven kept memories limit e n before after (record { turns = counted; told = Some wants })
        spent_so given counted wants reply some counts turns appended tried spare went = gives (record {
          first = p;
          others = others;
          least = least;
          told = Some (wants, reply);
          given = given;
          some = some;
          counts = counts;
          turns = turns;
          appended = appended ∙ ap (λ l. before ++ l) (sym (append-nil (reply_text reply)));
          named = refl;
          tried = tried;
          spare = spare;
          went = went_along kept memories [] e m n demand_end went;
        })

        -- the last of them answers it
        pub gives_told : (counted : ℕ) (f : Form)
            → Came {E = AllocError} kept memories limit e m.demand p o (Ok (counted, Some f)) → (wants : Bool)
            → IsSaid (told_of p m.version (Ok f)) wants before after
            → (IsSpare kept e → IsSpare kept n)
            → WentOn kept memories [] e m
            → HasGiven kept memories limit e n before after (record { turns = counted; told = Some wants })
        gives_told counted f (given, counts, x, ends) wants said spare went =
            let t = told_so wants before after f x said in
            let start = turns_given p.question in
            let some = some_given kept memories e m.demand p given x.form ends in
            let turn = subst (λ (r : Reply). Turns (rules_of e) (at_turn (start + (given - 1))) p.number (state_of n)
            (Some (wants, r))) (sym t.reply_is)
            (turn_at (start + (given - 1)) wants x.form x.answers) in
            let size : given - 1 + 1 ≡ given = omega (arith, some) in
            let turns = told_turns (rules_of e) (state_of e) (view p) (map view others) e.posts.count increase
            (given - 1) start (state_of n) (wants, t.reply) turn in
            let all = subst (λ (j : ℕ). Given (rules_of e) j (state_of e) ((wants, t.reply) ∷ []) (state_of n)) size
            (subst (λ (y : State). Given (rules_of e) (given - 1 + 1) y ((wants, t.reply) ∷ [])
            (state_of n)) as_now turns) in
            spent_so given counted wants t.reply some (counts_same {B = Bool × Reply} limit given counted f
            (wants, t.reply) counts) all t.appended
            (by given counted wants t.reply x.form t.is_form ends counts) (λ whole. spare) went
          where
            by : (given counted : ℕ) (wants : Bool) (reply : Reply) (g : FormOf) → (wants ≡ false → reply.form ≡ g)
                → EndsSo kept memories e m.demand p given g
                → CountsTurns limit given counted (Some f)
                → HasTried kept memories limit e n p others given (Some (wants, reply))
            by given counted false reply g is ends counts = subst (λ
                (d : Demand K). EndsSo kept memories e d p given reply.form) (sym demand_end)
                (subst (EndsSo kept memories e m.demand p given) (sym (is refl)) ends)
            by given counted true reply g is ends counts = subst (λ (d : Demand K). RunsOut kept memories limit e d p)
                (sym demand_end)
                (out_behind kept memories limit e m.demand p given counted f g counts ends)

        -- or memory runs out
        pub gives_failed : (e' : AllocError) → Came kept memories limit e m.demand p o (Err e') → IfSome limit (λ n. 0 < n)
            → (wants : Bool)
            → IsSaid (told_of p m.version (Err e')) wants before after
            → (HasNoneCircular (rules_of e) → IsSpare kept e → IsSpare kept n)
            → WentOn kept memories [] e m
            → HasGiven kept memories limit e n before after (record { turns = 1; told = Some wants })
        gives_failed e' out some wants said spare went = by wants (failed_so wants before after e' said)
          where
            by : (wants : Bool) → (wants ≡ true) × TurnTold (rules_of e) (state_of e) (view p)
                (state_of n) wants Memory before after
                → HasGiven kept memories limit e n before after (record { turns = 1; told = Some wants })
            by true (is, t) = spent_so 1 1 true t.reply (omega arith) (counts_refused {A = Bool × Reply} limit
                (true, t.reply) some)
                (telling (view p) (ap first_of viewed) t.turns (spent (state_of n))) t.appended
                (subst (λ (d : Demand K). RunsOut kept memories limit e d p) (sym demand_end) out) spare went
            by false (is, t) = absurd cc

    -- it has no answer yet
    pub gives_silent : (limit : Option ℕ) (o : Option Question) → Reopens 0 e.posts m.posts p o
        → (counted : ℕ) (before after : List ℕ) → after ≡ before
        → IfSome limit (λ n. 0 < n) → Came {E = AllocError} kept memories limit e m.demand p o (Ok (counted, None))
        → (IsSpare kept e → IsSpare kept m)
        → WentOn kept memories [] e m
        → HasGiven kept memories limit e m before after (record { turns = counted; told = None })
    gives_silent limit o opens counted before after same some (given, counts, still) spare went =
        let start = turns_given p.question in
        let count : turns_given o ≡ start + given = ap turns_given still.holds.1 ∙ still.holds.2.counted in
        let turns = silent_turns (rules_of e) (state_of e) (view p)
        (map view others) e.posts.count increase given start in
        let end : at_turn (start + given) ≡ state_of m = sym (state_at o (start + given) opens count) in
        gives (record {
          first = p;
          others = others;
          least = least;
          told = None;
          given = given;
          some = some_silent Form limit given counted counts some;
          counts = silent_same Form (Bool × Reply) limit given counted counts;
          turns = subst (λ (x : State). Given (rules_of e) given x [] (state_of m)) as_now
              (subst (λ (x : State). Given (rules_of e) given (at_turn start) [] x) end turns);
          appended = same ∙ sym (append-nil before);
          named = refl;
          tried = (o, still, opens.items ∙ ap (λ (l : List Posted). slice_set l 0 (record p { question = o })) least);
          spare = λ whole. spare;
          went = went;
        })

-- no question is open, and nothing is done
pub gives_nothing : {K : Type 0} (kept : K
    → Entries) (memories : K → Memories) (limit : Option ℕ) (e : Engine K) (before after : List ℕ) → e.posts.items.items ≡ []
    → after ≡ before → HasGiven kept memories limit e e before after (record { turns = 0; told = None })
gives_nothing kept memories limit e before after none same = none_open (ap (map (posted_view
    (path e.store))) none) refl same refl

-- one turn, where a question is open
pub turned_once : {K : Type 0} (kept : K
    → Entries) (memories : K → Memories) (e n : Engine K) (before after : List ℕ) (it : Spent) (is_settled : Bool)
    → MatchBool is_settled (e.posts.items.items ≡ []) (0 < length e.posts.items.items)
    → HasGiven kept memories (Some 1) e n before after it
    → HasTurned kept memories e n before after (not is_settled)
turned_once kept memories e n before after it true none (none_open posted same appended told) = (posted, same, appended)
turned_once kept memories e n before after it true none
    (gives s) = let no : s.first ∷ s.others ≡ [] = sym s.least ∙ none in absurd cc
turned_once kept memories e n before after it false some (none_open posted same appended told) =
    absurd (omega (arith, some, sym (length-map e.posts.items.items (posted_view (path e.store))) ∙ ap length posted))
turned_once kept memories e n before after it false some (gives s) = (it, s)

-- what is told of a question that was given all turns
abbrev pub IsResult : Result (ℕ × Option Form) AllocError → Result Form AllocError → Type 0
IsResult (Ok (counted, None)) form = ⊥
IsResult (Ok (counted, Some f)) form = form ≡ Ok f
IsResult (Err e') form = form ≡ Err e'

-- what is told tells whether memory ran out in its turns
whole_result : (rules : Rules) (r : Result (ℕ × Option Form) AllocError) (form : Result Form AllocError) → IsResult r form
    → KeepsGroups rules form → KeepsGroups rules r
whole_result rules (Ok g) form is whole = tt
whole_result rules (Err e') form is whole = subst (λ (x : Result Form AllocError). KeepsGroups rules x) is whole

module _ {K : Type 0} (kept : K
    → Entries) (memories : K → Memories) (e : Engine K) (d : Demand K) (p : Posted) (o : Option Question) where
  ends_with : (r : Result (ℕ × Option Form) AllocError) (form : Result Form AllocError) → IsResult r form → Came kept memories None e d p o r
      → HasEnded kept memories e d p form
  ends_with (Ok (counted, None)) form is came = absurd is
  ends_with (Ok (counted, Some f)) form is (given, counts, said, ends) = subst (HasEnded kept memories e d p) (sym is) (given, said, ends)
  ends_with (Err e') form is came = subst (HasEnded kept memories e d p) (sym is) came

-- what a line that waits is told
pub waited : {K : Type 0} (kept : K → Entries) (memories : K → Memories) (e : Engine K)
    → IsHeld kept memories e → (position : ℕ) → position < length e.posts.items.items → (m : Engine K)
    (r : Result (ℕ × Option Form) AllocError)
    → Attends kept memories e m position (λ p. HasGone kept memories None e m position p r) (KeepsGroups (rules_of e) r)
    → (form : Result Form AllocError) → IsResult r form → (n : Engine K) (told : Told)
    → TakesOff kept memories m n position (λ p. told ≡ told_of p m.version form)
    → Attends kept memories e n position (λ p. IsClosed kept memories e n p told) (KeepsGroups (rules_of e) told.form)
waited {K} kept memories e held position within m r a form is n told off = record {
  done = λ p there.
      let h = a.done p there in
      let ended = ends_with kept memories e m.demand p h.now r form is h.came in
      let still = stands_open kept e held position p there m a.rest h.now h.reopens in
      let same : n.demand ≡ m.demand = ap (λ (x : Engine K). x.demand) off.rest in
      closed_so kept e held position p there m a.rest h.now h.reopens n off.rest off.items memories form
      (subst (λ (x : Demand K). HasEnded kept memories e x p form) (sym same) ended) told
      (off.told (record p { question = h.now }) still);
  rest = rest_end e m n a.rest off.rest;
  spare = λ whole spare.
      let (p, there) = there_at e.posts.items.items position within in
      let h = a.done p there in
      let same : told.form ≡ form = ap (λ (x : Told). x.form) (off.told (record p { question = h.now })
      (stands_open kept e held position p there m a.rest h.now h.reopens)) in
      off.spare (a.spare (whole_result (rules_of e) r form is (subst (λ (x : Result Form AllocError). KeepsGroups (rules_of e) x) same whole)) spare);
  sound = off.sound;
}

pub stays_there : {K : Type 0} (kept : K → Entries) (memories : K
    → Memories) (e : Engine K) (position : ℕ) → position < length e.posts.items.items
    → (m : Engine K) (r : Result (ℕ × Option Form) AllocError) {Whole : Type 0}
    → Attends kept memories e m position (λ p. HasGone kept memories None e m position p r) Whole
    → position < length m.posts.items.items
stays_there kept memories e position within m r a =
    let (p, there) = there_at e.posts.items.items position within in
    let h = a.done p there in
    let q : Posted = record p { question = h.now } in
    slice_get_within m.posts.items.items position q
    (subst (λ (l : List Posted). slice_get l position ≡ Some q) (sym h.reopens.items)
    (get_set e.posts.items.items position p q there))

-- without a limit it has an answer
pub never_silent : {K : Type 0} (kept : K → Entries) (memories : K
    → Memories) (e m : Engine K) (position : ℕ) → position < length e.posts.items.items
    → (counted : ℕ) (o : Option Form) {Whole : Type 0}
    → Attends kept memories e m position (λ p. HasGone {E = AllocError} kept memories None e m position p (Ok
    (counted, o))) Whole → o ≡ None → ⊥
never_silent kept memories e m position within counted o a is =
    let (p, there) = there_at e.posts.items.items position within in
    let h = a.done p there in
    (subst (λ (x : Option Form). Came {E = AllocError} kept memories None e m.demand p h.now (Ok
    (counted, x))) is h.came).1

-- the first question was given turns
pub record FirstGone {K E : Type 0} (kept : K
    → Entries) (memories : K → Memories) (limit : Option ℕ) (e m : Engine K) (r : Result (ℕ × Option Form) E) : Type 0 where
  pub p : Posted
  pub others : List Posted
  pub least : e.posts.items.items ≡ p ∷ others
  pub there : StandsAt e.posts.items.items 0 p
  pub now : Option Question
  pub reopens : Reopens 0 e.posts m.posts p now
  pub still : StandsAt m.posts.items.items 0 (record p { question = now })
  pub within : 0 < length m.posts.items.items
  pub came : Came kept memories limit e m.demand p now r

pub first_gone : {K E : Type 0} (kept : K → Entries) (memories : K
    → Memories) (limit : Option ℕ) (e m : Engine K)
    (r : Result (ℕ × Option Form) E) {Whole : Type 0} → 0 < length e.posts.items.items
    → Attends kept memories e m 0 (λ p. HasGone kept memories limit e m 0 p r) Whole → FirstGone kept memories limit e m r
first_gone kept memories limit e m r some a =
    let (p, others, least) = first_there e.posts.items.items some in
    let there : StandsAt e.posts.items.items 0 p = ap (λ (l : List Posted). slice_get l 0) least in
    let h = a.done p there in
    let still : StandsAt m.posts.items.items 0 (record p { question = h.now }) =
    subst (λ (l : List Posted). slice_get l 0 ≡ Some (record p { question = h.now })) (sym h.reopens.items)
    (get_set e.posts.items.items 0 p (record p { question = h.now }) there) in
    record {
      p = p;
      others = others;
      least = least;
      there = there;
      now = h.now;
      reopens = h.reopens;
      still = still;
      within = slice_get_within m.posts.items.items 0 (record p { question = h.now }) still;
      came = h.came;
    }

-- what a call promises that gives turns
pub called : {K T E : Type 0} (kept : K → Entries) (memories : K
    → Memories) (e m n : Engine K) (out next : Vec ℕ Global) (Done : T → Type 0) (t : T)
    → IsSound kept memories e → m ≡ record e { demand = m.demand; posts = m.posts }
    → n ≡ record m { posts = record n.posts { count = m.posts.count } }
    → IsHeld kept memories n → vec_capacity out ≤ vec_capacity next
    → Done t
    → Calls {E = E} kept memories e n out next Done (Ok t)
called {K} kept memories e m n out next Done t sound rest tells held room done = record {
  done = done;
  same = tt;
  full = tt;
  err = tt;
  room = room;
  rules = ap (λ (x : Engine K). x.rules) tells ∙ ap (λ (x : Engine K). x.rules) rest;
  settings = ap (λ (x : Engine K). x.settings) tells ∙ ap (λ (x : Engine K). x.settings) rest;
  sound = record {
    held = held;
    typed = typed_end m n tells (typed_rest e m rest sound.typed);
    known = subst (Knows {K = K}) (sym tells) (subst (Knows {K = K}) (sym rest) sound.known);
  };
}
