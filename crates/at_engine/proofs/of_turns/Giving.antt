-- What turns do, and how much can be counted of lines and turns.
use Rattle.std.proofs.Common.{◌≡◌, ℕ, suc, ◌+◌, ◌-◌, ◌^◌, ◌≤◌, ◌<◌, Bool, true, false, cond, not, nat_eq, if◌then◌else◌, List, [], ◌∷◌, ◌++◌, map, filter, length, inl, inr, refl, sym, ap, ◌∙◌, append_assoc, append-nil, subst, arith, length-append, Option, Some, None, Result, Ok, Err}
use Rattle.std.specs.Prelude.{IfSome}
use Rattle.std.specs.Option.{option_map}
use Rattle.std.proofs.lemmas.Bool.Decides.{eqb_tells}
use Rattle.std.proofs.lemmas.List.{length-map}
use Rattle.std.proofs.KnownBytes.{Appends-nil, Appends-trans}
use Rattle.std.specs.Io.KnownBytes.{Appends}
use Rattle.at_model.specs.Effects.{is_post}
use Rattle.at_model.specs.Lines.{Line, Spells}
use Rattle.at_model.specs.Rules.{Rules}
use Rattle.at_model.specs.Replies.{Reply, reply_text}
use Rattle.at_model.specs.Machine.{State, Posted, Verdict, Refuses, Tells, Leaves, Edits, Asks, Posts, Waits, Handles, obeys, waits, refuses, Serves, handles, runs_out, Turns, stays, answers, Given, spent, silent, telling, first_of, after, verdict, text_of, carried_posted, counted}
use Rattle.at_model.specs.Machine.{none_open as none_open_given}
use Rattle.at_model.proofs.of_machines.Commanded.{none_after}
use Rattle.at_model.proofs.of_machines.Machines.{none_given, waited}
use Rattle.at_model.proofs.of_machines.Runs.{given_on}
use Rattle.at_store.specs.Shown.{path}
use Rattle.at_cache.specs.Kept.{Entries}
use Rattle.at_cache.specs.Traced.{Memories}
use Rattle.at_engine.specs.Engines.{rules_of, state_of}
use Rattle.at_engine.specs.Posted.{posted_view}
use Rattle.at_engine.specs.declared.engine.Engine.{Engine}
use Rattle.at_engine.specs.declared.engine.turning.Spent.{Spent}
use Rattle.at_engine.specs.declared.stream.desk.Desk.{Desk}
use Rattle.at_engine.specs.KeptOver.{NonePosts}
use Rattle.at_engine.specs.declared.stream.desk.RunFault.{RunFault}
use Rattle.at_engine.specs.Stepping.{GoesBy, by_turns, nowhere}
use Rattle.at_engine.specs.Keeping.{IsSpare, KeepsWhole}
use Rattle.at_engine.specs.Turned.{HasGiven, gives, is_memory, listed, none_open}
use Rattle.at_engine.specs.Turning.{CountsTurns, IsWithin}
use Rattle.at_engine.specs.Taking.{in_line, in_turn, AreLeft, Gives, GivesInPart, GivesTurns, GivesSome, Halts, Served, ServedOrHalts, countable, wants}
use Rattle.at_engine.proofs.Takings.{both_counted, both_written, no_count, written_behind}

-- so many questions are open at most
pub as_many_open : {K : Type 0} (e : Engine K) → length (state_of e).posted ≡ length e.posts.items.items
as_many_open e = length-map e.posts.items.items (posted_view (path e.store))

pub few_open : {K : Type 0} (e : Engine K) → length (state_of e).posted < 2 ^ 63
few_open e = omega (arith, length-map e.posts.items.items (posted_view (path e.store)), e.posts.items.ok.0, e.posts.items.ok.1, e.posts.items.small)

-- some are fewer than all
fewer_kept : {A : Type 0} (test : A → Bool) (xs : List A) → length (filter test xs) ≤ length xs
fewer_kept test [] = omega arith
fewer_kept test (x ∷ xs) = by (test x) (fewer_kept test xs)
  where
    by : (b : Bool) → length (filter test xs) ≤ length xs → length (cond b (x ∷ filter test xs) (filter test xs)) ≤ suc (length xs)
    by true few = omega (arith, few)
    by false few = omega (arith, few)

-- a question that is told is open no longer
first_gone : (qs : List Posted) (q : Posted) → first_of qs ≡ Some q → length (filter (λ p. not (nat_eq q.number p.number)) qs) + 1 ≤ length qs
first_gone [] q e = absurd cc
first_gone (x ∷ qs) q e =
    let same : x ≡ q = cc in
    let its : not (nat_eq q.number x.number) ≡ false = ap (λ (p : Posted). not (nat_eq q.number p.number)) same ∙ ap not (elim (eqb_tells q.number q.number) [ inl p ↦ p.0 | inr p ↦ absurd (p.1 refl) ]) in
    let few = fewer_kept (λ (p : Posted). not (nat_eq q.number p.number)) qs in
    let all : length (filter (λ (p : Posted). not (nat_eq q.number p.number)) (x ∷ qs)) ≡ length (filter (λ (p : Posted). not (nat_eq q.number p.number)) qs) =
    ap (λ b. length (cond b (x ∷ filter (λ (p : Posted). not (nat_eq q.number p.number)) qs) (filter (λ (p : Posted). not (nat_eq q.number p.number)) qs))) its in
    omega (arith, few, all)

silent_turn : (rules : Rules) (s : State) (number : ℕ) (new : State) → Turns rules s number new None → length new.posted ≡ length s.posted
silent_turn rules s number _ (stays q e) = length-map s.posted (counted number)

telling_turn : (rules : Rules) (s : State) (q : Posted) (new : State) (said : Bool × Reply) → first_of s.posted ≡ Some q → Turns rules s q.number new (Some said) → length new.posted + 1 ≤ length s.posted
telling_turn rules s q _ _ first (answers p form e a) = first_gone s.posted q first
telling_turn rules s q _ _ first (runs_out p e) = first_gone s.posted q first

-- by turns as many questions fewer are open at least as answers are told
pub fewer_given : (rules : Rules) (limit : ℕ) (s : State) (told : List (Bool × Reply)) (new : State) → Given rules limit s told new → length told + length new.posted ≤ length s.posted
fewer_given rules _ _ _ _ (spent s) = omega arith
fewer_given rules _ _ _ _ (none_open_given limit s e) = omega arith
fewer_given rules _ _ _ new (silent {limit = limit} {s = s} {mid = mid} {told = told} q first turn given) = omega (arith, silent_turn rules s q.number mid turn, fewer_given rules limit mid told new given)
fewer_given rules _ _ _ new (telling {limit = limit} {s = s} {mid = mid} {said = said} {told = told} q first turn given) = omega (arith, telling_turn rules s q mid said first turn, fewer_given rules limit mid told new given)

-- by a line at most one more is
more_after : (s : State) (v : Verdict) → length (after s v).posted ≤ length s.posted + 1
more_after s (Refuses refusal) = omega arith
more_after s (Tells shown) = omega arith
more_after s (Leaves marks) = omega arith
more_after s (Edits e t) = omega (arith, length-map s.posted (carried_posted e))
more_after s (Asks q) = omega arith
more_after s (Posts q) = omega (arith, length-append s.posted (q ∷ []))
more_after s (Waits number) = omega arith

more_handled : (rules : Rules) (old : State) (line : List ℕ) (new : State) (said : Bool × Reply) → Handles rules old line new said → length new.posted ≤ length old.posted + 1
more_handled rules old line new _ (obeys l s step) = omega (arith, ap (λ (x : State). length x.posted) step.state, more_after old (verdict rules old l))
more_handled rules old line new said (waits l number s is answered) =
    let gone = ap (λ (x : State). length x.posted) (waited rules number old new said answered).state in
    omega (arith, gone, fewer_kept (λ (q : Posted). not (nat_eq number q.number)) old.posted)
more_handled rules old line _ _ (refuses none session) = omega arith

pub more_served : (rules : Rules) (old : State) (line : List ℕ) (new : State) (said : Bool × Reply) → Serves rules old line new said → length new.posted ≤ length old.posted + 1
more_served rules old line new said (handles h) = more_handled rules old line new said h
more_served rules old line _ _ (runs_out session) = omega arith

-- what is told for want of memory is a part of what is told
one_want : (b : Bool) → (if b then 1 else 0) ≤ 1
one_want true = omega arith
one_want false = omega arith

-- where no question is open and the line posts none, none is open behind it
none_handled : (rules : Rules) (old : State) (line : List ℕ) (new : State) (said : Bool × Reply) → old.posted ≡ [] → ((l : Line) → Spells line l → is_post l.command ≡ false) → Handles rules old line new said → new.posted ≡ []
none_handled rules old line new _ none no_post (obeys l s step) = ap (λ (x : State). x.posted) step.state ∙ none_after rules old l none (no_post l s)
none_handled rules old line new said none no_post (waits l number s is answered) =
    ap (λ (x : State). x.posted) (waited rules number old new said answered).state ∙ ap (filter (λ (q : Posted). not (nat_eq number q.number))) none
none_handled rules old line _ _ none no_post (refuses no_line session) = none

pub none_served : (rules : Rules) (old : State) (line : List ℕ) (new : State) (said : Bool × Reply) → old.posted ≡ [] → NonePosts (line ∷ []) → Serves rules old line new said → new.posted ≡ []
none_served rules old line new said none no_post (handles h) = none_handled rules old line new said none no_post.0 h
none_served rules old line _ _ none no_post (runs_out session) = none

pub none_behind : (rules : Rules) (limit : ℕ) (old : State) (told : List (Bool × Reply)) (new : State) → old.posted ≡ [] → Given rules limit old told new → new.posted ≡ []
none_behind rules limit old told new none given = ap (λ (x : State). x.posted) (none_given rules limit old told new none given).1 ∙ none

module _ (rules : Rules) where
  pub gave_nothing : (old new : State) (desk next : Desk) (before : Option (List ℕ)) → new ≡ old
      → next.lines ≡ desk.lines → next.memory ≡ desk.memory → Gives rules 0 old new desk next before before
  gave_nothing old new desk next before same l m = record {
    told = [];
    given = subst (λ
        (x : State). Given rules 0 old [] x) (sym same)
        (spent old);
    counts = no_count desk next l m;
    written = Appends-nil before;
  }

  -- no turn, and turns that had no answer
  pub gave_none : (limit : ℕ) (old new : State) (desk next : Desk) (before : Option (List ℕ))
      → Given rules limit old [] new → next.lines ≡ desk.lines → next.memory ≡ desk.memory
      → Gives rules limit old new desk next before before
  gave_none limit old new desk next before given l m = record { told = []; given = given; counts = no_count desk next l m; written = Appends-nil before }

-- what was told is one thing
one_told : (o : Option (Bool × Reply)) (wants : Bool) → option_map (λ (x : Bool × Reply). x.0) o ≡ Some wants
    → (said : Bool × Reply) × (o ≡ Some said) × (said.0 ≡ wants)
one_told None wants e = absurd cc
one_told (Some said) wants e = (said, refl, cc)

none_told : (o : Option (Bool × Reply)) → option_map (λ (x : Bool × Reply). x.0) o ≡ None → o ≡ None
none_told None e = refl
none_told (Some said) e = absurd cc

not_both : (o : Option Bool) (wants : Bool) → o ≡ None → o ≡ Some wants → ⊥
not_both o wants e f = let no : ◌≡◌ {A = Option Bool} None (Some wants) = sym e ∙ f in absurd cc

-- the turns spent, of which the last one had an answer
pub record Answers (rules : Rules) (limit : Option ℕ) (old new : State) (wants : Bool) (counted : ℕ)
    (before after : List ℕ) : Type 0 where
  pub said : Bool × Reply
  pub names : said.0 ≡ wants
  pub given : ℕ
  pub turns : Given rules given old (said ∷ []) new
  pub text : after ≡ before ++ reply_text said.1
  pub some : 0 < given
  pub counts : CountsTurns limit given counted (Some said)

module _ {K : Type 0} (kept : K
    → Entries) (memories : K → Memories) (limit : Option ℕ) (old new : Engine K) (before after : List ℕ) (it : Spent) where
  pub has_answer : (wants : Bool) → it.told ≡ Some wants → HasGiven kept memories limit old new before after it
      → Answers (rules_of old) limit (state_of old) (state_of new) wants it.turns before after
  has_answer wants is (none_open none same appended told) = absurd (not_both it.told wants told is)
  has_answer wants is (gives s) =
      let (said, one, names) = one_told s.told wants (s.named ∙ is) in
      record {
        said = said;
        names = names;
        given = s.given;
        turns = subst (λ (o : Option (Bool × Reply)). Given (rules_of old) s.given (state_of old) (listed o)
            (state_of new)) one s.turns;
        text = s.appended ∙ ap (λ (o : Option (Bool × Reply)). before ++ text_of (listed o)) one ∙ ap (λ l. before ++ l)
            (append-nil (reply_text said.1));
        some = s.some;
        counts = subst (λ (o : Option (Bool × Reply)). CountsTurns limit s.given it.turns o) one s.counts;
      }

  -- where no question is open, nothing has changed
  pub none_changed : HasGiven kept memories limit old new before after it → (state_of old).posted ≡ [] → new ≡ old
  none_changed (none_open none same appended told) posted = same
  none_changed (gives s) posted =
      let some : posted_view (path old.store) s.first ∷ map (posted_view (path old.store)) s.others ≡ [] =
      sym (ap (map (posted_view (path old.store))) s.least) ∙ posted in
      absurd cc

  -- what was kept spare is so still
  pub given_spare : HasGiven kept memories limit old new before after it → KeepsWhole (rules_of old) (is_memory it.told)
      → IsSpare kept old → IsSpare kept new
  given_spare (none_open none same appended told) whole spare = subst (λ (e : Engine K). IsSpare kept e) (sym same) spare
  given_spare (gives s) whole spare = s.spare whole spare

  -- so the engine has gone on
  pub has_gone : HasGiven kept memories limit old new before after it → GoesBy kept memories old new
  has_gone (none_open none same appended told) = subst (GoesBy kept memories old) (sym same) nowhere
  has_gone (gives s) = by_turns old new limit before after it nowhere s

  pub no_more_open : HasGiven kept memories limit old new before after it
      → length (state_of new).posted ≤ length (state_of old).posted
  no_more_open (none_open none same appended told) = omega (
    arith,
    ap (λ (e : Engine K). length
        (state_of e).posted) same,
  )
  no_more_open (gives s) = omega (
    arith,
    fewer_given (rules_of old) s.given (state_of old) (listed s.told)
        (state_of new) s.turns,
  )

-- and what the others leave
pub quiet_leaves : {K : Type 0} (kept : K
    → Entries) (memories : K → Memories) (limit : Option ℕ) (old new : Engine K) (before after : List ℕ) (it : Spent)
    (desk next : Desk) (w : Option (List ℕ)) → it.told ≡ None → HasGiven kept memories limit old new before after it
    → IfSome limit (λ n. 0 < n)
    → next.lines ≡ desk.lines → next.memory ≡ desk.memory
    → GivesSome (rules_of old) limit 0 (state_of old) (state_of new) desk next w w
quiet_leaves {K} kept memories None old new before after it desk next w is
    (none_open none same appended told) some l m = record {
      turns = 0;
      gives = gave_nothing (rules_of old) (state_of old) (state_of new) desk next w (ap (state_of {K = K}) same) l m;
      are_left = inl none;
    }
quiet_leaves kept memories None old new before after it desk next w is (gives s) some l m = absurd (subst (λ (o : Option
    (Bool × Reply)). CountsTurns None s.given it.turns o)
    (none_told s.told (s.named ∙ is)) s.counts)
quiet_leaves {K} kept memories (Some limit) old new before after it desk next w is
    (none_open none same appended told) some l m = record {
      turns = limit;
      gives = gave_none (rules_of old) limit (state_of old) (state_of new) desk next w
          (subst (λ (x : State). Given (rules_of old) limit (state_of old) [] x) (sym (ap (state_of {K = K}) same))
          (none_open_given limit (state_of old) none)) l m;
      are_left = (some, omega arith);
    }
quiet_leaves kept memories (Some limit) old new before after it desk next w is (gives s) some l m =
    let none = none_told s.told (s.named ∙ is) in
    let counts = subst (λ (o : Option (Bool × Reply)). CountsTurns (Some limit) s.given it.turns o) none s.counts in
    let turns = subst (λ (o : Option (Bool × Reply)). Given (rules_of old) s.given (state_of old) (listed o)
    (state_of new)) none s.turns in
    record {
      turns = limit;
      gives = gave_none (rules_of old) limit (state_of old) (state_of new) desk next w
          (subst (λ (k : ℕ). Given (rules_of old) k (state_of old) [] (state_of new)) counts.1 turns) l m;
      are_left = (some, omega arith);
    }

-- an answer leaves fewer turns, or fewer questions
pub are_left_then : (rules : Rules) (limit : Option ℕ) (given counted left : ℕ) (old new : State) (said : Bool × Reply)
    → CountsTurns limit given counted (Some said)
    → IfSome limit (λ n. counted + left ≡ n) → 0 < given → Given rules given old (said ∷ []) new
    → AreLeft limit given left old new
are_left_then rules None given counted left old new said counts is some turns = inr (omega
    (arith, fewer_given rules given old (said ∷ []) new turns))
are_left_then rules (Some limit) given counted left old new said counts is some turns = (
  omega
      (arith, counts.0, is, some),
  omega (arith, counts.0, is),
)

pub counted_within : (limit : Option ℕ) (given counted : ℕ) (said : Bool × Reply)
    → CountsTurns limit given counted (Some said)
    → IfSome limit (λ n. counted ≤ n) × IsWithin limit given
counted_within None given counted said counts = (tt, tt)
counted_within (Some limit) given counted said counts = (omega (arith, counts.0, counts.1), counts.1)

module _ (rules : Rules) where
  -- the last one had an answer
  pub gave_one : (turns : ℕ) (old new : State) (desk next : Desk) (before after : Option (List ℕ)) (said : Bool × Reply) → Given rules turns old (said ∷ []) new → next.lines ≡ desk.lines → next.memory ≡ desk.memory + (if said.0 then 1 else 0)
      → Appends before after (reply_text said.1) → Gives rules turns old new desk next before after
  gave_one turns old new desk next before after said given l m written = record {
    told = said ∷ [];
    given = given;
    counts = record { lines' = omega (arith, l); memory = omega (arith, m) };
    written = subst (Appends before after) (sym (append-nil (reply_text said.1))) written;
  }

  -- which could not be written whole
  pub stops_at_one : (turns limit : ℕ) (old new : State) (before after : Option (List ℕ)) (said : Bool × Reply) (done undone : List ℕ) → turns ≤ limit → Given rules turns old (said ∷ []) new → reply_text said.1 ≡ done ++ undone → Appends before after done
      → GivesInPart rules limit old new before after
  stops_at_one turns limit old new before after said done undone few given split written = record {
    turns = turns;
    within = few;
    told = [];
    said = said;
    given = given;
    done = done;
    undone = undone;
    split = split;
    written = written;
  }

  -- turns and then others
  pub gave_more : (m n : ℕ) (old mid new : State) (desk next last : Desk) (before between after : Option (List ℕ)) → Gives rules m old mid desk next before between → Gives rules n mid new next last between after → Gives rules (m + n) old new desk last before after
  gave_more m n old mid new desk next last before between after g h = record {
    told = g.told ++ h.told;
    given = given_on rules m n old mid new g.told h.told g.given h.given;
    counts = both_counted desk next last 0 0 g.told h.told g.counts h.counts;
    written = both_written before between after g.told h.told g.written h.written;
  }

  pub stops_later : (m n : ℕ) (old mid new : State) (desk next : Desk) (before between after : Option (List ℕ)) → Gives rules m old mid desk next before between → GivesInPart rules n mid new between after → GivesInPart rules (m + n) old new before after
  stops_later m n old mid new desk next before between after g h = record {
    turns = m + h.turns;
    within = omega (arith, h.within);
    told = g.told ++ h.told;
    said = h.said;
    given = subst (λ (told : List (Bool × Reply)). Given rules (m + h.turns) old told new) (sym (append_assoc g.told h.told (h.said ∷ []))) (given_on rules m h.turns old mid new g.told (h.told ++ h.said ∷ []) g.given h.given);
    done = h.done;
    undone = h.undone;
    split = h.split;
    written = written_behind before between after g.told h.told h.done g.written h.written;
  }

  pub counts_one : (turns : ℕ) (old new : State) (said : Bool × Reply) → Given rules turns old (said ∷ []) new → (if said.0 then 1 else 0) + length new.posted ≤ length old.posted
  counts_one turns old new said given = omega (arith, one_want said.0, fewer_given rules turns old (said ∷ []) new given)

  -- a line, and then turns
  pub served_then : (slice : ℕ) (old mid new : State) (line : List ℕ) (said : Bool × Reply) (desk next last : Desk) (before between after : Option (List ℕ)) → Serves rules old line mid said → next.lines ≡ desk.lines + 1 → next.memory ≡ desk.memory + (if said.0 then 1 else 0)
      → Appends before between (reply_text said.1) → Gives rules slice mid new next last between after → Served rules slice old line new desk last before after
  served_then slice old mid new line said desk next last before between after serves l m written g = record {
    mid = mid;
    said = said;
    serves = serves;
    told = g.told;
    given = g.given;
    counts = record { lines' = omega (arith, l, g.counts.lines'); memory = omega (arith, m, g.counts.memory) };
    written = Appends-trans before between after (reply_text said.1) (text_of g.told) written g.written;
  }

  -- what was told last could not be written: in the line, or by a turn behind it
  pub halts_in_line : (slice : ℕ) (old new : State) (line : List ℕ) (said : Bool × Reply) (before after : Option (List ℕ)) (done undone : List ℕ) → Serves rules old line new said → reply_text said.1 ≡ done ++ undone → Appends before after done → Halts rules slice old line new before after
  halts_in_line slice old new line said before after done undone serves split written = record {
    told = [];
    said = said;
    ends = in_line serves;
    done = done;
    undone = undone;
    split = split;
    written = written;
  }

  pub halts_behind : (slice : ℕ) (old mid new : State) (line : List ℕ) (first : Bool × Reply) (before between after : Option (List ℕ)) → Serves rules old line mid first → Appends before between (reply_text first.1) → GivesInPart rules slice mid new between after → Halts rules slice old line new before after
  halts_behind slice old mid new line first before between after serves written g = record {
    told = first ∷ g.told;
    said = g.said;
    ends = in_turn g.turns g.within serves g.given;
    done = g.done;
    undone = g.undone;
    split = g.split;
    written = written_behind before between after (first ∷ []) g.told g.done (subst (Appends before between) (sym (append-nil (reply_text first.1))) written) g.written;
  }

  -- by a line and the turns behind it at most three more can be counted
  pub counts_served : (old mid : State) (line : List ℕ) (said : Bool × Reply) (desk next : Desk) → Serves rules old line mid said → next.lines ≡ desk.lines + 1 → next.memory ≡ desk.memory + (if said.0 then 1 else 0) → countable next mid ≤ countable desk old + 3
  counts_served old mid line said desk next serves l m = omega (arith, l, m, one_want said.0, more_served rules old line mid said serves)

-- the first ones are given by turns of which some are left
pub as_many_given : (rules : Rules) (m n : ℕ) (old new : State) (desk next : Desk) (before after : Option (List ℕ)) → m ≡ n → Gives rules m old new desk next before after → Gives rules n old new desk next before after
as_many_given rules m n old new desk next before after e g = subst (λ k. Gives rules k old new desk next before after) e g

pub as_many_in_part : (rules : Rules) (m n : ℕ) (old new : State) (before after : Option (List ℕ)) → m ≤ n
    → GivesInPart rules m old new before after → GivesInPart rules n old new before after
as_many_in_part rules m n old new before after few g = record {
  turns = g.turns;
  within = omega (arith, few, g.within);
  told = g.told;
  said = g.said;
  given = g.given;
  done = g.done;
  undone = g.undone;
  split = g.split;
  written = g.written;
}

pub ruled : (rules others : Rules) (n : ℕ) (old new : State) (desk next : Desk) (before after : Option (List ℕ)) → others ≡ rules → Gives others n old new desk next before after → Gives rules n old new desk next before after
ruled rules others n old new desk next before after e g = subst (λ (r : Rules). Gives r n old new desk next before after) e g

pub ruled_in_part : (rules others : Rules) (n : ℕ) (old new : State) (before after : Option (List ℕ)) → others ≡ rules → GivesInPart others n old new before after → GivesInPart rules n old new before after
ruled_in_part rules others n old new before after e g = subst (λ (r : Rules). GivesInPart r n old new before after) e g

-- a line that was served, with the turns behind it, whatever became of these
pub then_turns : (result : Result (Unit {0}) RunFault) (rules others : Rules) (slice turns : ℕ) (old mid new : State) (line : List ℕ) (said : Bool × Reply) (desk next last : Desk) (before between after : Option (List ℕ)) → GivesTurns result others turns mid new next last between after
    → others ≡ rules → turns ≡ slice → Serves rules old line mid said → next.lines ≡ desk.lines + 1 → next.memory ≡ desk.memory + (if said.0 then 1 else 0) → Appends before between (reply_text said.1) → ServedOrHalts result rules slice old line new desk last before after
then_turns (Ok u) rules others slice turns old mid new line said desk next last before between after g e n serves l m written =
    served_then rules slice old mid new line said desk next last before between after serves l m written (as_many_given rules turns slice mid new next last between after n (ruled rules others turns mid new next last between after e g))
then_turns (Err f) rules others slice turns old mid new line said desk next last before between after g e n serves l m written = (
  g.0,
  halts_behind rules slice old mid new line said before between after serves written
      (as_many_in_part rules turns slice mid new between after (omega (arith, n))
      (ruled_in_part rules others turns mid new between after e g.1)),
)

-- turns without a limit leave fewer questions
pub fewer_then : {K : Type 0} (e : Engine K) (turns left : ℕ) (new : State) → 0 < length e.posts.items.items
    → AreLeft None turns left (state_of e) new
    → length new.posted < length (state_of e).posted
fewer_then e turns left new some (inl none) = absurd (omega (arith, some, as_many_open e, ap length none))
fewer_then e turns left new some (inr fewer) = fewer

pub none_posted : {K : Type 0} (e : Engine K) → e.posts.items.items ≡ [] → (state_of e).posted ≡ []
none_posted e none = ap (map (posted_view (path e.store))) none
