-- Open questions, by their positions: what the state is when one has come farther, or is open no longer.
use Rattle.std.proofs.Common.{◌≡◌, ℕ, ◌<◌, Bool, true, false, not, if◌then◌else◌, nat_eq, List, [], ◌∷◌, ◌++◌, filter, find, length, map, Option, Some, None, Result, Ok, Err, refl, sym, ap, ◌∙◌, subst, true≢false}
use Rattle.std.specs.Prelude.{remove, IsSome}
use Rattle.std.specs.List.{AllByRecursion}
use Rattle.std.specs.declared.alloc.AllocError.{AllocError}
use Rattle.std.proofs.lemmas.List.{map-append}
use Rattle.at_model.specs.Enduring.{AreNumbered}
use Rattle.at_model.specs.Replies.{Form, Memory, Reply, reply_text}
use Rattle.at_model.specs.Rules.{Rules}
use Rattle.at_model.specs.Run.{Instance}
use Rattle.at_model.specs.Machine.{State, Posted as PostedOf, Turns, answers, runs_out, done_reply, numbered, without}
use Rattle.at_protocol.specs.ReplyView.{IsForm}
use Rattle.at_protocol.specs.declared.reply.Form.{Form as FormValue}
use Rattle.at_store.specs.Shown.{Shown, contents, path, tree}
use Rattle.at_cache.specs.Kept.{Entries}
use Rattle.at_cache.specs.Traced.{Memories}
use Rattle.at_evaluate.specs.Right.{AreRight}
use Rattle.at_evaluate.specs.Traces.{IsRemembered}
use Rattle.at_evaluate.specs.Sparing.{AreSpare}
use Rattle.at_demand.specs.declared.question.Question.{Question}
use Rattle.at_demand.proofs.of_steps.Grown.{spares_grown, stands_grown}
use Rattle.at_engine.specs.Holding.{AreKeptTyped, HasBegun, IsPostedOn, IsSoundWith, state_in}
use Rattle.at_engine.specs.Keeping.{IsSpareWith, IsSparingOn}
use Rattle.at_engine.specs.Marks.{Mark, marks_view}
use Rattle.at_engine.specs.Posted.{posted_view}
use Rattle.at_engine.specs.Telling.{IsAnswerTo, IsSaid}
use Rattle.at_engine.specs.Turning.{Reopens, StandsAt, told_of}
use Rattle.at_engine.specs.declared.posts.Posted.{Posted}
use Rattle.at_engine.specs.declared.posts.Posts.{Posts}
use Rattle.at_engine.proofs.of_turns.Numberings.{found_there, left_there, numbered_put, numbered_without}
use Rattle.at_engine.proofs.Positions.{at_position, all_so, holds_at, holds_put, holds_without, there_at}
use Rattle.at_engine.proofs.Storing.{held}

-- A turn has told so, and its answer is appended.
pub record TurnTold (rules : Rules) (old : State) (q : PostedOf) (new : State) (wants : Bool) (form : Form) (before after : List ℕ) : Type 0 where
  pub reply : Reply
  pub reply_is : reply ≡ done_reply old q (if wants then Memory else form)
  pub turns : Turns rules old q.number new (Some (wants, reply))
  pub appended : after ≡ before ++ reply_text reply
  pub is_form : wants ≡ false → reply.form ≡ form

same_ok : {T E : Type 0} {a b : T} → ◌≡◌ {A = Result T E} (Ok a) (Ok b) → a ≡ b
same_ok e = cc

not_ok : {T E : Type 0} {a : T} {e : E} → ◌≡◌ {A = Result T E} (Err e) (Ok a) → ⊥
not_ok e = absurd cc

module _ (rules : Rules) (s : Shown) (version : ℕ) (ms : List Mark) (old : Posts) (position : ℕ) (p : Posted) (there : StandsAt old.items.items position p) (increase : AreNumbered 0 (map (posted_view (path s)) old.items.items) old.count) where
  abbrev view : Posted → PostedOf
  view = posted_view (path s)

  abbrev before_it : List Posted
  before_it = (at_position old.items.items position p there).front

  abbrev behind_it : List Posted
  behind_it = (at_position old.items.items position p there).back

  abbrev pub now : State
  now = state_in s version ms old

  viewed : map view old.items.items ≡ map view before_it ++ view p ∷ map view behind_it
  viewed = ap (map view) (at_position old.items.items position p there).split ∙ map-append view before_it (p ∷ behind_it)

  split_numbered : AreNumbered 0 (map view before_it ++ view p ∷ map view behind_it) old.count
  split_numbered = subst (λ (l : List PostedOf). AreNumbered 0 l old.count) viewed increase

  pub is_numbered : numbered now p.number ≡ Some (view p)
  is_numbered = subst (λ (l : List PostedOf). find (λ (x : PostedOf). nat_eq p.number x.number) l ≡ Some (view p)) (sym viewed) (found_there (map view before_it) (view p) (map view behind_it) 0 old.count split_numbered)

  -- the state without it
  pub gone : (new : Posts) → new.items.items ≡ remove old.items.items position → new.count ≡ old.count → state_in s version ms new ≡ without p.number now
  gone new items count =
      ap (λ (c : ℕ). held (tree s) s.limit version (marks_view (path s) ms) c (map view new.items.items)) count
      ∙ ap (λ (l : List PostedOf). held (tree s) s.limit version (marks_view (path s) ms) old.count l)
      (ap (map view) (items ∙ (at_position old.items.items position p there).removed) ∙ map-append view before_it behind_it
      ∙ sym (left_there (map view before_it) (view p) (map view behind_it) 0 old.count split_numbered) ∙ ap (filter (λ (x : PostedOf). not (nat_eq p.number x.number))) (sym viewed))

  -- the numbers increase with it reopened, and without it
  pub numbered_reopened : (o : Option Question) (new : Posts) → Reopens position old new p o → AreNumbered 0 (map view new.items.items) new.count
  numbered_reopened o new r =
      let q : Posted = record p { question = o } in
      subst (λ (c : ℕ). AreNumbered 0 (map view new.items.items) c) (sym r.count)
      (subst (λ (l : List PostedOf). AreNumbered 0 l old.count) (sym (ap (map view) (r.items ∙ (at_position old.items.items position p there).set q) ∙ map-append view before_it (q ∷ behind_it)))
      (numbered_put (map view before_it) (view p) (view q) (map view behind_it) 0 old.count refl split_numbered))

  pub numbered_gone : (new : Posts) → new.items.items ≡ remove old.items.items position → new.count ≡ old.count → AreNumbered 0 (map view new.items.items) new.count
  numbered_gone new items count =
      subst (λ (c : ℕ). AreNumbered 0 (map view new.items.items) c) (sym count)
      (subst (λ (l : List PostedOf). AreNumbered 0 l old.count) (sym (ap (map view) (items ∙ (at_position old.items.items position p there).removed) ∙ map-append view before_it behind_it))
      (numbered_without (map view before_it) (view p) (map view behind_it) 0 old.count split_numbered))

  -- what is told of it
  module _ (new : State) (without_it : new ≡ without p.number now) (before after : List ℕ) where
    pub told_ok : (f : FormValue) (x : IsAnswerTo rules now (view p) f) (wants : Bool) → IsSaid (told_of p version (Ok f)) wants before after → TurnTold rules now (view p) new wants x.form before after
    told_ok f x true said = record {
      reply = done_reply now (view p) Memory;
      reply_is = refl;
      turns = subst (λ (y : State). Turns rules now p.number y (Some (true, done_reply now (view p) Memory))) (sym without_it) (runs_out (view p) is_numbered);
      appended = said.1;
      is_form = λ e. absurd (true≢false e);
    }
    told_ok f x false (g, is, writes) = record {
      reply = done_reply now (view p) x.form;
      reply_is = refl;
      turns = subst (λ (y : State). Turns rules now p.number y (Some (false, done_reply now (view p) x.form))) (sym without_it) (answers (view p) x.form is_numbered x.answers);
      appended = writes (done_reply now (view p) x.form) (record { session = refl; done = refl; form = subst (λ (h : FormValue). IsForm h x.form) (same_ok is) x.is_form });
      is_form = λ e. refl;
    }

    pub told_err : (e : AllocError) (wants : Bool) → IsSaid (told_of p version (Err e)) wants before after → (wants ≡ true) × TurnTold rules now (view p) new wants Memory before after
    told_err e true said = (
      refl,
      record {
        reply = done_reply now (view p) Memory;
        reply_is = refl;
        turns = subst (λ (y : State). Turns rules now p.number y (Some (true, done_reply now (view p) Memory))) (sym without_it) (runs_out (view p) is_numbered);
        appended = said.1;
        is_form = λ e. refl;
      },
    )
    told_err e false (g, is, writes) = absurd (not_ok is)

-- where more is kept, the questions stand as they did
module _ (rules : Rules) (s : Shown) (entries more : Entries) (grown : (i : Instance ℕ) → IsSome (entries i) → more i ≡ entries i) where
  begun_grown : (p : Posted) (o : Option Question) → HasBegun rules s entries p o → HasBegun rules s more p o
  begun_grown p None h = tt
  begun_grown p (Some q) h = record { standing = stands_grown rules s entries more grown q h.standing; named = h.named; asks = h.asks; like = h.like }

  posted_grown : (p : Posted) → IsPostedOn rules s entries p → IsPostedOn rules s more p
  posted_grown p h = record { named = h.named; marked = h.marked; begun = begun_grown p p.question h.begun }

  sparing_grown : (p : Posted) (o : Option Question) → HasBegun rules s entries p o → IsSparingOn rules (contents s) entries o → IsSparingOn rules (contents s) more o
  sparing_grown p None h g = tt
  sparing_grown p (Some q) h g = spares_grown rules s entries more grown q g

  all_sparing : (ps : List Posted) → AllByRecursion (IsPostedOn rules s entries) ps → AllByRecursion (λ (p : Posted). IsSparingOn rules (contents s) entries p.question) ps → AllByRecursion (λ (p : Posted). IsSparingOn rules (contents s) more p.question) ps
  all_sparing [] h g = tt
  all_sparing (p ∷ ps) h g = (sparing_grown p p.question h.0.begun g.0, all_sparing ps h.1 g.1)

  module _ (ms : List Mark) (old : Posts) {m : Memories} (h : IsSoundWith rules s ms old entries m) where
    pub sound_grown : {n : Memories} → AreRight rules s more → AreKeptTyped rules s more → IsRemembered rules s n → IsSoundWith rules s ms old more n
    sound_grown right typed remembered = record {
      idle = h.idle;
      sound = h.sound;
      conforming = h.conforming;
      marked = h.marked;
      right = right;
      typed = typed;
      remembered = remembered;
      posted = all_so posted_grown old.items.items h.posted;
      numbered = h.numbered;
    }

    pub spare_grown : AreSpare rules (contents s) more → IsSpareWith rules (contents s) entries old.items.items → IsSpareWith rules (contents s) more old.items.items
    spare_grown spare g = record { kept = spare; posted' = all_sparing old.items.items h.posted g.posted' }

    -- and one of them has come so far
    module _ (position : ℕ) (p : Posted) (there : StandsAt old.items.items position p) (o : Option Question) (new : Posts) (r : Reopens position old new p o) where
      pub sound_reopened : {n : Memories} → AreRight rules s more → AreKeptTyped rules s more → IsRemembered rules s n → HasBegun rules s more p o
          → IsSoundWith rules s ms new more n
      sound_reopened right typed remembered begun =
          let q : Posted = record p { question = o } in
          let all = all_so posted_grown old.items.items h.posted in
          let was = holds_at (IsPostedOn rules s more) old.items.items position p there all in
          let is : IsPostedOn rules s more q = record { named = was.named; marked = was.marked; begun = as_reopened o begun } in
          record {
            idle = h.idle;
            sound = h.sound;
            conforming = h.conforming;
            marked = h.marked;
            right = right;
            typed = typed;
            remembered = remembered;
            posted = subst (AllByRecursion (IsPostedOn rules s more)) (sym r.items) (holds_put (IsPostedOn rules s more) old.items.items position p there all q is);
            numbered = numbered_reopened rules s 0 ms old position p there h.numbered o new r;
          }
        where
          as_reopened : (o : Option Question) → HasBegun rules s more p o → HasBegun rules s more (record p { question = o }) o
          as_reopened None b = tt
          as_reopened (Some x) b = record { standing = b.standing; named = b.named; asks = b.asks; like = b.like }

      pub spare_reopened : AreSpare rules (contents s) more → IsSparingOn rules (contents s) more o → IsSpareWith rules (contents s) entries old.items.items → IsSpareWith rules (contents s) more new.items.items
      spare_reopened spare sparing g = record {
        kept = spare;
        posted' = subst (AllByRecursion (λ (x : Posted). IsSparingOn rules (contents s) more x.question)) (sym r.items)
            (holds_put (λ (x : Posted). IsSparingOn rules (contents s) more x.question) old.items.items position p there (all_sparing old.items.items h.posted g.posted') (record p { question = o }) sparing);
      }

-- one of them is open no longer
module _ (rules : Rules) (s : Shown) (ms : List Mark) (old new : Posts) (entries : Entries) (position : ℕ) (within : position < length old.items.items) (items : new.items.items ≡ remove old.items.items position) where
  pub sound_gone : {m : Memories} → new.count ≡ old.count → IsSoundWith rules s ms old entries m → IsSoundWith rules s ms new entries m
  sound_gone count h =
      let (p, there) = there_at old.items.items position within in
      record {
        idle = h.idle;
        sound = h.sound;
        conforming = h.conforming;
        marked = h.marked;
        right = h.right;
        typed = h.typed;
        remembered = h.remembered;
        posted = subst (AllByRecursion (IsPostedOn rules s entries)) (sym items) (holds_without (IsPostedOn rules s entries) old.items.items position p there h.posted);
        numbered = numbered_gone rules s 0 ms old position p there h.numbered new items count;
      }

  pub spare_gone : IsSpareWith rules (contents s) entries old.items.items → IsSpareWith rules (contents s) entries new.items.items
  spare_gone g =
      let (p, there) = there_at old.items.items position within in
      record { kept = g.kept; posted' = subst (AllByRecursion (λ (x : Posted). IsSparingOn rules (contents s) entries x.question)) (sym items) (holds_without (λ (x : Posted). IsSparingOn rules (contents s) entries x.question) old.items.items position p there g.posted') }
