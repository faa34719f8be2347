-- What bytes do to what is kept.
use Rattle.std.specs.List.{list_any}
use Rattle.std.proofs.Common.{◌≡◌, ◌⊎◌, ℕ, ◌+◌, ◌≤◌, ◌<◌, Bool, true, false, if◌then◌else◌, List, [], ◌∷◌, ◌++◌, length, filter, Option, Result, Ok, Err, OnOk, inl, inr, refl, sym, ap, ◌∙◌, append_assoc, append-nil, subst, arith}
use Rattle.std.proofs.lemmas.Bool.{cases_lt}
use Rattle.std.specs.Io.KnownBytes.{Consumes}
use Rattle.at_model.specs.Lines.{is_filled, pieces}
use Rattle.at_model.specs.Rules.{Rules}
use Rattle.at_model.specs.Replies.{Reply}
use Rattle.at_model.specs.Machine.{State, Posted, Serves, Verdict, is_posted}
use Rattle.at_model.proofs.of_edits.Changes.{open_for}
use Rattle.at_cache.specs.Kept.{Entries}
use Rattle.at_engine.specs.Engines.{rules_of, state_of}
use Rattle.at_engine.specs.KeptOver.{AreWaiting, HasVerdict, obeys, refuses, KeepsLines, NonePosts}
use Rattle.at_engine.specs.Keeping.{KeepsLine, KeepsServed, kept_of, work_of}
use Rattle.at_engine.specs.KeepingRuns.{KeepsAll, KeepsBytes, KeepsRun}
use Rattle.at_engine.specs.Loop.{IsOpen, kept}
use Rattle.at_engine.specs.Taking.{Drains, GivesTurns, Served}
use Rattle.at_engine.specs.declared.engine.Engine.{Engine}
use Rattle.at_engine.specs.declared.stream.desk.Desk.{Desk}
use Rattle.at_engine.specs.declared.stream.desk.RunFault.{RunFault}
use Rattle.at_engine.proofs.of_keeping.Kept.{kept-more, kept-nil, kept-short, length-kept}
use Rattle.at_engine.proofs.of_keeping.KeepingAll.{keeps_append, keeps_nothing, keeps_one}
use Rattle.at_engine.proofs.Pieces.{filter-append, splits_open, splits_newline, splits_on}
use Rattle.at_engine.proofs.of_keeping.KeptLines.{posts_kept}
use Rattle.at_engine.proofs.of_turns.Giving.{none_behind, none_served}
use Rattle.at_engine.proofs.Progressing.{one_line}

-- a line becomes what is kept of it becomes: one that is too long is no line
long_verdict : (rules : Rules) (s : State) (line : List ℕ) (v : Verdict) → 65536 ≤ length line → HasVerdict rules s (kept line) v → HasVerdict rules s line v
long_verdict rules s line v long (obeys l spells is) = absurd (omega (arith, length-kept line long, spells.short))
long_verdict rules s line v long (refuses none is) = refuses (λ l spells. omega (arith, long, spells.short)) is

verdict_kept : (rules : Rules) (s : State) (line : List ℕ) (v : Verdict) → HasVerdict rules s (kept line) v → HasVerdict rules s line v
verdict_kept rules s line v h = by (cases_lt (length line) 65536)
  where
    by : (length line < 65536) ⊎ (65536 ≤ length line) → HasVerdict rules s line v
    by (inl below) = let short : length line ≤ 65536 = omega arith in subst (λ (l : List ℕ). HasVerdict rules s l v) (kept-short line short) h
    by (inr long) = long_verdict rules s line v long h

-- where no question is open, bytes wait for none
wait_open : (session number : ℕ) (qs : List Posted) → qs ≡ [] → list_any (is_posted session number) qs ≡ true → ⊥
wait_open session number [] none h = cc
wait_open session number (q ∷ qs) none h = cc

at_once : (rules : Rules) (s : State) (bytes : List ℕ) → s.posted ≡ [] → AreWaiting rules s bytes → ⊥
at_once rules s bytes none (number, obeys l spells is) = wait_open l.session number s.posted none (open_for rules s l number (sym is))
at_once rules s bytes none (number, refuses no_line is) = absurd (cc)

-- where the count of want of memory stays, memory didn't run out
served_whole : {K : Type 0} (entries : K → Entries) (old new : Engine K) (wants : Bool) (line : List ℕ) (before after : ℕ) → (state_of old).posted ≡ [] → KeepsServed entries wants line old new → before + (if wants then 1 else 0) ≤ after → after ≡ before → KeepsLine entries line old new
served_whole entries old new false line before after none keeps grows same = keeps (at_once (rules_of old) (state_of old) line none)
served_whole entries old new true line before after none keeps grows same = absurd (omega (arith, grows, same))

-- so it is where turns follow that find no question
pub served_plainly : {K : Type 0} (entries : K → Entries) (old mid new : Engine K) (wants : Bool) (line : List ℕ) (before after : ℕ) → new ≡ mid → (state_of old).posted ≡ [] → KeepsServed entries wants line old mid → before + (if wants then 1 else 0) ≤ after → after ≡ before → KeepsLine entries line old new
served_plainly {K} entries old mid new wants line before after is none keeps grows same = subst (λ (e : Engine K). KeepsLine entries line old e) (sym is) (served_whole entries old mid wants line before after none keeps grows same)

pub none_after_line : (rules : Rules) (slice : ℕ) (old new : State) (line : List ℕ) (desk next : Desk) (before after : Option (List ℕ)) → old.posted ≡ [] → NonePosts (line ∷ []) → Served rules slice old line new desk next before after → new.posted ≡ []
none_after_line rules slice old new line desk next before after none no_post s = none_behind rules slice s.mid s.told new (none_served rules old line s.mid s.said none no_post s.serves) s.given

-- so it is of a line with the turns behind it
pub kept_behind : {K : Type 0} (result : Result (Unit {0}) RunFault) (entries : K → Entries) (old mid new : Engine K) (rules : Rules) (slice : ℕ) (line : List ℕ) (said : Bool × Reply) (desk next last : Desk) (between after : Option (List ℕ))
    → GivesTurns result rules slice (state_of mid) (state_of new) next last between after → ((state_of mid).posted ≡ [] → new ≡ mid) → Serves (rules_of old) (state_of old) line (state_of mid) said → KeepsServed entries said.0 line old mid → next.memory ≡ desk.memory + (if said.0 then 1 else 0)
    → OnOk result ((state_of old).posted ≡ [] → NonePosts (line ∷ []) → last.memory ≡ desk.memory → KeepsLine entries line old new)
kept_behind (Ok u) entries old mid new rules slice line said desk next last between after gives still serves keeps m = λ none no_post same.
    let behind = none_served (rules_of old) (state_of old) line (state_of mid) said none no_post serves in
    let grows : desk.memory + (if said.0 then 1 else 0) ≤ last.memory = omega (arith, m, gives.counts.memory) in
    served_plainly entries old mid new said.0 line desk.memory last.memory (still behind) none keeps grows same
kept_behind (Err f) entries old mid new rules slice line said desk next last between after gives still serves keeps m = tt

-- what is kept of lines that post no question posts none
pub filled_posts : (front line : List ℕ) → is_filled front ≡ true → line ≡ kept front → NonePosts (filter is_filled (front ∷ [])) → NonePosts (line ∷ [])
filled_posts front line filled is none =
    let all = subst (λ (ls : List (List ℕ)). NonePosts ls) (one_line front filled) none in
    subst (λ (l : List ℕ). NonePosts (l ∷ [])) (sym is) (posts_kept front all.0, tt)

both_parts : (ls ms : List (List ℕ)) → NonePosts (ls ++ ms) → NonePosts ls × NonePosts ms
both_parts [] ms none = (tt, none)
both_parts (l ∷ ls) ms none = let (first, then') = both_parts ls ms none.1 in ((none.0, first), then')

filled_parts : (ls ms : List (List ℕ)) → NonePosts (filter is_filled (ls ++ ms)) → NonePosts (filter is_filled ls) × NonePosts (filter is_filled ms)
filled_parts ls ms none = both_parts (filter is_filled ls) (filter is_filled ms) (subst (λ (ks : List (List ℕ)). NonePosts ks) (filter-append is_filled ls ms) none)

-- no line, and one
module _ {K : Type 0} (entries : K → Entries) where
  pub all_nothing : (e : Engine K) → KeepsAll entries [] e e
  all_nothing e = keeps_nothing (rules_of e) (state_of e) (kept_of entries e) (work_of e)

  pub all_one : (old new : Engine K) (front line : List ℕ) → line ≡ kept front → KeepsLine entries line old new → KeepsAll entries (front ∷ []) old new
  all_one old new front line is k =
      let has = verdict_kept (rules_of old) (state_of old) front k.becomes (subst (λ (l : List ℕ). HasVerdict (rules_of old) (state_of old) l k.becomes) is k.is_verdict) in
      keeps_one (rules_of old) (state_of old) (state_of new) front k.becomes (kept_of entries old) (kept_of entries new) (work_of old) (work_of new) has k.state k.keeps

  pub filled_one : (old new : Engine K) (front line : List ℕ) → is_filled front ≡ true → line ≡ kept front → KeepsLine entries line old new → KeepsAll entries (filter is_filled (front ∷ [])) old new
  filled_one old new front line filled is k = subst (λ (ls : List (List ℕ)). KeepsAll entries ls old new) (sym (one_line front filled)) (all_one old new front line is k)

  pub all_more : (old mid new : Engine K) (ls ms : List (List ℕ)) → rules_of mid ≡ rules_of old → KeepsAll entries ls old mid → KeepsAll entries ms mid new → KeepsAll entries (ls ++ ms) old new
  all_more old mid new ls ms same p q =
      keeps_append (rules_of old) (state_of old) (state_of mid) (state_of new) ls ms (kept_of entries old) (kept_of entries mid) (kept_of entries new) (work_of old) (work_of mid) (work_of new) p
      (subst (λ (r : Rules). KeepsLines r (state_of mid) ms (state_of new) (kept_of entries mid) (kept_of entries new) (work_of mid) (work_of new)) same q)

  pub filled_more : (old mid new : Engine K) (ls ms : List (List ℕ)) → rules_of mid ≡ rules_of old → KeepsAll entries (filter is_filled ls) old mid → KeepsAll entries (filter is_filled ms) mid new → KeepsAll entries (filter is_filled (ls ++ ms)) old new
  filled_more old mid new ls ms same p q =
      subst (λ (ks : List (List ℕ)). KeepsAll entries ks old new) (sym (filter-append is_filled ls ms)) (all_more old mid new (filter is_filled ls) (filter is_filled ms) same p q)

  -- no byte, bytes of a line, the newline behind an empty line and behind one that was served
  pub keeps_none : (e : Engine K) (front : List ℕ) (desk : Desk) → IsOpen front → desk.line.items ≡ kept front → KeepsBytes entries front [] e e desk
  keeps_none e front desk o is = record { fulls = []; rest = front; splits = ap pieces (append-nil front) ∙ o; open' = o; line = is; keeps = λ none no_post. all_nothing e; none_open = λ none no_post. none }

  pub keeps_open : (e : Engine K) (front bytes : List ℕ) (desk next : Desk) → IsOpen front → IsOpen bytes → desk.line.items ≡ kept front → next.line.items ≡ kept (desk.line.items ++ bytes) → KeepsBytes entries front bytes e e next
  keeps_open e front bytes desk next o p is goes = record {
    fulls = [];
    rest = front ++ bytes;
    splits = splits_open front [] front bytes p o;
    open' = splits_open front [] front bytes p o;
    line = goes ∙ ap (λ i. kept (i ++ bytes)) is ∙ kept-more front bytes;
    keeps = λ none no_post. all_nothing e;
    none_open = λ none no_post. none;
  }

  pub keeps_empty : (e : Engine K) (next : Desk) → next.line.items ≡ [] → KeepsBytes entries [] (10 ∷ []) e e next
  keeps_empty e next none = record {
    fulls = [] ∷ [];
    rest = [];
    splits = splits_newline [] [] [] refl;
    open' = refl;
    line = none ∙ sym kept-nil;
    keeps = λ none no_post. all_nothing e;
    none_open = λ none no_post. none;
  }

  pub keeps_line : (old new : Engine K) (front : List ℕ) (desk next : Desk) → IsOpen front → is_filled front ≡ true → desk.line.items ≡ kept front → next.line.items ≡ []
      → ((state_of old).posted ≡ [] → NonePosts (desk.line.items ∷ []) → KeepsLine entries desk.line.items old new) → ((state_of old).posted ≡ [] → NonePosts (desk.line.items ∷ []) → (state_of new).posted ≡ []) → KeepsBytes entries front (10 ∷ []) old new next
  keeps_line old new front desk next o filled is none keeps none_open = record {
    fulls = front ∷ [];
    rest = [];
    splits = splits_newline front [] front o;
    open' = refl;
    line = none ∙ sym kept-nil;
    keeps = λ nothing no_post. filled_one old new front desk.line.items filled is (keeps nothing (filled_posts front desk.line.items filled is no_post));
    none_open = λ nothing no_post. none_open nothing (filled_posts front desk.line.items filled is no_post);
  }

  -- bytes and then others
  pub keeps_more : (old mid new : Engine K) (front bytes more : List ℕ) (next last : Desk) → rules_of mid ≡ rules_of old → (p : KeepsBytes entries front bytes old mid next) → KeepsBytes entries p.rest more mid new last → KeepsBytes entries front (bytes ++ more) old new last
  keeps_more old mid new front bytes more next last same p q = record {
    fulls = p.fulls ++ q.fulls;
    rest = q.rest;
    splits = ap pieces (sym (append_assoc front bytes more)) ∙ splits_on (front ++ bytes) more p.fulls q.fulls p.rest q.rest p.splits p.open' q.splits;
    open' = q.open';
    line = q.line;
    keeps = λ none no_post.
        let (front_posts, back_posts) = filled_parts p.fulls q.fulls no_post in
        filled_more old mid new p.fulls q.fulls same (p.keeps none front_posts) (q.keeps (p.none_open none front_posts) back_posts);
    none_open = λ none no_post. let (front_posts, back_posts) = filled_parts p.fulls q.fulls no_post in q.none_open (p.none_open none front_posts) back_posts;
  }

  -- bytes of a line behind others
  pub keeps_on : (old mid : Engine K) (front bytes more : List ℕ) (next last : Desk) → rules_of mid ≡ rules_of old → IsOpen more → last.line.items ≡ kept (next.line.items ++ more) → KeepsBytes entries front bytes old mid next → KeepsBytes entries front (bytes ++ more) old mid last
  keeps_on old mid front bytes more next last same o f p =
      keeps_more old mid mid front bytes more next last same p (keeps_open mid p.rest more next last p.open' o p.line f)

  -- all lines, and the last one, which no newline ends
  pub keeps_run : (old mid new : Engine K) (input : List ℕ) (readable left : Option (List ℕ)) (next : Desk) → Consumes readable left input → rules_of mid ≡ rules_of old → (p : KeepsBytes entries [] input old mid next)
      → ((state_of mid).posted ≡ [] → NonePosts (filter is_filled (p.rest ∷ [])) → KeepsAll entries (filter is_filled (p.rest ∷ [])) mid new) → KeepsRun entries old new readable left
  keeps_run old mid new input readable left next read same p last = record {
    input = input;
    read = read;
    keeps = λ none no_post.
        let posts = subst (λ (ls : List (List ℕ)). NonePosts (filter is_filled ls)) p.splits no_post in
        let (front_posts, back_posts) = filled_parts p.fulls (p.rest ∷ []) posts in
        let all = filled_more old mid new p.fulls (p.rest ∷ []) same (p.keeps none front_posts) (last (p.none_open none front_posts) back_posts) in
        subst (λ (ls : List (List ℕ)). KeepsAll entries (filter is_filled ls) old new) (sym p.splits) all;
  }

  -- the last line, and the turns until no question is open
  pub kept_at_end : (result : Result (Unit {0}) RunFault) (old mid new : Engine K) (rules : Rules) (slice : ℕ) (front line : List ℕ) (desk next last : Desk) (before between after : Option (List ℕ)) → is_filled front ≡ true → line ≡ kept front
      → ((state_of old).posted ≡ [] → NonePosts (line ∷ []) → next.memory ≡ desk.memory → KeepsLine entries line old mid) → Served (rules_of old) slice (state_of old) line (state_of mid) desk next before between
      → Drains result rules (state_of mid) (state_of new) next last between after → ((state_of mid).posted ≡ [] → new ≡ mid)
      → OnOk result ((state_of old).posted ≡ [] → NonePosts (filter is_filled (front ∷ [])) → last.memory ≡ desk.memory → KeepsAll entries (filter is_filled (front ∷ [])) old new)
  kept_at_end (Ok u) old mid new rules slice front line desk next last before between after filled is keeps s d still = λ none no_post same.
      let its = filled_posts front line filled is no_post in
      let behind = none_after_line (rules_of old) slice (state_of old) (state_of mid) line desk next before between none its s in
      let so_far : next.memory ≡ desk.memory = omega (arith, same, s.counts.memory, d.gives.counts.memory) in
      subst (λ (e : Engine K). KeepsAll entries (filter is_filled (front ∷ [])) old e) (sym (still behind)) (filled_one old mid front line filled is (keeps none its so_far))
  kept_at_end (Err f) old mid new rules slice front line desk next last before between after filled is keeps s d still = tt

  pub kept_at_once : (result : Result (Unit {0}) RunFault) (old new : Engine K) (desk last : Desk) → ((state_of old).posted ≡ [] → new ≡ old) → OnOk result ((state_of old).posted ≡ [] → NonePosts [] → last.memory ≡ desk.memory → KeepsAll entries [] old new)
  kept_at_once (Ok u) old new desk last still = λ none no_post same. subst (λ (e : Engine K). KeepsAll entries [] old e) (sym (still none)) (all_nothing old)
  kept_at_once (Err f) old new desk last still = tt
