-- What bytes do.
use Rattle.std.proofs.Common.{◌≡◌, ℕ, ◌+◌, Bool, true, cond, List, [], ◌∷◌, ◌++◌, filter, length, refl, sym, ap, ◌∙◌, append_assoc, subst, arith, length-append, Option, zero-add, add-zero, add_assoc}
use Rattle.std.proofs.KnownBytes.{Appends-nil, Appends-trans}
use Rattle.std.specs.Io.KnownBytes.{Appends}
use Rattle.at_model.specs.Rules.{Rules}
use Rattle.at_model.specs.Lines.{is_filled}
use Rattle.at_model.specs.Replies.{Reply}
use Rattle.at_model.specs.Machine.{State, Serves, text_of}
use Rattle.at_model.proofs.of_machines.Runs.{text_append}
use Rattle.at_engine.specs.declared.stream.desk.Desk.{Desk}
use Rattle.at_engine.specs.Loop.{IsOpen, kept}
use Rattle.at_engine.specs.Taking.{Takes, Served, Halts, EndsIn, in_line, in_turn, Stops, Counts, wants}
use Rattle.at_engine.proofs.of_keeping.Kept.{kept-more, kept-nil}
use Rattle.at_engine.proofs.of_keeping.KeptLines.{serves_kept}
use Rattle.at_engine.proofs.Pieces.{filter-append}
use Rattle.at_engine.proofs.Progressing.{one_line, nothing_came, open_came, empty_line_came, line_came, more_came}

pub wants-append : (xs ys : List (Bool × Reply)) → wants (xs ++ ys) ≡ wants xs + wants ys
wants-append [] ys = sym (zero-add (wants ys))
wants-append (x ∷ xs) ys = ap (λ n. cond x.0 1 0 + n) (wants-append xs ys) ∙ sym (add_assoc (cond x.0 1 0) (wants xs) (wants ys))

-- texts are written one after the other
pub both_written : (before between after : Option (List ℕ)) (told more : List (Bool × Reply)) → Appends before between (text_of told) → Appends between after (text_of more) → Appends before after (text_of (told ++ more))
both_written before between after told more first then' = subst (Appends before after) (sym (text_append told more)) (Appends-trans before between after (text_of told) (text_of more) first then')

pub written_behind : (before between after : Option (List ℕ)) (told more : List (Bool × Reply)) (done : List ℕ) → Appends before between (text_of told) → Appends between after (text_of more ++ done) → Appends before after (text_of (told ++ more) ++ done)
written_behind before between after told more done first then' =
    let whole : text_of told ++ (text_of more ++ done) ≡ text_of (told ++ more) ++ done = sym (append_assoc (text_of told) (text_of more) done) ∙ ap (λ l. l ++ done) (sym (text_append told more)) in
    subst (Appends before after) whole (Appends-trans before between after (text_of told) (text_of more ++ done) first then')

-- counts of nothing, and of one thing after the other
pub no_count : (desk next : Desk) → next.lines ≡ desk.lines → next.memory ≡ desk.memory → Counts desk next 0 []
no_count desk next l m = record { lines' = l ∙ sym (add-zero desk.lines); memory = m ∙ sym (add-zero desk.memory) }

pub both_counted : (desk next last : Desk) (m n : ℕ) (told more : List (Bool × Reply)) → Counts desk next m told → Counts next last n more → Counts desk last (m + n) (told ++ more)
both_counted desk next last m n told more c d = record {
  lines' = omega (arith, c.lines', d.lines');
  memory = omega (arith, c.memory, d.memory, wants-append told more);
}

pub as_counted : (desk next : Desk) (m n : ℕ) (told : List (Bool × Reply)) → m ≡ n → Counts desk next m told → Counts desk next n told
as_counted desk next m n told e c = subst (λ k. Counts desk next k told) e c

-- what was told last behind what is kept of a line was told behind the line
ends_kept : (rules : Rules) (slice : ℕ) (old : State) (line : List ℕ) (new : State) (told : List (Bool × Reply)) (said : Bool × Reply) → EndsIn rules slice old (kept line) new told said → EndsIn rules slice old line new told said
ends_kept rules slice old line new _ said (in_line serves) = in_line (serves_kept rules old new line said serves)
ends_kept rules slice old line new _ said (in_turn {mid = mid} {first = first} turns few serves given) = in_turn turns few (serves_kept rules old mid line first serves) given

pub halts_kept : (rules : Rules) (slice : ℕ) (old new : State) (front line : List ℕ) (before after : Option (List ℕ)) → line ≡ kept front → Halts rules slice old line new before after → Halts rules slice old front new before after
halts_kept rules slice old new front line before after e h = record {
  told = h.told;
  said = h.said;
  ends = ends_kept rules slice old front new h.told h.said (subst (λ (l : List ℕ). EndsIn rules slice old l new h.told h.said) e h.ends);
  done = h.done;
  undone = h.undone;
  split = h.split;
  written = h.written;
}

module _ (rules : Rules) (slice : ℕ) where
  -- no byte was taken
  pub took_nothing : (s : State) (front : List ℕ) (desk : Desk) (before : Option (List ℕ)) → IsOpen front → desk.line.items ≡ kept front → Takes rules slice s front [] s desk desk before before
  took_nothing s front desk before o e = record {
    told = [];
    rest = front;
    progress = nothing_came rules slice s front o;
    line = e;
    written = Appends-nil before;
    counts = no_count desk desk refl refl;
  }

  -- bytes of a line
  took_open : (s : State) (front bytes : List ℕ) (desk next : Desk) (before : Option (List ℕ)) → IsOpen front → IsOpen bytes → desk.line.items ≡ kept front → next.line.items ≡ kept (desk.line.items ++ bytes)
      → next.lines ≡ desk.lines → next.memory ≡ desk.memory → Takes rules slice s front bytes s desk next before before
  took_open s front bytes desk next before o p e f l m = record {
    told = [];
    rest = front ++ bytes;
    progress = open_came rules slice s s front [] [] front bytes p (nothing_came rules slice s front o);
    line = f ∙ ap (λ i. kept (i ++ bytes)) e ∙ kept-more front bytes;
    written = Appends-nil before;
    counts = no_count desk next l m;
  }

  -- the newline behind an empty line
  pub took_empty : (s : State) (desk next : Desk) (before : Option (List ℕ)) → next.line.items ≡ [] → next.lines ≡ desk.lines → next.memory ≡ desk.memory → Takes rules slice s [] (10 ∷ []) s desk next before before
  took_empty s desk next before f l m = record {
    told = [];
    rest = [];
    progress = empty_line_came rules slice s s [] [] [] (nothing_came rules slice s [] refl);
    line = f ∙ sym kept-nil;
    written = Appends-nil before;
    counts = no_count desk next l m;
  }

  -- the newline behind a line that was served
  pub took_line : (old new : State) (front : List ℕ) (desk served next : Desk) (before after : Option (List ℕ)) → IsOpen front → is_filled front ≡ true → desk.line.items ≡ kept front
      → Served rules slice old desk.line.items new desk served before after → next.line.items ≡ [] → next.lines ≡ served.lines → next.memory ≡ served.memory → Takes rules slice old front (10 ∷ []) new desk next before after
  took_line old new front desk served next before after o h e s f l m =
      let serves = serves_kept rules old s.mid front s.said (subst (λ (i : List ℕ). Serves rules old i s.mid s.said) e s.serves) in
      record {
        told = s.said ∷ s.told;
        rest = [];
        progress = line_came rules slice old old s.mid new front [] [] front s.said s.told h serves s.given (nothing_came rules slice old front o);
        line = f ∙ sym kept-nil;
        written = s.written;
        counts = record { lines' = omega (arith, l, s.counts.lines', ap length (one_line front h)); memory = m ∙ s.counts.memory };
      }

  -- the newline behind a line, where what was told last could not be written
  pub stopped_at_line : (old new : State) (front line : List ℕ) (before after : Option (List ℕ)) → IsOpen front → is_filled front ≡ true → line ≡ kept front → Halts rules slice old line new before after → Stops rules slice old front (10 ∷ []) new before after
  stopped_at_line old new front line before after o h e halts = record {
    used = [];
    more = [];
    split = refl;
    told = [];
    mid = old;
    line = front;
    progress = nothing_came rules slice old front o;
    between = before;
    written = Appends-nil before;
    filled = h;
    halts = halts_kept rules slice old new front line before after e halts;
  }

  -- more bytes were taken
  pub took_more : (old mid new : State) (front bytes more : List ℕ) (desk next last : Desk) (before between after : Option (List ℕ))
      → (t : Takes rules slice old front bytes mid desk next before between) → Takes rules slice mid t.rest more new next last between after → Takes rules slice old front (bytes ++ more) new desk last before after
  took_more old mid new front bytes more desk next last before between after t u =
      let whole = filter-append is_filled t.progress.fulls u.progress.fulls in
      let size : length (filter is_filled t.progress.fulls) + length (filter is_filled u.progress.fulls) ≡ length (filter is_filled (t.progress.fulls ++ u.progress.fulls)) =
      sym (ap length whole ∙ length-append (filter is_filled t.progress.fulls) (filter is_filled u.progress.fulls)) in
      record {
        told = t.told ++ u.told;
        rest = u.rest;
        progress = more_came rules slice old mid new front bytes more t.told u.told t.rest u.rest t.progress u.progress;
        line = u.line;
        written = both_written before between after t.told u.told t.written u.written;
        counts = as_counted desk last _ _ (t.told ++ u.told) size (both_counted desk next last _ _ t.told u.told t.counts u.counts);
      }

  -- more bytes were taken, up to what could not be written
  pub stopped_later : (old mid new : State) (front bytes more : List ℕ) (desk next : Desk) (before between after : Option (List ℕ))
      → (t : Takes rules slice old front bytes mid desk next before between) → Stops rules slice mid t.rest more new between after → Stops rules slice old front (bytes ++ more) new before after
  stopped_later old mid new front bytes more desk next before between after t u = record {
    used = bytes ++ u.used;
    more = u.more;
    split = ap (λ l. bytes ++ l) u.split ∙ sym (append_assoc bytes u.used (10 ∷ u.more));
    told = t.told ++ u.told;
    mid = u.mid;
    line = u.line;
    progress = more_came rules slice old mid u.mid front bytes u.used t.told u.told t.rest u.line t.progress u.progress;
    between = u.between;
    written = both_written before between u.between t.told u.told t.written u.written;
    filled = u.filled;
    halts = u.halts;
  }

  -- what was not used makes no difference
  pub stopped_before : (old new : State) (front bytes more : List ℕ) (before after : Option (List ℕ)) → Stops rules slice old front bytes new before after → Stops rules slice old front (bytes ++ more) new before after
  stopped_before old new front bytes more before after u = record {
    used = u.used;
    more = u.more ++ more;
    split = ap (λ l. l ++ more) u.split ∙ append_assoc u.used (10 ∷ u.more) more;
    told = u.told;
    mid = u.mid;
    line = u.line;
    progress = u.progress;
    between = u.between;
    written = u.written;
    filled = u.filled;
    halts = u.halts;
  }

  -- bytes of a line were taken behind others
  pub took_on : (old mid : State) (front bytes more : List ℕ) (desk next last : Desk) (before between : Option (List ℕ)) → Takes rules slice old front bytes mid desk next before between → IsOpen more
      → last.line.items ≡ kept (next.line.items ++ more) → last.lines ≡ next.lines → last.memory ≡ next.memory → Takes rules slice old front (bytes ++ more) mid desk last before between
  took_on old mid front bytes more desk next last before between t o f l m =
      took_more old mid mid front bytes more desk next last before between between t (took_open mid t.rest more next last between t.progress.open' o t.line f l m)

-- the same under equal rules and slices
pub takes_under : (rules others : Rules) (slice turns : ℕ) (old new : State) (front bytes : List ℕ) (desk next : Desk) (before after : Option (List ℕ)) → others ≡ rules → turns ≡ slice → Takes others turns old front bytes new desk next before after → Takes rules slice old front bytes new desk next before after
takes_under rules others slice turns old new front bytes desk next before after e n t =
    subst (λ (k : ℕ). Takes rules k old front bytes new desk next before after) n (subst (λ (r : Rules). Takes r turns old front bytes new desk next before after) e t)

pub stops_under : (rules others : Rules) (slice turns : ℕ) (old new : State) (front bytes : List ℕ) (before after : Option (List ℕ)) → others ≡ rules → turns ≡ slice → Stops others turns old front bytes new before after → Stops rules slice old front bytes new before after
stops_under rules others slice turns old new front bytes before after e n s =
    subst (λ (k : ℕ). Stops rules k old front bytes new before after) n (subst (λ (r : Rules). Stops r turns old front bytes new before after) e s)
