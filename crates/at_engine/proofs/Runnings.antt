-- What a run has done, from what the loop over lines has done.
use Rattle.std.proofs.Common.{◌≡◌, ℕ, ◌+◌, ◌-◌, ◌≤◌, Bool, true, List, [], ◌∷◌, ◌++◌, length, take, filter, sym, ap, ◌∙◌, append_assoc, append-nil, subst, arith, length-append, Option, Result, Ok, Err}
use Rattle.std.proofs.KnownBytes.{Appends-nil, Consumes-trans}
use Rattle.std.specs.Io.KnownBytes.{Appends, Consumes, IsAtEnd}
use Rattle.at_model.specs.Rules.{Rules}
use Rattle.at_model.specs.Lines.{lines, pieces, is_filled}
use Rattle.at_model.specs.Replies.{Reply}
use Rattle.at_model.specs.Machine.{State, Serves, Runs, end, text_of}
use Rattle.at_model.proofs.of_machines.Runs.{one_more, runs_on}
use Rattle.at_engine.specs.declared.stream.desk.Desk.{Desk}
use Rattle.at_engine.specs.declared.stream.desk.Report.{Report}
use Rattle.at_engine.specs.declared.stream.desk.RunFault.{RunFault}
use Rattle.at_engine.specs.Taking.{Takes, Halts, Stops, Served, Drained, Drains, Finished, Finishes, FinishStops, in_last, behind_last, GivesInPart}
use Rattle.at_engine.specs.Running.{Ended, BrokeOff, CutOff, AreWhole, before_newlines, up_to_end, behind_line, at_the_end}
use Rattle.at_engine.specs.Loop.{kept}
use Rattle.at_engine.proofs.of_keeping.KeptLines.{serves_kept}
use Rattle.at_engine.proofs.Pieces.{IsCons, pieces_cons, onto_front_nothing, splits_then, splits_newline, filter-append}
use Rattle.at_engine.proofs.Takings.{as_counted, both_counted, both_written, halts_kept, wants-append, written_behind}
use Rattle.at_engine.proofs.Progressing.{filled_behind, one_line}

-- the lines are the whole ones and the last one
lines_of_both : (input rest : List ℕ) (fulls : List (List ℕ)) → pieces input ≡ fulls ++ rest ∷ [] → lines input ≡ filter is_filled fulls ++ filter is_filled (rest ∷ [])
lines_of_both input rest fulls split = ap (filter is_filled) split ∙ filter-append is_filled fulls (rest ∷ [])

whole_before : (input : List ℕ) (left : Option (List ℕ)) (served fulls rest : List (List ℕ)) → IsCons rest → pieces input ≡ fulls ++ rest → served ≡ filter is_filled fulls → AreWhole input left served
whole_before input left served fulls (next ∷ others) some split e = before_newlines fulls next others split e
whole_before input left served fulls [] some split e = elim some [ ]

-- a read that brings nothing consumes nothing
pub at_end : (readable between left : Option (List ℕ)) (input : List ℕ) (count : ℕ) (buffer : List ℕ) → count ≡ 0 → Consumes readable between input → Consumes between left (take count buffer) → Consumes readable left input
at_end readable between left input count buffer none r s =
    subst (Consumes readable left) (ap (λ n. input ++ take n buffer) none ∙ append-nil input) (Consumes-trans readable between left input (take count buffer) r s)

module _ (rules : Rules) (slice : ℕ) where
  -- the run over the whole lines and over the last one is the run over all lines
  all_lines : (old mid new : State) (input rest : List ℕ) (fulls : List (List ℕ)) (told more : List (Bool × Reply)) → pieces input ≡ fulls ++ rest ∷ [] → Runs rules slice old (filter is_filled fulls) told mid → Runs rules slice mid (filter is_filled (rest ∷ [])) more new
      → Runs rules slice old (lines input) (told ++ more) new
  all_lines old mid new input rest fulls told more split r s =
      subst (λ (l : List (List ℕ)). Runs rules slice old l (told ++ more) new) (sym (lines_of_both input rest fulls split))
      (runs_on rules slice old mid new (filter is_filled fulls) (filter is_filled (rest ∷ [])) told more r s)

  -- the reader came to its end, and all was written
  pub ended : (old mid new : State) (input : List ℕ) (readable left before between after : Option (List ℕ)) (desk next last : Desk) (report : Report) → (t : Takes rules slice old [] input mid desk next before between)
      → Finished rules slice mid t.rest new next last between after → Consumes readable left input → IsAtEnd left → desk.lines ≡ 0 → desk.memory ≡ 0
      → report.lines ≡ last.lines → report.memory ≡ last.memory → report.accepted ≡ new.version - old.version → Ended rules slice old new readable left before after report
  ended old mid new input readable left before between after desk next last report t f read at_its_end no_lines no_memory l m a =
      let fulls = t.progress.fulls in
      let size : length (lines input) ≡ length (filter is_filled fulls) + length (filter is_filled (t.rest ∷ [])) = ap length (lines_of_both input t.rest fulls t.progress.splits) ∙ length-append (filter is_filled fulls) (filter is_filled (t.rest ∷ [])) in
      record {
        input = input;
        told = t.told ++ (f.told ++ f.back);
        read = read;
        ended = at_its_end;
        outputs = record {
          mid = f.mid;
          front = t.told ++ f.told;
          runs = all_lines old mid f.mid input t.rest fulls t.told f.told t.progress.splits t.progress.runs f.runs;
          turns = f.turns;
          back = f.back;
          drained = f.given;
          none_open = f.none_open;
          whole = sym (append_assoc t.told f.told f.back);
        };
        written = both_written before between after t.told (f.told ++ f.back) t.written f.written;
        counted = omega (arith, l, f.counts.lines', t.counts.lines', no_lines, size);
        accepted = a;
        memory = omega (arith, m, f.counts.memory, t.counts.memory, no_memory, wants-append t.told (f.told ++ f.back));
      }

  -- the run broke off between two reads
  pub broke_off : (old new : State) (input : List ℕ) (readable left before after : Option (List ℕ)) (desk next : Desk) (reads : ℕ) → Takes rules slice old [] input new desk next before after
      → Consumes readable left input → reads ≤ length input → BrokeOff rules slice old new readable left before after reads
  broke_off old new input readable left before after desk next reads t read enough = record {
    input = input;
    told = t.told;
    rest = t.rest;
    read = read;
    progress = t.progress;
    written = t.written;
    enough = enough;
  }

  -- what was told behind a line could not be written whole, and the line stands before a newline
  pub cut_off : (old new : State) (input : List ℕ) (readable left before after : Option (List ℕ)) → Stops rules slice old [] input new before after → Consumes readable left input → CutOff rules slice old new readable left before after
  cut_off old new input readable left before after u read =
      let fulls = u.progress.fulls in
      let split = ap pieces (u.split ∙ sym (append_assoc u.used (10 ∷ []) u.more)) ∙ splits_then (u.used ++ 10 ∷ []) u.more (fulls ++ u.line ∷ []) [] (splits_newline u.used fulls u.line u.progress.splits)
      ∙ ap (λ l. (fulls ++ u.line ∷ []) ++ l) (onto_front_nothing (pieces u.more) (pieces_cons u.more)) in
      let served = filter is_filled fulls ++ u.line ∷ [] in
      let whole = whole_before input left served (fulls ++ u.line ∷ []) (pieces u.more) (pieces_cons u.more) split (sym (filled_behind fulls u.line u.filled)) in
      record {
        input = input;
        read = read;
        told = u.told ++ u.halts.told;
        said = u.halts.said;
        stops = behind_line u.told u.halts.told (filter is_filled fulls) u.line whole u.progress.runs u.halts.ends;
        done = u.halts.done;
        undone = u.halts.undone;
        split = u.halts.split;
        written = written_behind before u.between after u.told u.halts.told u.halts.done u.written u.halts.written;
      }

  -- what was told behind the last line, which no newline ends, could not be written whole
  at_last : (old mid new : State) (input : List ℕ) (readable left before between after : Option (List ℕ)) (desk next : Desk) → (t : Takes rules slice old [] input mid desk next before between) → is_filled t.rest ≡ true
      → Halts rules slice mid t.rest new between after → Consumes readable left input → IsAtEnd left → CutOff rules slice old new readable left before after
  at_last old mid new input readable left before between after desk next t filled h read at_its_end =
      let fulls = t.progress.fulls in
      let whole = up_to_end at_its_end (sym (ap (filter is_filled) t.progress.splits ∙ filled_behind fulls t.rest filled)) in
      record {
        input = input;
        read = read;
        told = t.told ++ h.told;
        said = h.said;
        stops = behind_line t.told h.told (filter is_filled fulls) t.rest whole t.progress.runs h.ends;
        done = h.done;
        undone = h.undone;
        split = h.split;
        written = written_behind before between after t.told h.told h.done t.written h.written;
      }

  -- or by the turns behind all lines
  behind_all : (old mid further new : State) (input : List ℕ) (readable left before between then' after : Option (List ℕ)) (desk next : Desk) (told : List (Bool × Reply)) (limit : ℕ) → (t : Takes rules slice old [] input mid desk next before between)
      → Runs rules slice mid (filter is_filled (t.rest ∷ [])) told further → Appends between then' (text_of told) → GivesInPart rules limit further new then' after → Consumes readable left input → IsAtEnd left → CutOff rules slice old new readable left before after
  behind_all old mid further new input readable left before between then' after desk next told limit t runs written g read at_its_end =
      let all = all_lines old mid further input t.rest t.progress.fulls t.told told t.progress.splits t.progress.runs runs in
      record {
        input = input;
        read = read;
        told = (t.told ++ told) ++ g.told;
        said = g.said;
        stops = at_the_end (t.told ++ told) g.told g.turns at_its_end all g.given;
        done = g.done;
        undone = g.undone;
        split = g.split;
        written = written_behind before then' after (t.told ++ told) g.told g.done (both_written before between then' t.told told t.written written) g.written;
      }

  pub cut_off_at_end : (old mid new : State) (input : List ℕ) (readable left before between after : Option (List ℕ)) (desk next : Desk) → (t : Takes rules slice old [] input mid desk next before between)
      → FinishStops rules slice mid t.rest new between after → Consumes readable left input → IsAtEnd left → CutOff rules slice old new readable left before after
  cut_off_at_end old mid new input readable left before between after desk next t (in_last filled h) read at_its_end = at_last old mid new input readable left before between after desk next t filled h read at_its_end
  cut_off_at_end old mid new input readable left before between after desk next t (behind_last {mid = further} {told = told} {between = then'} runs written limit g) read at_its_end =
      behind_all old mid further new input readable left before between then' after desk next told limit t runs written g read at_its_end

  -- the last line was empty
  pub finished_empty : (old new : State) (desk next : Desk) (before after : Option (List ℕ)) → Drained rules old new desk next before after → Finished rules slice old [] new desk next before after
  finished_empty old new desk next before after d = record { mid = old; told = []; runs = end old; turns = d.turns; back = d.gives.told; given = d.gives.given; none_open = d.none_open; counts = d.gives.counts; written = d.gives.written }

  pub stopped_empty : (old new : State) (before after : Option (List ℕ)) (limit : ℕ) → GivesInPart rules limit old new before after → FinishStops rules slice old [] new before after
  stopped_empty old new before after limit g = behind_last {told = []} {between = before} (end old) (Appends-nil before) limit g

  -- the last line was served
  last_runs : (old new : State) (front line : List ℕ) (desk next : Desk) (before after : Option (List ℕ)) → is_filled front ≡ true → line ≡ kept front → (s : Served rules slice old line new desk next before after) → Runs rules slice old (filter is_filled (front ∷ [])) (s.said ∷ s.told) new
  last_runs old new front line desk next before after filled e s =
      let serves = serves_kept rules old s.mid front s.said (subst (λ (l : List ℕ). Serves rules old l s.mid s.said) e s.serves) in
      subst (λ (ls : List (List ℕ)). Runs rules slice old ls (s.said ∷ s.told) new) (sym (one_line front filled)) (one_more rules slice old old s.mid new [] [] front s.said s.told (end old) serves s.given)

  pub finished_line : (old mid new : State) (front line : List ℕ) (desk next last : Desk) (before between after : Option (List ℕ)) → is_filled front ≡ true → line ≡ kept front
      → Served rules slice old line mid desk next before between → Drained rules mid new next last between after → Finished rules slice old front new desk last before after
  finished_line old mid new front line desk next last before between after filled e s d =
      let told = s.said ∷ s.told in
      let size : 1 + 0 ≡ length (filter is_filled (front ∷ [])) = sym (ap length (one_line front filled)) in
      record {
        mid = mid;
        told = told;
        runs = last_runs old mid front line desk next before between filled e s;
        turns = d.turns;
        back = d.gives.told;
        given = d.gives.given;
        none_open = d.none_open;
        counts = as_counted desk last _ _ (told ++ d.gives.told) size (both_counted desk next last 1 0 told d.gives.told s.counts d.gives.counts);
        written = both_written before between after told d.gives.told s.written d.gives.written;
      }

  pub stopped_in_last : (old new : State) (front line : List ℕ) (before after : Option (List ℕ)) → is_filled front ≡ true → line ≡ kept front → Halts rules slice old line new before after → FinishStops rules slice old front new before after
  stopped_in_last old new front line before after filled e h = in_last filled (halts_kept rules slice old new front line before after e h)

  pub stopped_behind_last : (old mid new : State) (front line : List ℕ) (desk next : Desk) (before between after : Option (List ℕ)) (limit : ℕ) → is_filled front ≡ true → line ≡ kept front
      → Served rules slice old line mid desk next before between → GivesInPart rules limit mid new between after → FinishStops rules slice old front new before after
  stopped_behind_last old mid new front line desk next before between after limit filled e s g =
      behind_last {told = s.said ∷ s.told} {between = between} (last_runs old mid front line desk next before between filled e s) s.written limit g

-- the end, whatever became of the last turns
pub end_of_empty : (result : Result (Unit {0}) RunFault) (rules : Rules) (slice : ℕ) (old new : State) (desk next : Desk) (before after : Option (List ℕ)) → Drains result rules old new desk next before after → Finishes result rules slice old [] new desk next before after
end_of_empty (Ok u) rules slice old new desk next before after d = finished_empty rules slice old new desk next before after d
end_of_empty (Err f) rules slice old new desk next before after d = (d.0, stopped_empty rules slice old new before after d.1 d.2)

pub end_of_line : (result : Result (Unit {0}) RunFault) (rules others : Rules) (slice : ℕ) (old mid new : State) (front line : List ℕ) (desk next last : Desk) (before between after : Option (List ℕ)) → others ≡ rules → is_filled front ≡ true → line ≡ kept front
    → Served rules slice old line mid desk next before between → Drains result others mid new next last between after → Finishes result rules slice old front new desk last before after
end_of_line result rules others slice old mid new front line desk next last before between after same filled e s drains = by result (subst (λ (r : Rules). Drains result r mid new next last between after) same drains)
  where
    by : (x : Result (Unit {0}) RunFault) → Drains x rules mid new next last between after → Finishes x rules slice old front new desk last before after
    by (Ok u) d = finished_line rules slice old mid new front line desk next last before between after filled e s d
    by (Err f) d = (d.0, stopped_behind_last rules slice old mid new front line desk next before between after d.1 filled e s d.2)

pub finished_under : (rules others : Rules) (slice turns : ℕ) (old new : State) (front : List ℕ) (desk next : Desk) (before after : Option (List ℕ)) → others ≡ rules → turns ≡ slice → Finished others turns old front new desk next before after → Finished rules slice old front new desk next before after
finished_under rules others slice turns old new front desk next before after e n f =
    subst (λ (k : ℕ). Finished rules k old front new desk next before after) n (subst (λ (r : Rules). Finished r turns old front new desk next before after) e f)

pub finish_stops_under : (rules others : Rules) (slice turns : ℕ) (old new : State) (front : List ℕ) (before after : Option (List ℕ)) → others ≡ rules → turns ≡ slice → FinishStops others turns old front new before after → FinishStops rules slice old front new before after
finish_stops_under rules others slice turns old new front before after e n f =
    subst (λ (k : ℕ). FinishStops rules k old front new before after) n (subst (λ (r : Rules). FinishStops r turns old front new before after) e f)
