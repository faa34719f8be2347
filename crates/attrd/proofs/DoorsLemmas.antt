-- Connections, one after the other.
use Rattle.std.proofs.Common.{◌≡◌, ◌∙◌, ℕ, ◌+◌, ◌≤◌, ◌==◌, Bool, true, false, not, if◌then◌else◌, List, Option, Result, Ok, Err}
use Rattle.std.proofs.Common.{inl, inr, ap, eqb-true, eq-eqb, subst, sym, refl, arith, true≢false}
use Rattle.at_model.specs.Rules.{Rules}
use Rattle.at_cache.specs.Kept.{Entries}
use Rattle.at_cache.specs.Traced.{Memories}
use Rattle.at_engine.specs.Keeping.{KeepsWhole}
use Rattle.at_engine.specs.Running.{RunsFor, KeepsWhole as RunKeepsWhole}
use Rattle.at_engine.specs.declared.engine.Engine.{Engine}
use Rattle.at_engine.specs.declared.stream.desk.Report.{Report}
use Rattle.at_engine.specs.declared.stream.desk.RunFault.{RunFault}
use Rattle.at_engine.specs.declared.stream.desk.RunFault.TheVariants as run
use Rattle.attrd.specs.Connections.{counted, faults, lack, lacks}
use Rattle.attrd.specs.Doors.{ending}
use Rattle.attrd.specs.declared.serving.Served.{Served}
use Rattle.attrd.specs.declared.serving.ConnectionFault.{ConnectionFault}
use Rattle.attrd.specs.declared.serving.ConnectionFault.TheVariants.{Socket, Run}

at_most_one : (b : Bool) → (if b then 1 else 0) ≤ 1
at_most_one false = omega arith
at_most_one true = omega arith

-- one more ended, and one more at most was counted beside
ends : (result : Result Report ConnectionFault) (s : Served) → (counted result s).ended ≡ s.ended + 1
ends (Ok report) s = refl
ends (Err Socket) s = refl
ends (Err (Run run.Read)) s = refl
ends (Err (Run run.Write)) s = refl
ends (Err (Run run.TooManyReads)) s = refl
ends (Err (Run run.Memory)) s = refl

abbrev beside : Served → ℕ
beside s = faults s + s.lacking

more : (result : Result Report ConnectionFault) (s : Served) → beside (counted result s) ≤ beside s + 1
more (Ok report) s = let one = at_most_one (lacks (Ok report)) in omega (arith, one)
more (Err Socket) s = omega arith
more (Err (Run run.Read)) s = omega arith
more (Err (Run run.Write)) s = omega arith
more (Err (Run run.TooManyReads)) s = omega arith
more (Err (Run run.Memory)) s = omega arith

pub counted_ends : (result : Result Report ConnectionFault) (s t : Served) (n : ℕ) → t ≡ counted result s
    → s.ended ≡ n → t.ended ≡ n + 1
counted_ends result s t n is e = ap (λ (x : Served). x.ended) is ∙ ends result s ∙ ap (λ m. m + 1) e

pub counted_faults : (result : Result Report ConnectionFault) (s t : Served) (n : ℕ) → t ≡ counted result s
    → faults s + s.lacking ≤ n → faults t + t.lacking ≤ n + 1
counted_faults result s t n is few =
    subst (λ (x : Served). faults x + x.lacking ≤ n + 1) (sym is) (let m = more result s in omega (arith, m, few))

-- of those that lack, and of those of which it isn't known
abbrev lacking : Served → ℕ
lacking s = s.read + s.write + s.reads + s.memory + s.lacking

-- where all of so many are whole, so is each of fewer
below_by : (rules : Rules) (n m : ℕ) (b c : Bool) → (n == 0) ≡ b → (m == 0) ≡ c → n ≤ m
    → KeepsWhole rules (not c) → KeepsWhole rules (not b)
below_by rules n m true c e f few whole = tt
below_by rules n m false false e f few whole = whole
below_by rules n m false true e f few whole =
    let none : m ≡ 0 = eqb-true m 0 f in
    let zero : n ≡ 0 = omega (arith, few, none) in
    absurd (true≢false (sym (eq-eqb n 0 zero) ∙ e))

whole_below : (rules : Rules) (n m : ℕ) → n ≤ m → KeepsWhole rules (not (m == 0)) → KeepsWhole rules (not (n == 0))
whole_below rules n m few whole = below_by rules n m (n == 0) (m == 0) refl refl few whole

one_by : (rules : Rules) (m : ℕ) (b : Bool) → (m == 0) ≡ b → 1 ≤ m → KeepsWhole rules (not b) → KeepsWhole rules true
one_by rules m false e some whole = whole
one_by rules m true e some whole = let none : m ≡ 0 = eqb-true m 0 e in absurd (omega (arith, some, none))

whole_one : (rules : Rules) (m : ℕ) → 1 ≤ m → KeepsWhole rules (not (m == 0)) → KeepsWhole rules true
whole_one rules m some whole = one_by rules m (m == 0) refl some whole

-- that nothing was answered `memory` to all, with one more counted, says so of those before, and of that one
fewer : (told : Result Report ConnectionFault) (s : Served) → lacking s ≤ lacking (counted told s)
fewer (Ok report) s = omega arith
fewer (Err Socket) s = omega arith
fewer (Err (Run run.Read)) s = omega arith
fewer (Err (Run run.Write)) s = omega arith
fewer (Err (Run run.TooManyReads)) s = omega arith
fewer (Err (Run run.Memory)) s = omega arith

pub whole_before : (told : Result Report ConnectionFault) (s t : Served) (rules : Rules) → t ≡ counted told s
    → KeepsWhole rules (lack t) → KeepsWhole rules (lack s)
whole_before told s t rules is whole =
    whole_below rules (lacking s) (lacking (counted told s)) (fewer told s)
    (subst (λ (x : Served). KeepsWhole rules (lack x)) is whole)

of_report : (rules : Rules) (m n : ℕ) (b : Bool) → KeepsWhole rules (not (m + (n + (if b then 1 else 0)) == 0))
    → KeepsWhole rules b
of_report rules m n false whole = tt
of_report rules m n true whole = whole_one rules (m + (n + 1)) (omega arith) whole

some_lacks : (fault : RunFault) (s : Served) → 1 ≤ lacking (counted (Err (Run fault)) s)
some_lacks run.Read s = omega arith
some_lacks run.Write s = omega arith
some_lacks run.TooManyReads s = omega arith
some_lacks run.Memory s = omega arith

of_last : (rules : Rules) (told : Result Report ConnectionFault) (s : Served) → KeepsWhole rules (lack (counted told s))
    → KeepsWhole rules (lacks told)
of_last rules (Ok report) s whole =
    of_report rules (s.read + s.write + s.reads + s.memory) s.lacking (lacks (Ok report)) whole
of_last rules (Err Socket) s whole = tt
of_last rules (Err (Run fault)) s whole =
    whole_one rules (lacking (counted (Err (Run fault)) s)) (some_lacks fault s) whole

pub whole_next : (told : Result Report ConnectionFault) (s t : Served) (rules others : Rules) → t ≡ counted told s
    → others ≡ rules → KeepsWhole rules (lack t) → KeepsWhole others (lacks told)
whole_next told s t rules others is same whole =
    subst (λ (r : Rules). KeepsWhole r (lacks told)) (sym same)
    (of_last rules told s (subst (λ (x : Served). KeepsWhole rules (lack x)) is whole))

-- and of a run, as it says that itself
of_run : (rules : Rules) (report : Report) (b : Bool) → (report.memory == 0) ≡ b → KeepsWhole rules (not b)
    → RunKeepsWhole rules (Ok report)
of_run rules report false e whole = inl whole
of_run rules report true e whole = inr (eqb-true report.memory 0 e)

pub run_whole : (rules : Rules) (r : Result Report RunFault) (told : Result Report ConnectionFault) → told ≡ ending r
    → KeepsWhole rules (lacks told) → RunKeepsWhole rules r
run_whole rules (Ok report) told is whole =
    of_run rules report (report.memory == 0) refl
    (subst (λ (t : Result Report ConnectionFault). KeepsWhole rules (lacks t)) is whole)
run_whole rules (Err fault) told is whole =
    subst (λ (t : Result Report ConnectionFault). KeepsWhole rules (lacks t)) is whole

-- what a run promises is that of the door's way of sending
pub runs_so : {K R W : Type 0} {entries : K → Entries} {memories : K → Memories}
    {remaining : R → Option (List ℕ)} {misread ended : R → Option Bool} {count : R → Option ℕ}
    {contents : W → Option (List ℕ)} {failure : W → Option Bool} {waiting : W → Bool} {most_reads : ℕ}
    {asked gathers : Bool} {old new : Engine K} {reader left : R} {writer later : W} {result : Result Report RunFault}
    → asked ≡ gathers
    → RunsFor entries memories remaining misread ended count contents failure waiting most_reads asked
    old new reader left writer later result
    → RunsFor entries memories remaining misread ended count contents failure waiting most_reads gathers
    old new reader left writer later result
runs_so {entries = entries} {memories = memories} {remaining = remaining} {misread = misread}
    {ended = ended} {count = count} {contents = contents} {failure = failure} {waiting = waiting}
    {most_reads = most_reads} {old = old} {new = new} {reader = reader} {left = left} {writer = writer} {later = later}
    {result = result} same runs =
    subst (λ (b : Bool). RunsFor entries memories remaining misread ended count contents failure waiting
    most_reads b old new reader left writer later result) same runs
