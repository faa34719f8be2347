-- Words with no fault are taken: the faults of a parse and the test that it passes are told step by step in the same way.
use Rattle.std.proofs.Common.{◌≡◌, ◌∙◌, ◌+◌, ◌==◌, ◌&&◌, ◌||◌, sym, refl, arith, true, false, not, zero, suc, Bool, ℕ, is_some, min, nat_lt, nat_le, List, [], ◌∷◌, length, drop, Option, None, Some, codes}
use Rattle.std.specs.Prelude.{encode_utf8, if◌then◌else◌, slice_get}
use Rattle.std.specs.List.{list_all, list_any}
use Rattle.std.specs.Option.{option_map_or}
use Rattle.std.specs.Str.{bytes_eq, chars}
use Rattle.std.proofs.lemmas.Bool.{eqb-true, le-leb, ltb-false}
use Rattle.clap.specs.Facts.{explicit_source, parser_of_value, unwrap_or_range}
use Rattle.clap.specs.Faults as f
use Rattle.clap.specs.Faults.{flags_fault, walk_fault}
use Rattle.clap.specs.Kinds.{check_kinds, or_else, range_kinds, value_kinds, values_kinds}
use Rattle.clap.specs.Lexer.{long_of, short_of}
use Rattle.clap.specs.Matches.{count_text}
use Rattle.clap.specs.Simple.{argument_words}
use Rattle.clap.specs.Takes as t
use Rattle.clap.specs.Takes.{flags_pass, walk_passes}
use Rattle.clap.specs.ValueTests.{accepts}
use Rattle.clap.specs.Values.{refused_kind}
use Rattle.clap.specs.Walk.{Held, Names, Step, Waiting, Walk, action_of, arg_by_id, arg_by_index, arg_by_long, arg_by_short, attached_value, count_of, finished, has_row, is_pending, most_values, next, nothing_held, reacted, settled, subcommand, subcommand_met, takes_several, takes_values, trailing, value, values_or_missing, walk, walk_from, walked, word_met}
use Rattle.clap.specs.Words.{App, Kinds, Row, Rule, Shape, Text, built, fault_of, is_simple, takes}
use Rattle.clap.specs.declared.builder.action.ArgAction.{ArgAction}
use Rattle.clap.specs.declared.builder.action.ArgAction.TheVariants.{Append, Count, Help, HelpLong, HelpShort, Set, SetFalse, SetTrue, Version}
use Rattle.clap.specs.declared.builder.value_parser.ValueParser.{ValueParser}
use Rattle.clap.specs.declared.error.kind.ErrorKind.TheVariants as kind
use Rattle.clap.proofs.FaultLemmas.{leaf_fault}
use Rattle.clap.proofs.TakesLemmas.{leaf_takes}

-- ---- steps one after the other, and tests

neither : (a b : Kinds) → or_else a b ≡ [] → (a ≡ []) × (b ≡ [])
neither [] b e = (refl, e)
neither (k ∷ ks) b e = cc

also : (a b : Bool) → a ≡ true → b ≡ true → (a && b) ≡ true
also true b p q = q
also false b p q = cc

-- a step that is left out where b holds
unless : (b p : Bool) (k : Kinds) → (if b then [] else k) ≡ [] → (k ≡ [] → p ≡ true) → (b || p) ≡ true
unless true p k e h = refl
unless false p k e h = h e

-- ---- one use of an argument

value_taken : (i : Bool) (p : ValueParser) (v : Text) → value_kinds i p v ≡ [] → accepts i p v ≡ true
value_taken i p v e = go (accepts i p v) e
  where
    go : (b : Bool) → (if b then [] else refused_kind p ∷ []) ≡ [] → b ≡ true
    go true e = refl
    go false e = cc

values_taken : (i : Bool) (p : ValueParser) (vs : List Text) → values_kinds i p vs ≡ [] → list_all (accepts i p) vs ≡ true
values_taken i p [] e = refl
values_taken i p (v ∷ vs) e =
    let n = neither (value_kinds i p v) (values_kinds i p vs) e in
    also _ _ (value_taken i p v n.0) (values_taken i p vs n.1)

count_taken : (a : Rule) (vs : List Text) (rows : List Row) → f.count_fault a vs rows ≡ [] → t.count_passes a vs rows ≡ true
count_taken a [] rows e = value_taken a.ignore_case (parser_of_value a.parser) (count_text (min (count_of a.id rows + 1) 255)) e
count_taken a (v ∷ vs) rows e = values_taken a.ignore_case (parser_of_value a.parser) (v ∷ vs) e

set_taken : (again : Bool) (a : Rule) (vs : List Text) (rows : List Row) → f.set_fault again a vs rows ≡ [] → t.set_passes again a vs rows ≡ true
set_taken again a vs rows e =
    let n = neither (f.repeat_fault again a.id rows) (f.values_fault a vs) e in
    also _ _ (go (has_row a.id rows) again n.0) (values_taken a.ignore_case (parser_of_value a.parser) vs n.1)
  where
    go : (has again : Bool) → (if has && not again then kind.ArgumentConflict ∷ [] else []) ≡ [] → (not has || again) ≡ true
    go false again e = refl
    go true true e = refl
    go true false e = cc

action_taken : (x : ArgAction) (again : Bool) (a : Rule) (vs : List Text) (rows : List Row) → f.action_fault x again a vs rows ≡ [] → t.action_passes x again a vs rows ≡ true
action_taken Set again a vs rows e = set_taken again a vs rows e
action_taken SetTrue again a vs rows e = set_taken again a vs rows e
action_taken SetFalse again a vs rows e = set_taken again a vs rows e
action_taken Append again a vs rows e = values_taken a.ignore_case (parser_of_value a.parser) vs e
action_taken Count again a vs rows e = count_taken a vs rows e
action_taken Help again a vs rows e = cc
action_taken HelpShort again a vs rows e = cc
action_taken HelpLong again a vs rows e = cc
action_taken Version again a vs rows e = cc

range_taken : (least most n : ℕ) → range_kinds least most n ≡ [] → (nat_le least n ≡ true) × (nat_le n most ≡ true)
range_taken least most n e = go (nat_lt 0 least && n == 0) (least == most) (least == n) (nat_lt n least) (nat_lt most n) refl refl refl refl e
  where
    one : least ≡ most → least ≡ n → (nat_le least n ≡ true) × (nat_le n most ≡ true)
    one p q = (le-leb least n (omega (arith, p, q)), le-leb n most (omega (arith, p, q)))

    go : (a b c under over : Bool) → (least == most) ≡ b → (least == n) ≡ c → nat_lt n least ≡ under → nat_lt most n ≡ over
        → (if a then kind.InvalidValue ∷ [] else (if b then (if c then [] else kind.WrongNumberOfValues ∷ [])
        else (if under then kind.TooFewValues ∷ [] else (if over then kind.TooManyValues ∷ [] else [])))) ≡ []
        → (nat_le least n ≡ true) × (nat_le n most ≡ true)
    go true b c under over p q r s e = cc
    go false true true under over p q r s e = one (eqb-true least most p) (eqb-true least n q)
    go false true false under over p q r s e = cc
    go false false c true over p q r s e = cc
    go false false c false true p q r s e = cc
    go false false c false false p q r s e =
        let low = ltb-false n least r in
        let high = ltb-false most n s in
        (le-leb least n low, le-leb n most high)

use_taken : (again : Bool) (a : Rule) (vs : List Text) (rows : List Row) → f.use_fault again a vs rows ≡ [] → t.use_passes again a vs rows ≡ true
use_taken again a vs rows e =
    let n = neither (range_kinds (unwrap_or_range a.range).start_inclusive (most_values a) (length vs)) _ e in
    let r = range_taken (unwrap_or_range a.range).start_inclusive (most_values a) (length vs) n.0 in
    also _ _ r.0 (also _ _ r.1 (action_taken (action_of a) again a (values_or_missing a vs) rows n.1))

-- ---- the walk

settle_taken : (c : List Rule) (again : Bool) (h : Held) → f.settle_fault c again h ≡ [] → t.settle_passes c again h ≡ true
settle_taken c again h e = go h.pending e
  where
    at : (p : Text × List Text) (a : Option Rule) → option_map_or (λ a. f.use_fault again a p.1 h.rows) a [] ≡ [] → option_map_or (λ a. t.use_passes again a p.1 h.rows) a true ≡ true
    at p None e = refl
    at p (Some a) e = use_taken again a p.1 h.rows e

    go : (p : Option (Text × List Text)) → option_map_or (λ p. option_map_or (λ a. f.use_fault again a p.1 h.rows) (arg_by_id c p.0) []) p [] ≡ []
        → option_map_or (λ p. option_map_or (λ a. t.use_passes again a p.1 h.rows) (arg_by_id c p.0) true) p true ≡ true
    go None e = refl
    go (Some p) e = at p (arg_by_id c p.0) e

react_taken : (c : List Rule) (again : Bool) (a : Rule) (vs : List Text) (h : Held) → f.react_fault c again a vs h ≡ [] → t.react_passes c again a vs h ≡ true
react_taken c again a vs h e =
    let n = neither (f.settle_fault c again h) _ e in
    also _ _ (settle_taken c again h n.0) (use_taken again a vs (settled c h).rows n.1)

option_taken : (c : List Rule) (again : Bool) (a : Rule) (v : Option Text) (h : Held) → f.option_fault c again a v h ≡ [] → t.option_passes c again a v h ≡ true
option_taken c again a (Some v) h e = react_taken c again a (v ∷ []) h e
option_taken c again a None h e = settle_taken c again h e

long_taken : (c : List Rule) (again : Bool) (a : Option Rule) (v : Option Text) (h : Held) → f.long_fault c again a v h ≡ [] → t.long_passes c again a v h ≡ true
long_taken c again None v h e = cc
long_taken c again (Some a) v h e = go (takes_values a) v e
  where
    go : (b : Bool) (v : Option Text) → (if b then f.option_fault c again a v h else (if is_some v then kind.TooManyValues ∷ [] else f.react_fault c again a [] h)) ≡ []
        → (if b then t.option_passes c again a v h else (not (is_some v) && t.react_passes c again a [] h)) ≡ true
    go true v e = option_taken c again a v h e
    go false None e = react_taken c again a [] h e
    go false (Some v) e = cc

short_taken : (c : List Rule) (again : Bool) (a : Option Rule) (rest : Text) (h : Held) (k : Held → Kinds) (p : Held → Bool)
    → ((g : Held) → k g ≡ [] → p g ≡ true) → f.short_fault c again a rest h k ≡ [] → t.short_passes c again a rest h p ≡ true
short_taken c again None rest h k p more e = cc
short_taken c again (Some a) rest h k p more e = go (takes_values a) e
  where
    go : (b : Bool) → (if b then f.option_fault c again a (attached_value rest) h else or_else (f.react_fault c again a [] h) (k (reacted c a [] h))) ≡ []
        → (if b then t.option_passes c again a (attached_value rest) h else (t.react_passes c again a [] h && p (reacted c a [] h))) ≡ true
    go true e = option_taken c again a (attached_value rest) h e
    go false e =
        let n = neither (f.react_fault c again a [] h) _ e in
        also _ _ (react_taken c again a [] h n.0) (more (reacted c a [] h) n.1)

bundle_step_taken : (c : List Rule) (again : Bool) (x : Option ℕ) (flags : Text) (skip : ℕ) (h : Held) (k : Text → ℕ → Held → Kinds) (p : Text → ℕ → Held → Bool)
    → ((r : Text) (n : ℕ) (g : Held) → k r n g ≡ [] → p r n g ≡ true) → f.bundle_step_fault c again x flags skip h k ≡ [] → t.bundle_step_passes c again x flags skip h p ≡ true
bundle_step_taken c again None flags skip h k p more e = refl
bundle_step_taken c again (Some x) flags zero h k p more e =
    let rest = drop (length (encode_utf8 x)) flags in
    short_taken c again (arg_by_short c x) rest h (k rest 0) (p rest 0) (more rest 0) e
bundle_step_taken c again (Some x) flags (suc skip) h k p more e = more (drop (length (encode_utf8 x)) flags) skip h e

flags_taken : (c : List Rule) (again : Bool) (k : ℕ) (flags : Text) (skip : ℕ) (h : Held) → flags_fault c again k flags skip h ≡ [] → flags_pass c again k flags skip h ≡ true
unfolding flags_fault flags_pass
flags_taken c again zero flags skip h e = refl
flags_taken c again (suc k) flags skip h e =
    bundle_step_taken c again (slice_get (chars flags) 0) flags skip h (flags_fault c again k) (flags_pass c again k) (flags_taken c again k) e

bundle_taken : (c : List Rule) (again : Bool) (flags : Text) (h : Held) → f.bundle_fault c again flags h ≡ [] → t.bundle_passes c again flags h ≡ true
bundle_taken c again flags h e = flags_taken c again (length flags) flags h.skip (record h { skip = 0 }) e

flag_word_taken : (c : List Rule) (again : Bool) (p : Option (Text × Option Text)) (word : Text) (h : Held) → f.flag_word_fault c again p word h ≡ [] → t.flag_word_passes c again p word h ≡ true
flag_word_taken c again (Some p) word h e = long_taken c again (arg_by_long c p.0) p.1 h e
flag_word_taken c again None word h e = go (short_of word) e
  where
    go : (s : Option Text) → option_map_or (λ flags. f.bundle_fault c again flags h) s [] ≡ [] → option_map_or (λ flags. t.bundle_passes c again flags h) s true ≡ true
    go None e = refl
    go (Some flags) e = bundle_taken c again flags h e

other_taken : (s : Shape) (name : Option Text) (word : Text) (h : Held) → f.other_fault s name word h ≡ [] → t.other_passes s name word h ≡ true
other_taken s (Some name) word h e = go (bytes_eq name (codes "help")) s.disable_help_subcommand e
  where
    go : (a b : Bool) → (if a && not b then kind.DisplayHelp ∷ kind.InvalidSubcommand ∷ [] else []) ≡ [] → (not a || b) ≡ true
    go false b e = refl
    go true true e = refl
    go true false e = cc
other_taken s None word h e =
    unless (bytes_eq word (45 ∷ 45 ∷ [])) _ _ e (flag_word_taken s.rules s.args_override_self (long_of word) word h)

word_taken : (s : Shape) (names : Names) (is_trailing : Bool) (waiting : Waiting) (word : Text) (h : Held)
    → f.word_fault s names is_trailing waiting word h ≡ [] → t.word_passes s names is_trailing waiting word h ≡ true
word_taken s names is_trailing waiting word h e =
    unless is_trailing _ _ e (other_taken s (subcommand_met names waiting word) word h)

positional_taken : (c : List Rule) (again : Bool) (a : Rule) (h : Held) → f.positional_fault c again a h ≡ [] → t.positional_passes c again a h ≡ true
positional_taken c again a h e = unless (is_pending a h.pending && takes_several a) _ _ e (settle_taken c again h)

step_taken : (s : Shape) (position : ℕ) (h : Held) (step : Step) → f.step_fault s position h step ≡ [] → t.step_passes s position h step ≡ true
step_taken s position h value e = go (arg_by_index s.rules position) e
  where
    stray : (b : Bool) → (if b then kind.UnknownArgument ∷ [] else kind.UnknownArgument ∷ kind.InvalidSubcommand ∷ []) ≡ [] → ⊥
    stray true e = cc
    stray false e = cc

    go : (a : Option Rule) → option_map_or (λ a. f.positional_fault s.rules s.args_override_self a h) a (f.stray_fault s) ≡ []
        → option_map_or (λ a. t.positional_passes s.rules s.args_override_self a h) a false ≡ true
    go None e = absurd (stray s.is_leaf e)
    go (Some a) e = positional_taken s.rules s.args_override_self a h e
step_taken s position h (next w) e = refl
step_taken s position h (trailing n) e = refl
step_taken s position h (subcommand n) e = refl

turn_taken : (s : Shape) (names : Names) (w : Walk) (word : Text) → f.turn_fault s names w word ≡ [] → t.turn_passes s names w word ≡ true
turn_taken s names w word e =
    let met = word_met s.rules names w.is_trailing w.waiting w.position word w.held in
    unless (is_some w.stopped) _ _ e (λ none.
    let n = neither (f.word_fault s names w.is_trailing w.waiting word w.held) _ none in
    also _ _ (word_taken s names w.is_trailing w.waiting word w.held n.0) (step_taken s w.position met.0 met.1 n.1))

walk_taken : (s : Shape) (names : Names) (w : Walk) (words : List Text) → walk_fault s names w words ≡ [] → walk_passes s names w words ≡ true
unfolding walk_fault walk_passes
walk_taken s names w [] e = refl
walk_taken s names w (word ∷ rest) e =
    let n = neither (f.turn_fault s names w word) _ e in
    also _ _ (turn_taken s names w word n.0) (walk_taken s names (walked s.rules names w word) rest n.1)

-- ---- after the walk

check_none : (a b c : Bool) → check_kinds a b c ≡ [] → (a ≡ false) × (b ≡ false) × (c ≡ false)
check_none true b c e = cc
check_none false true c e = cc
check_none false false true e = cc
check_none false false false e = (refl, refl, refl)

all_given : (rows : List Row) (rules : List Rule) → list_any (λ a. a.required && not (t.is_given a.id rows)) rules ≡ false
    → list_all (λ a. not a.required || t.is_given a.id rows) rules ≡ true
all_given rows [] e = refl
all_given rows (a ∷ rules) e = go a.required (t.is_given a.id rows) e (all_given rows rules)
  where
    go : (r g : Bool) → ((r && not g) || list_any (λ a. a.required && not (t.is_given a.id rows)) rules) ≡ false
        → (list_any (λ a. a.required && not (t.is_given a.id rows)) rules ≡ false → list_all (λ a. not a.required || t.is_given a.id rows) rules ≡ true)
        → ((not r || g) && list_all (λ a. not a.required || t.is_given a.id rows) rules) ≡ true
    go false g e more = more e
    go true true e more = more e
    go true false e more = cc

valid : (s : Shape) (rows : List Row) (has : Bool) → list_all (λ a. a.is_free) s.rules ≡ true → f.check_fault s rows has ≡ [] → t.is_valid s rows has ≡ true
valid s rows has free e =
    let n = check_none _ _ _ e in
    also _ _ (help s.arg_required_else_help has (list_any (λ r. explicit_source r.source) rows) n.0)
    (also _ _ (under s.subcommand_required has n.1)
    (also _ _ free (needs (s.subcommand_negates_reqs && has) n.2)))
  where
    help : (r has any : Bool) → (not has && (r && not any)) ≡ false → (not r || (has || any)) ≡ true
    help false has any e = refl
    help true true any e = refl
    help true false true e = refl
    help true false false e = cc

    under : (r has : Bool) → (not has && r) ≡ false → (not r || has) ≡ true
    under false has e = refl
    under true true e = refl
    under true false e = cc

    needs : (n : Bool) → (not n && list_any (λ a. a.required && not (t.is_given a.id rows)) s.rules) ≡ false
        → (n || list_all (λ a. not a.required || t.is_given a.id rows) s.rules) ≡ true
    needs true e = refl
    needs false e = all_given rows s.rules e

-- one level of a parse, where the defaults pass and no argument has a rule on another
level_taken : (s : Shape) (names : Names) (h : Held) (words : List Text) (has : Bool) → list_all t.default_passes s.rules ≡ true → list_all (λ a. a.is_free) s.rules ≡ true
    → f.level_fault s names h words has [] ≡ [] → t.level_passes s names h words has ≡ true
level_taken s names h words has defaults free e =
    let end = (walk s.rules names h words).held in
    let n = neither (walk_fault s names (walk_from h) words) _ e in
    let m = neither (f.settle_fault s.rules s.args_override_self end) _ n.1 in
    let l = neither (f.defaults_fault (settled s.rules end).rows s.rules) _ m.1 in
    also _ _ (walk_taken s names (walk_from h) words n.0)
    (also _ _ (settle_taken s.rules s.args_override_self end m.0)
    (also _ _ defaults (valid s (finished s.rules end) has free l.1)))

-- a simple command with no subcommand takes the words that have no fault, where its defaults pass
pub faultless_taken : (a : App) (words : List Text) → is_simple a ≡ true → (built a).subs ≡ [] → list_all t.default_passes (built a).top.rules ≡ true
    → list_all (λ r. r.is_free) (built a).top.rules ≡ true → fault_of a words ≡ [] → takes a words ≡ true
faultless_taken a words simple leaf defaults free e =
    let all = argument_words a words in
    also _ _ simple (leaf_takes (built a) nothing_held all leaf
    (level_taken (built a).top [] nothing_held all false defaults free (sym (leaf_fault (built a) nothing_held all leaf) ∙ e)))
