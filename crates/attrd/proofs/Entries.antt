-- What a parse finds for an id, from the rules of the command's arguments with that id.
use Rattle.std.proofs.Common.{◌≡◌, ◌⊎◌, ◌∙◌, ◌<◌, ◌&&◌, ◌||◌, ap, sym, subst, refl, arith, inl, inr, true, false, not, Bool, ℕ, is_some, nat_lt, option_map, List, [], ◌∷◌, length, Option, None, Some, unwrap_or, ltb-true}
use Rattle.std.specs.Prelude.{IfSome, option_and_then, slice_get}
use Rattle.std.specs.Borrow.{Bor}
use Rattle.std.specs.List.{All, list_all, list_any, slice_index_or}
use Rattle.std.specs.Str.{bytes_eq}
use Rattle.std.proofs.lemmas.Bool.{true≢false}
use Rattle.std.proofs.lemmas.List.Folds.{Any-from_list_any}
use Rattle.std.proofs.lemmas.Slice.Eq.{bytes_eq-Decides}
use Rattle.clap.specs.Facts.{AllowsNone, Entry, EntryPasses, HasReading, IsCountArg, PassesArg, ValuesPass, args_of, groups_of, is_present, least_values, unwrap_or_range}
use Rattle.clap.specs.Walk.{action_of, is_empty, is_free_arg, is_simple_arg}
use Rattle.clap.specs.Words.{IsParsedFrom, IsPlain, IsPlainArg, Rule, Text, first_of, found_of, matched_of, one_text, read_as, rows_of, rule_of, shape_of}
use Rattle.clap.specs.declared.builder.action.ArgAction.{ArgAction}
use Rattle.clap.specs.declared.builder.action.ArgAction.TheVariants.{Count, Set}
use Rattle.clap.specs.declared.builder.arg.Arg.{Arg}
use Rattle.clap.specs.declared.builder.command.Command.{Command}
use Rattle.clap.specs.declared.builder.command.Command.TheViews.{out-Command}
use Rattle.clap.specs.declared.builder.value_parser.Reading.{Reading}
use Rattle.clap.specs.declared.parser.matches.ArgMatches.{ArgMatches}
use Rattle.clap.specs.declared.parser.matches.Found.{Found}
use Rattle.clap.specs.declared.parser.matches.MatchedArg.{MatchedArg}
use Rattle.clap.proofs.CallerLemmas.{entry_by_id, present_has_entry, required_present}
use Rattle.clap.proofs.SimpleLemmas.{is_false, is_nil}
use Rattle.clap.proofs.TakesLemmas.{each_rule}
use Rattle.clap.proofs.WalkLemmas.{both, first_value-rows, list_any-map}

-- ---- the rules of an id

-- each rule with this id passes the test
abbrev pub each_of : Text → (Rule → Bool) → List Rule → Bool
each_of id test = list_all (λ r. not (bytes_eq r.id id) || test r)

given : (a b : Bool) → (not a || b) ≡ true → a ≡ true → b ≡ true
given true b e t = e
given false b e t = absurd (true≢false (sym t))

-- and so does that of each argument with this id
pub rule_passes : (c : Command) (id : Text) (test : Rule → Bool) → each_of id test (shape_of c).rules ≡ true
    → (k : ℕ) (a : Arg) → k < length (args_of c) → slice_index_or (args_of c) k a ≡ a → bytes_eq a.id.now id ≡ true → test (rule_of a) ≡ true
rule_passes c id test h k a lt at is =
    let p = each_rule (λ r. not (bytes_eq r.id id) || test r) (args_of c) h k a lt in
    given (bytes_eq a.id.now id) (test (rule_of a)) (subst (λ (b : Arg). (not (bytes_eq b.id.now id) || test (rule_of b)) ≡ true) at p) is

-- ---- an entry

-- what holds of the entry of an argument
abbrev pub IsEntry : Command → Text → MatchedArg → Type 0
IsEntry c id x = All (λ v. PassesArg c id v.now) x.vals.items × ((0 < length x.vals.items) ⊎ (IsCountArg c id ⊎ AllowsNone c id)) × HasReading c id x.reading

no_group : (c : Command) (e : Entry) → groups_of c ≡ [] → (e.0.now ≡ [] → ⊥) → EntryPasses c e → e.1.is_group ≡ true → ⊥
no_group c e none named pass is = elim (pass.3 is) [
  | inl empty ↦ named empty
  | inr some ↦
      let bad : 0 < 0 = rw none at some in
      omega arith
]

entry_is : (c : Command) (e : Entry) → groups_of c ≡ [] → (e.0.now ≡ [] → ⊥) → EntryPasses c e → IsEntry c e.0.now e.1
entry_is c e none named pass = (
  elim pass.0 [ inl g ↦ absurd (no_group c e none named pass g) | inr vals ↦ vals ],
  elim pass.1 [
    | inl g ↦ absurd (no_group c e none named pass g.0)
    | inr (inl some) ↦ inl some
    | inr (inr (inl count)) ↦ inr (inl count.1)
    | inr (inr (inr less)) ↦ inr (inr less)
  ],
  elim pass.4 [ inl g ↦ absurd (no_group c e none named pass g) | inr how ↦ how ],
)

pub entry_of : (c : Command) (f : Found) (id : Text) (x : MatchedArg) → ValuesPass c f → groups_of c ≡ [] → (id ≡ [] → ⊥)
    → matched_of f id ≡ Some x → IsEntry c id x
entry_of c f id x values none named found =
    let got = entry_by_id (EntryPasses c) f.entries.items id x values found in
    let key : got.0.0.now ≡ id = (bytes_eq-Decides got.0.0.now id).0 got.2 in
    subst (λ (t : Text). IsEntry c t x) key (subst (λ (y : MatchedArg). IsEntry c got.0.0.now y) got.1
    (entry_is c got.0 none (λ empty. named (sym key ∙ empty)) got.3))

-- ---- an entry has a value

abbrev pub is_count : ArgAction → Bool
is_count Count = true
is_count _ = false

-- a use of the argument has a value
abbrev pub needs_value : Rule → Bool
needs_value r = r.is_simple && (nat_lt 0 (unwrap_or_range r.range).start_inclusive && not (is_count (action_of r)))

first_some : (xs : List (Bor Text)) → 0 < length xs → is_some (option_map (λ s. s.now) (slice_get xs 0)) ≡ true
first_some [] lt = absurd (omega arith)
first_some (x ∷ xs) lt = refl

no_least : (n : ℕ) → nat_lt 0 n ≡ true → n ≡ 0 → ⊥
no_least n some zero = omega (arith, ltb-true 0 n some)

-- a plain argument cuts no value up
undelimited : (a : Arg) → is_simple_arg a ≡ true → is_some a.val_delim ≡ false
undelimited a simple =
    let p = both (is_empty a.overrides.items) _ simple in
    let q = both (is_empty a.default_vals_ifs.items) _ p.1 in
    let r = both (is_empty a.groups.items) _ q.1 in
    is_false _ (both (not (is_some a.val_delim)) _ r.1).0

pub value_there : (c : Command) (f : Found) (id : Text) → ValuesPass c f → groups_of c ≡ [] → (id ≡ [] → ⊥)
    → each_of id needs_value (shape_of c).rules ≡ true → is_present f id ≡ true → is_some (first_of id (rows_of f)) ≡ true
value_there c f id values none named needs present = go (matched_of f id) refl (present_has_entry f id present)
  where
    filled : (x : MatchedArg) → IsEntry c id x → 0 < length x.vals.items
    filled x entry = elim entry.1 [
      | inl some ↦ some
      | inr (inl count) ↦
          let test = rule_passes c id needs_value needs count.0 count.1 count.2 count.3 count.4.0 in
          let counts : is_count (unwrap_or count.1.action Set) ≡ true = ap is_count count.4.1 in
          absurd (true≢false (sym counts ∙ is_false _ (both _ _ (both _ _ test).1).1))
      | inr (inr less) ↦
          let test = rule_passes c id needs_value needs less.0 less.1 less.2 less.3 less.4.0 in
          let some : nat_lt 0 (least_values less.1) ≡ true = (both _ _ (both _ _ test).1).0 in
          elim less.4.1 [
            | inl zero ↦ absurd (no_least (least_values less.1) some zero)
            | inr delimiter ↦ absurd (true≢false (sym delimiter ∙ undelimited less.1 (both _ _ test).0))
          ]
    ]

    go : (o : Option MatchedArg) → matched_of f id ≡ o → is_some (matched_of f id) ≡ true → is_some (first_of id (rows_of f)) ≡ true
    go None e some = absurd (true≢false (sym some ∙ ap is_some e))
    go (Some x) e some =
        ap is_some (sym (first_value-rows f id) ∙ ap (λ o. option_and_then (λ (a : MatchedArg). option_map (λ s. s.now) (slice_get a.vals.items 0)) o) e)
        ∙ first_some x.vals.items (filled x (entry_of c f id x values none named e))

-- ---- a value

-- a text that an argument with this id took, as it is read
abbrev pub IsValue : Command → Text → Text → Type 0
IsValue c id t = (how : Reading) × (v : Text) × (t ≡ read_as how v) × PassesArg c id v × HasReading c id how

pub value_of : (c : Command) (f : Found) (id : Text) → ValuesPass c f → groups_of c ≡ [] → (id ≡ [] → ⊥) → IfSome (one_text f id) (IsValue c id)
value_of c f id values none named = go (matched_of f id) refl
  where
    step : (x : MatchedArg) (vs : List (Bor Text)) → All (λ v. PassesArg c id v.now) vs → HasReading c id x.reading
        → IfSome (option_map (λ s. read_as x.reading s.now) (slice_get vs 0)) (IsValue c id)
    step x [] all how = tt
    step x (v ∷ vs) all how = (x.reading, v.now, refl, all 0 v (omega arith), how)

    go : (o : Option MatchedArg) → matched_of f id ≡ o → IfSome (one_text f id) (IsValue c id)
    go None e = rw e tt
    go (Some x) e =
        let entry = entry_of c f id x values none named e in
        rw e (step x x.vals.items entry.0 entry.2)

-- ---- a required argument

abbrev pub requires : Text → Rule → Bool
requires id r = r.required && bytes_eq r.id id

pub required_there : (c : Command) (m : ArgMatches) → IsParsedFrom c m → IsPlain c → (out-Command c).has_globals ≡ false
    → (out-Command c).subcommand_negates_reqs ≡ false → (id : Text) → list_any (requires id) (shape_of c).rules ≡ true
    → is_present (found_of m) id ≡ true
required_there c m p plain globals negates id some =
    let there = Any-from_list_any (λ a. requires id (rule_of a)) (args_of c) (list_any-map (requires id) rule_of (args_of c) ∙ some) in
    let test = both there.1.required _ there.4 in
    let same : there.1.id.now ≡ id = (bytes_eq-Decides there.1.id.now id).0 test.1 in
    let wanted = ap (λ (a : Arg). a.required) there.3 ∙ test.0 in
    let present = required_present c m p plain globals negates there.0 there.1 there.2 wanted in
    subst (λ (t : Text). is_present (found_of m) t ≡ true) (ap (λ (a : Arg). a.id.now) there.3 ∙ same) present

-- an argument that is simple and free excludes nothing
plain_arg : (a : Arg) → is_simple_arg a ≡ true → is_free_arg a ≡ true → IsPlainArg a
plain_arg a simple free =
    let p = both (not a.exclusive) _ free in
    let q = both (is_empty a.conflicts.items) _ p.1 in
    let r = both (is_empty a.overrides.items) _ simple in
    let s = both (is_empty a.default_vals_ifs.items) _ r.1 in
    let t = both (is_empty a.groups.items) _ s.1 in
    (is_false _ p.0, is_nil _ q.0, is_nil _ r.0, is_nil _ t.0)

pub plain_command : (c : Command) → groups_of c ≡ [] → list_all (λ r. r.is_simple && r.is_free) (shape_of c).rules ≡ true → IsPlain c
plain_command c none all =
    let each = each_rule (λ r. r.is_simple && r.is_free) (args_of c) all in
    (λ k d lt. let test = both _ _ (each k d lt) in plain_arg (slice_index_or (args_of c) k d) test.0 test.1, none)
