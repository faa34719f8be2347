-- The rows that the command line leaves have each value that is needed, and each reads as what it is taken for.
use Rattle.std.proofs.Common.{◌≡◌, ◌∙◌, ◌==◌, ◌&&◌, ◌||◌, ap, ap₂, sym, subst, refl, arith, inl, inr, true, false, cond, drop, Bool, ℕ, List, [], ◌∷◌, Option, None, Some, codes, unwrap_or, eqb-true}
use Rattle.std.specs.Prelude.{Err, IfOk, IfSome, IsErrAnd, Ok, Result, pos}
use Rattle.std.specs.List.{list_all, list_any}
use Rattle.std.specs.Str.{bytes_eq}
use Rattle.std.specs.Str.Parse.{starts_with_minus}
use Rattle.std.proofs.lemmas.Bool.{true≢false}
use Rattle.std.proofs.lemmas.Int.{ints}
use Rattle.std.proofs.lemmas.Option.{IfSome_then}
use Rattle.std.proofs.lemmas.Slice.Eq.{bytes_eq-Decides}
use Rattle.clap.specs.Lexer.{without_minus}
use Rattle.clap.specs.Facts.{ValuesPass, groups_of, parser_of_value}
use Rattle.clap.specs.Values.{IsSignedIn}
use Rattle.clap.specs.Words.{Accepts, App, BuildsOrBreaks, BuildsTo, HasMatchesOf, IsParsed, IsParsedFrom, Rule, Shape, Text, app_of, built, found_of, has_subcommand, is_broken, is_buildable, kind_of, one_of, one_text, parser_of, read_as, reading_of, rows_of, shape_of}
use Rattle.clap.specs.declared.builder.command.Command.{Command}
use Rattle.clap.specs.declared.builder.command.Command.TheViews.{out-Command}
use Rattle.clap.specs.declared.builder.value_parser.Reading.{Reading}
use Rattle.clap.specs.declared.builder.value_parser.ValueParser.{ValueParser}
use Rattle.clap.specs.declared.builder.value_parser.ValueParser.TheVariants as parser
use Rattle.clap.specs.declared.error.Error.{Error}
use Rattle.clap.specs.declared.error.ErrorKind.TheVariants.{OutOfMemory}
use Rattle.clap.specs.declared.parser.matches.ArgMatches.{ArgMatches}
use Rattle.clap.specs.declared.parser.matches.Found.{Found}
use Rattle.clap.proofs.SimpleLemmas.{plain_fields}
use Rattle.clap.proofs.WalkLemmas.{both, one_text-rows}
use Rattle.attrd.specs.CommandLine.{command_line}
use Rattle.attrd.specs.Options.{IsFlag, IsWhole, SpellsUpTo, max_connections, max_keep, max_nodes_asked, max_slice}
use Rattle.attrd.proofs.Entries.{IsValue, each_of, needs_value, plain_command, required_there, requires, rule_passes, value_of, value_there}

-- ---- how a value reads

abbrev is_range : ℕ → ValueParser → Bool
is_range most (parser.Signed (pos low) (pos high)) = (low == 1) && (high == most)
is_range most _ = false

range_is : (most : ℕ) (p : ValueParser) → is_range most p ≡ true → p ≡ parser.Signed (pos 1) (pos most)
range_is most (parser.Signed (pos low) (pos high)) e =
    let ends = both (low == 1) (high == most) e in
    ap₂ (λ (a b : ℕ). parser.Signed (pos a) (pos b)) (eqb-true low 1 ends.0) (eqb-true high most ends.1)
range_is most _ e = absurd (true≢false (sym e))

without_minus-cond : (t : Text) → without_minus t ≡ cond (starts_with_minus t) (drop 1 t) t
without_minus-cond [] = refl
without_minus-cond (x ∷ xs) = go (x == 45)
  where
    go : (b : Bool) → unwrap_or (cond b (Some xs) None) (x ∷ xs) ≡ cond b xs (x ∷ xs)
    go true = refl
    go false = refl

signed_spells : (most : ℕ) (t : Text) → IsSignedIn (pos 1) (pos most) t → SpellsUpTo most (without_minus t)
signed_spells most t passed = subst (SpellsUpTo most) (sym (without_minus-cond t)) (go (starts_with_minus t) refl)
  where
    go : (b : Bool) → starts_with_minus t ≡ b → SpellsUpTo most (cond (starts_with_minus t) (drop 1 t) t)
    go true minus =
        let low = rw minus at passed.2 in
        absurd (omega (arith, ints))
    go false minus =
        let numeral = rw minus at passed.0 in
        let low = rw minus at passed.2 in
        let high = rw minus at passed.3 in
        rw minus (numeral, (omega (arith, ints), omega (arith, ints)))

-- a text that an id with the one parser q took: q lets it pass, and says how it reads
abbrev Reads : ValueParser → Text → Type 0
Reads q t = (ignore_case : Bool) × (v : Text) × Accepts ignore_case q v × (t ≡ read_as (reading_of q) v)

value_reads : (c : Command) (id t : Text) (test : ValueParser → Bool) (q : ValueParser) → ((p : ValueParser) → test p ≡ true → p ≡ q)
    → each_of id (λ r. test (parser_of_value r.parser)) (shape_of c).rules ≡ true → IsValue c id t → Reads q t
value_reads c id t test q only each v =
    let by : Rule → Bool = λ r. test (parser_of_value r.parser) in
    let a = v.3.1 in
    let b = v.4.1 in
    let passes : parser_of a ≡ q = only (parser_of a) (rule_passes c id by each v.3.0 a v.3.2 v.3.3 v.3.4.0) in
    let reads : parser_of b ≡ q = only (parser_of b) (rule_passes c id by each v.4.0 b v.4.2 v.4.3 v.4.4.0) in (
      a.ignore_case,
      v.1,
      subst (λ (p : ValueParser). Accepts a.ignore_case p v.1) passes v.3.4.1,
      v.2 ∙ ap (λ (h : Reading). read_as h v.1) (sym v.4.4.1 ∙ ap reading_of reads),
    )

spells : (most : ℕ) (t : Text) → Reads (parser.Signed (pos 1) (pos most)) t → SpellsUpTo most t
spells most t v = subst (SpellsUpTo most) (sym v.3) (signed_spells most v.1 v.2)

abbrev is_bool : ValueParser → Bool
is_bool parser.Bool = true
is_bool _ = false

bool_is : (p : ValueParser) → is_bool p ≡ true → p ≡ parser.Bool
bool_is parser.Bool e = refl
bool_is _ e = absurd (true≢false (sym e))

flag_text : (t : Text) (a b : Bool) → bytes_eq t (codes "true") ≡ a → bytes_eq t (codes "false") ≡ b → (a || b) ≡ true → IsFlag t
flag_text t true b on off e = inl ((bytes_eq-Decides t (codes "true")).0 on)
flag_text t false true on off e = inr ((bytes_eq-Decides t (codes "false")).0 off)
flag_text t false false on off e = cc

flags : (t : Text) → Reads parser.Bool t → IsFlag t
flags t v = subst IsFlag (sym v.3) (flag_text v.1 _ _ refl refl v.2)

-- ---- the command as it stands after a parse

-- what is asked of it
pub record IsFit (s : Shape) : Type 0 where
  pub plain : s.is_plain ≡ true
  pub connections : each_of (codes "connections") (λ r. is_range max_connections (parser_of_value r.parser)) s.rules ≡ true
  pub slice : each_of (codes "slice") (λ r. is_range max_slice (parser_of_value r.parser)) s.rules ≡ true
  pub keep : each_of (codes "keep") (λ r. is_range max_keep (parser_of_value r.parser)) s.rules ≡ true
  pub nodes : each_of (codes "nodes") (λ r. is_range max_nodes_asked (parser_of_value r.parser)) s.rules ≡ true
  pub cut_off : each_of (codes "cut-off") (λ r. is_bool (parser_of_value r.parser)) s.rules ≡ true
  pub index : each_of (codes "index") (λ r. is_bool (parser_of_value r.parser)) s.rules ≡ true
  pub gather : each_of (codes "gather") (λ r. is_bool (parser_of_value r.parser)) s.rules ≡ true
  pub work : each_of (codes "work") (λ r. is_bool (parser_of_value r.parser)) s.rules ≡ true
  pub grammar : each_of (codes "GRAMMAR") needs_value s.rules ≡ true
  pub tree : each_of (codes "TREE") needs_value s.rules ≡ true
  pub aspects : each_of (codes "ASPECT") needs_value s.rules ≡ true

fit_before : IsFit command_line.top
fit_before = record { plain = refl; connections = refl; slice = refl; keep = refl; nodes = refl; cut_off = refl; index = refl; gather = refl; work = refl; grammar = refl; tree = refl; aspects = refl }

fit_built : IsFit (built command_line).top
fit_built = record { plain = refl; connections = refl; slice = refl; keep = refl; nodes = refl; cut_off = refl; index = refl; gather = refl; work = refl; grammar = refl; tree = refl; aspects = refl }

-- a number that is there is spelled within its range
number_there : (c : Command) (f : Found) (id : Text) (most : ℕ) → ValuesPass c f → groups_of c ≡ [] → (id ≡ [] → ⊥)
    → each_of id (λ r. is_range most (parser_of_value r.parser)) (shape_of c).rules ≡ true → IfSome (one_of id (rows_of f)) (SpellsUpTo most)
number_there c f id most values none named each = subst (λ (o : Option Text). IfSome o (SpellsUpTo most)) (one_text-rows f id)
    (IfSome_then (one_text f id) (value_of c f id values none named) (λ t v. spells most t (value_reads c id t (is_range most) _ (range_is most) each v)))

-- and a flag as one
flag_there : (c : Command) (f : Found) (id : Text) → ValuesPass c f → groups_of c ≡ [] → (id ≡ [] → ⊥)
    → each_of id (λ r. is_bool (parser_of_value r.parser)) (shape_of c).rules ≡ true → IfSome (one_of id (rows_of f)) IsFlag
flag_there c f id values none named each = subst (λ (o : Option Text). IfSome o IsFlag) (one_text-rows f id)
    (IfSome_then (one_text f id) (value_of c f id values none named) (λ t v. flags t (value_reads c id t is_bool _ bool_is each v)))

pub whole_rows : (old new : Command) (m : ArgMatches) → app_of old ≡ command_line → IsFit (shape_of new) → BuildsTo old new
    → ((out-Command new).has_globals ≡ false → IsParsed new (found_of m) (has_subcommand m)) → IsWhole (rows_of (found_of m))
whole_rows old new m same fit builds parses =
    let f = found_of m in
    let fields = plain_fields old (ap (λ (a : App). a.top.is_plain) same) in
    let plain = plain_command old fields.groups (ap (λ (a : App). list_all (λ r. r.is_simple && r.is_free) a.top.rules) same) in
    let negates : (out-Command old).subcommand_negates_reqs ≡ false = ap (λ (a : App). a.top.subcommand_negates_reqs) same in
    let from : IsParsedFrom old m = record { built = new; from = builds; parsed = parses } in
    let there = λ (id : Text) (wanted : list_any (requires id) command_line.top.rules ≡ true).
    required_there old m from plain fields.globals negates id (ap (λ (a : App). list_any (requires id) a.top.rules) same ∙ wanted) in
    let none = (plain_fields new fit.plain).groups in
    let values = (parses (plain_fields new fit.plain).globals).values in
    record {
      connections = number_there new f (codes "connections") max_connections values none (λ e. cc) fit.connections;
      slice = number_there new f (codes "slice") max_slice values none (λ e. cc) fit.slice;
      keep = number_there new f (codes "keep") max_keep values none (λ e. cc) fit.keep;
      nodes = number_there new f (codes "nodes") max_nodes_asked values none (λ e. cc) fit.nodes;
      cut_off = flag_there new f (codes "cut-off") values none (λ e. cc) fit.cut_off;
      index = flag_there new f (codes "index") values none (λ e. cc) fit.index;
      gather = flag_there new f (codes "gather") values none (λ e. cc) fit.gather;
      work = flag_there new f (codes "work") values none (λ e. cc) fit.work;
      grammar = value_there new f (codes "GRAMMAR") values none (λ e. cc) fit.grammar (there (codes "GRAMMAR") refl);
      tree = value_there new f (codes "TREE") values none (λ e. cc) fit.tree (there (codes "TREE") refl);
      aspects = value_there new f (codes "ASPECT") values none (λ e. cc) fit.aspects (there (codes "ASPECT") refl);
    }

-- and so after a parse that succeeds, where the command is built or not
pub rows_after_parse : (old new : Command) (words : List Text) (r : Result ArgMatches Error) → app_of old ≡ command_line → BuildsOrBreaks old new
    → (is_broken new ≡ true → IsErrAnd r (λ e. kind_of e ≡ OutOfMemory))
    → IfOk r (λ m. BuildsTo old new × ((out-Command new).has_globals ≡ false → IsParsed new (found_of m) (has_subcommand m)) × HasMatchesOf (app_of old) words m)
    → IfOk r (λ m. IsWhole (rows_of (found_of m)))
rows_after_parse old new words (Err e) same after fails parsed = tt
rows_after_parse old new words (Ok m) same after fails parsed =
    whole_rows old new m same (elim after [
      | inl broken ↦ absurd (fails broken)
      | inr b ↦ elim b.2 [
        | inl stays ↦ subst IsFit (ap (λ (a : App). a.top) (sym (stays ∙ same))) fit_before
        | inr builds ↦
            let is : app_of new ≡ built command_line = builds (ap is_buildable same) ∙ ap built same in
            subst IsFit (ap (λ (a : App). a.top) (sym is)) fit_built
      ]
    ]) parsed.0 parsed.1
