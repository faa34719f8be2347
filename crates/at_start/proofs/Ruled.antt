-- Which files were read as aspects, and which fault of aspect files is told.
use Rattle.std.proofs.Common.{◌≡◌, ℕ, ◌+◌, ◌<◌, List, [], ◌∷◌, ◌++◌, length, map, take, drop, get_or, Option, Some, None, Result, Ok, Err, inl, inr, refl, suc, sym, ap, ◌∙◌, subst, add-zero, append-nil, append_assoc, arith}
use Rattle.std.proofs.lemmas.List.{take-append-drop, take_more, map-append, length-map, length-take-le}
use Rattle.std.proofs.lemmas.Option.{none-some}
use Rattle.std.specs.Result.{IfOk, IfErr}
use Rattle.at_model.specs.Classes.{Classes}
use Rattle.at_model.specs.Rules.{Rules}
use Rattle.at_model.specs.WellFormed.{IsHierarchy}
use Rattle.at_rules.specs.Circular.{AreCircularLazy}
use Rattle.at_text.specs.declared.place.Place.{Place}
use Rattle.at_jrag.specs.Syntax.{Aspect}
use Rattle.at_kinds.specs.declared.arguments.Arguments.{Arguments}
use Rattle.at_typing.specs.Building.{Builds}
use Rattle.at_typing.specs.Located.{Located, located}
use Rattle.at_typing.specs.declared.fault.Breach.{Breach}
use Rattle.at_text.specs.declared.fault.Failure.{Failure}
use Rattle.at_text.specs.declared.fault.Failure.TheVariants.{For, Memory as Lacking}
use Rattle.at_java.specs.Aliases.{Alias}
use Rattle.at_start.specs.Lists.{aliases_in}
use Rattle.at_model.specs.Declarations.{Declarations, Place as Mark, classes_of}
use Rattle.at_java.specs.Files.{Contents}
use Rattle.at_start.specs.Constants.{Placed, constants_from, in_file, planted_classes}
use Rattle.at_start.specs.ConstantFaults.{Tells, constants_fault}
use Rattle.at_start.specs.AspectFiles.{GivesRules, Holds, AllGive, AllHold, BuildsBehind, IsReadingFaultOf, IsUnread, IsAspectFault, IsRuleFault, IsRuled, Makes, arguments_in, rule_code, no_constant, no_file, breaks}
use Rattle.at_start.specs.Redeclaring.{Reads, fault_in, read_in}
use Rattle.at_start.specs.declared.code.Code.{Code}
use Rattle.at_start.specs.declared.language.Language.{Language}
use Rattle.at_start.specs.Starts.{aspect_bytes}
use Rattle.at_start.specs.StartFaults.{of_file}
use Rattle.at_start.specs.declared.files.Source.{Source}
use Rattle.at_text.specs.declared.fault.Fault.{Fault}
use Rattle.at_text.specs.declared.fault.Fault.TheVariants as fault
use Rattle.at_start.specs.declared.fault.StartFault.{StartFault}
use Rattle.at_start.specs.declared.fault.StartFault.TheVariants.{Refused, Memory}

some_of : {X : Type 0} {x y : X} → Some x ≡ Some y → x ≡ y
some_of e = cc

-- one more file
hold_more : (language : Language) (names : List Alias) (fs : List (List ℕ)) (cs : List Contents) (f : List ℕ) (a : Contents)
    → AllHold language names fs cs → Holds language names f a → AllHold language names (fs ++ f ∷ []) (cs ++ a ∷ [])
hold_more language names [] [] f a h k = (k, tt)
hold_more language names [] (b ∷ bs) f a h k = absurd h
hold_more language names (g ∷ gs) [] f a h k = absurd h
hold_more language names (g ∷ gs) (b ∷ bs) f a h k = (h.0, hold_more language names gs bs f a h.1 k)

front_more : {X : Type 0} (xs : List X) (i : ℕ) (x : X) → i < length xs → x ≡ get_or xs i x → take (i + 1) xs ≡ take i xs ++ x ∷ []
front_more xs i x within is = take_more xs i x within ∙ ap (λ y. take i xs ++ y ∷ []) (sym is)

split_there : {X : Type 0} (xs : List X) (i : ℕ) (x : X) → i < length xs → x ≡ get_or xs i x → xs ≡ take i xs ++ x ∷ drop (i + 1) xs
split_there xs i x within is = sym (take-append-drop (i + 1) xs) ∙ ap (λ l. l ++ drop (i + 1) xs) (front_more xs i x within is) ∙ append_assoc (take i xs) (x ∷ []) (drop (i + 1) xs)

-- constants of one more file
constants_more : (n : ℕ) (cs : List Contents) (c : Contents) → constants_from n (cs ++ c ∷ []) ≡ constants_from n cs ++ in_file (n + length cs) c.constants
constants_more n [] c =
    append-nil (in_file n c.constants) ∙ ap (λ m. in_file m c.constants) (sym (add-zero n))
constants_more n (d ∷ ds) c =
    let count : n + 1 + length ds ≡ n + length (d ∷ ds) = omega arith in
    ap (λ ks. in_file n d.constants ++ ks) (constants_more (n + 1) ds c ∙ ap (λ m. constants_from (n + 1) ds ++ in_file m c.constants) count)
    ∙ sym (append_assoc (in_file n d.constants) (constants_from (n + 1) ds) (in_file (n + length (d ∷ ds)) c.constants))

held_lengths : (language : Language) (names : List Alias) (fs : List (List ℕ)) (cs : List Contents) → AllHold language names fs cs → length cs ≡ length fs
held_lengths language names [] [] h = refl
held_lengths language names [] (c ∷ cs) h = absurd h
held_lengths language names (f ∷ fs) [] h = absurd h
held_lengths language names (f ∷ fs) (c ∷ cs) h = ap suc (held_lengths language names fs cs h.1)

-- no file as yet
pub none_given_yet : (language : Language) (names : List Alias) (aspects : List (List Aspect)) (constants : List Placed) → aspects ≡ []
    → constants ≡ [] → AllGive language names [] aspects constants
none_given_yet language names aspects constants none none' = record { contents = []; hold = tt; aspects_are = none; constants_are = none' }

-- one more file was read
pub one_more_read : (language : Language) (names : List Alias) (sources : List Source) (i : ℕ) (x : Source) (c : Contents)
    (aspects later : List (List Aspect)) (constants more : List Placed) → i < length sources → x ≡ get_or sources i x
    → AllGive language names (aspect_bytes (take i sources)) aspects constants → Holds language names x.bytes.items c
    → later ≡ aspects ++ c.aspects ∷ [] → more ≡ constants ++ in_file (i + 1) c.constants
    → AllGive language names (aspect_bytes (take (i + 1) sources)) later more
one_more_read language names sources i x c aspects later constants more within is h k same same' =
    let files : aspect_bytes (take (i + 1) sources) ≡ aspect_bytes (take i sources) ++ x.bytes.items ∷ [] = ap aspect_bytes (front_more sources i x within is) ∙ map-append (λ (s : Source). s.bytes.items) (take i sources) (x ∷ []) in
    let held = hold_more language names (aspect_bytes (take i sources)) h.contents x.bytes.items c h.hold k in
    let count : length h.contents ≡ i = held_lengths language names (aspect_bytes (take i sources)) h.contents h.hold
    ∙ length-map (take i sources) (λ (s : Source). s.bytes.items) ∙ length-take-le i sources (omega (arith, within)) in
    let number : 1 + length h.contents ≡ i + 1 = omega (arith, count) in record {
      contents = h.contents ++ c ∷ [];
      hold = subst (λ (fs : List (List ℕ)). AllHold language names fs (h.contents ++ c ∷ [])) (sym files) held;
      aspects_are = same ∙ ap (λ as'. as' ++ c.aspects ∷ []) h.aspects_are ∙ sym (map-append (λ (d : Contents). d.aspects) h.contents (c ∷ []));
      constants_are = same' ∙ ap (λ ks. ks ++ in_file (i + 1) c.constants) h.constants_are
          ∙ ap (λ m. constants_from 1 h.contents ++ in_file m c.constants) (sym number) ∙ sym (constants_more 1 h.contents c);
    }

-- the file at that position is the first that could not be read
pub unread_at : (language : Language) (names : List Alias) (sources : List Source) (i : ℕ) (x : Source) (contents : List Contents)
    (f : Fault Code) → i < length sources → x ≡ get_or sources i x
    → AllHold language names (aspect_bytes (take i sources)) contents → IsReadingFaultOf language names x.bytes.items f
    → IsUnread language names (aspect_bytes sources) (of_file (i + 1) f)
unread_at language names sources i x contents (fault.Refused c at) within is h k = record {
  front = aspect_bytes (take i sources);
  rest = aspect_bytes (drop (i + 1) sources);
  bytes = x.bytes.items;
  contents = contents;
  split = ap aspect_bytes (split_there sources i x within is) ∙ map-append (λ (s : Source). s.bytes.items) (take i sources) (x ∷ drop (i + 1) sources);
  hold = h;
  refuses = k;
  number = ap (λ n. n + 1) (sym (length-map (take i sources) (λ (s : Source). s.bytes.items) ∙ length-take-le i sources (omega (arith, within))));
}
unread_at language names sources i x contents fault.Memory within is h k = tt

pub unread_refuses : (language : Language) (marks : List Mark) (ds : Declarations) (files : List (List ℕ)) (e : StartFault)
    → IsUnread language (aliases_in language (classes_of ds)) files e
    → IsAspectFault language marks ds files e
unread_refuses language marks ds files (Refused file c (Some at)) h = no_file file c at h
unread_refuses language marks ds files (Refused file c None) h = h
unread_refuses language marks ds files Memory h = h

-- ---- faults that are met before the declarations are gone through

module _ (allowed : Arguments) (classes : Classes) (ds : List Located) where
  pub stray_told : {T : Type 0} (P : T → Type 0) (fault : Option Breach) (e : Failure Breach) → Reads fault P (Err e)
      → BuildsBehind allowed classes fault ds (Err e)
  stray_told P None (For f) reads = absurd (none-some f reads)
  stray_told P (Some g) (For f) reads = sym (some_of reads)
  stray_told P None Lacking reads = tt
  stray_told P (Some g) Lacking reads = tt

  pub built_behind : (others : List Located) (fault : Option Breach) (result : Result Rules (Failure Breach)) → fault ≡ None → others ≡ ds
      → Builds allowed classes others result → BuildsBehind allowed classes fault ds result
  built_behind others None result none same built = subst (λ (xs : List Located). Builds allowed classes xs result) same
      built
  built_behind others (Some f) result none same built = absurd (none-some f (sym none))

builds_of : (allowed : Arguments) (classes : Classes) (fault : Option Breach) (ds : List Located) (rules : Rules)
    → BuildsBehind allowed classes fault ds (Ok rules)
    → Builds allowed classes ds (Ok rules)
builds_of allowed classes None ds rules built = built
builds_of allowed classes (Some f) ds rules built = absurd built

-- rules that aspects make are those of their declarations as they are read
pub made_builds : (language : Language) (classes : Classes) (aspects : List (List Aspect)) (rules : Rules) → Makes language classes aspects (Ok rules)
    → Builds (arguments_in language) classes (located 1 (read_in language classes aspects)) (Ok rules)
made_builds language classes aspects rules made =
    builds_of (arguments_in language) classes (fault_in language classes aspects)
    (located 1 (read_in language classes aspects)) rules made

-- ---- rules

rule_refuses : (language : Language) (marks : List Mark) (ds : Declarations) (files : List (List ℕ)) (aspects : List (List Aspect)) (constants : List Placed)
    (e : StartFault) → AllGive language (aliases_in language (classes_of ds)) files aspects constants → constants_fault marks ds constants ≡ None
    → IsRuleFault language (planted_classes marks ds constants) aspects e → IsAspectFault language marks ds files e
rule_refuses language marks ds files aspects constants (Refused n c at) give stand (f, first, of_number, of_code, of_place) =
    let placed = subst (λ (o : Option Place). IsAspectFault language marks ds files (Refused f.file (rule_code f.code) o))
    (sym of_place) (breaks aspects constants f give stand first) in
    let coded = subst (λ (k : Code). IsAspectFault language marks ds files (Refused f.file k at)) (sym of_code) placed in
    subst (λ (m : ℕ). IsAspectFault language marks ds files (Refused m c at)) (sym of_number) coded
rule_refuses language marks ds files aspects constants Memory give stand says = tt

constant_refuses : (language : Language) (marks : List Mark) (ds : Declarations) (files : List (List ℕ)) (aspects : List (List Aspect)) (constants : List Placed)
    (e : StartFault) → AllGive language (aliases_in language (classes_of ds)) files aspects constants
    → Tells (constants_fault marks ds constants) e → IsAspectFault language marks ds files e
constant_refuses language marks ds files aspects constants (Refused file c (Some at)) give told =
    no_constant aspects constants (record { file = file; code = c; at = at }) give told
constant_refuses language marks ds files aspects constants (Refused file c None) give told = told
constant_refuses language marks ds files aspects constants Memory give told = tt

-- the rules of classes in which constants stand are those of what was read
pub ruled_by : (language : Language) (marks : List Mark) (ds : Declarations) (classes : Classes) (aspects : List (List Aspect)) (constants : List Placed)
    (result : Result Rules StartFault) → classes ≡ planted_classes marks ds constants → constants_fault marks ds constants ≡ None → IsHierarchy classes
    → IfOk result AreCircularLazy → IfOk result (λ r. Makes language classes aspects (Ok r)) → IfErr result (IsRuleFault language classes aspects)
    → IsRuled language marks ds aspects constants result
ruled_by language marks ds classes aspects constants (Ok r) is stand hierarchy lazy built says =
    (stand, subst IsHierarchy is hierarchy, lazy, subst (λ (k : Classes). Makes language k aspects (Ok r)) is built)
ruled_by language marks ds classes aspects constants (Err e) is stand hierarchy lazy built says =
    inr (stand, subst (λ (k : Classes). IsRuleFault language k aspects e) is says)

module _ (language : Language) (marks : List Mark) (ds : Declarations) (files : List (List ℕ)) (aspects : List (List Aspect)) (constants : List Placed)
    (give : AllGive language (aliases_in language (classes_of ds)) files aspects constants) where
  -- the rules are those of files that were read
  pub given_by : (result : Result Rules StartFault) → IsRuled language marks ds aspects constants result
      → IfOk result (λ r. GivesRules language marks ds files r)
  given_by (Ok r) (stand, hierarchy, lazy, built) = record { aspects = aspects; constants = constants; given = give; stand = stand; built = built }
  given_by (Err e) ruled = tt

  -- a fault is one of files that were read
  pub refused_by : (result : Result Rules StartFault) → IsRuled language marks ds aspects constants result
      → IfErr result (IsAspectFault language marks ds files)
  refused_by (Ok r) ruled = tt
  refused_by (Err e) (inl told) = constant_refuses language marks ds files aspects constants e give told
  refused_by (Err e) (inr (stand, says)) = rule_refuses language marks ds files aspects constants e give stand says

pub lazy_by : (language : Language) (marks : List Mark) (ds : Declarations) (aspects : List (List Aspect)) (constants : List Placed) (result : Result Rules StartFault)
    → IsRuled language marks ds aspects constants result → IfOk result AreCircularLazy
lazy_by language marks ds aspects constants (Ok r) (stand, hierarchy, lazy, built) = lazy
lazy_by language marks ds aspects constants (Err e) ruled = tt
