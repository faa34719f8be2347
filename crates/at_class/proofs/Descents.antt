-- Ways down through the classes, one class at a time.
use Rattle.std.proofs.Common.{◌≡◌, ℕ, zero, suc, ◌+◌, ◌-◌, ◌<◌, ◌⊎◌, inl, inr, List, [], ◌∷◌, ◌++◌, length, take, drop, reverse, get_or, refl, ap, sym, ◌∙◌, subst, arith, append-nil, append_assoc, length-append, Option, Some, None, true, false, true≢false, eq-eqb}
use Rattle.std.specs.Prelude.{nat_eq, set, replicate, unwrap_or}
use Rattle.std.specs.Option.{option_eq}
use Rattle.std.proofs.lemmas.Bool.{eqb-true}
use Rattle.std.specs.List.{flat_map, slice_get}
use Rattle.std.proofs.lemmas.List.{reverse-append}
use Rattle.std.proofs.lemmas.List.Concat.{flat_map-append}
use Rattle.at_model.specs.Classes.{Classes, Component, chain, chain_within, own_of, parent_of, parts}
use Rattle.at_model.specs.Declarations.{above, max_parts}
use Rattle.at_class.proofs.Chains.{chain_within-none}
use Rattle.at_class.specs.Taken.{AreTaken, Grows, IsFirst, is_taken_at}
use Rattle.at_class.specs.Ways.{AreLed, AreFound, Holds, IsFound, IsWay, Knows, all_of, classes_on, end_of, known_at, on_way, top_of}
use Rattle.at_class.specs.declared.taken.TakenNames.{TakenNames}
use Rattle.at_class.specs.declared.found.Found.{Found}
use Rattle.at_class.specs.declared.way.Level.{Level}
use Rattle.at_class.specs.declared.way.Way.{Way}

-- chains --------------------------------------------------------------------------------------------------------------

pub step : (classes : Classes) → AreLed classes → (c : ℕ) → chain_within (length classes) classes (Some c) ≡ c ∷ chain_within (length classes) classes (parent_of classes c)
unfolding chain
step classes led c = led c

end_is : (classes : Classes) → AreLed classes → (o : Option ℕ) → end_of (chain_within (length classes) classes o) ≡ o
end_is classes led None = ap end_of (chain_within-none classes (length classes))
end_is classes led (Some c) = ap end_of (step classes led c)

nothing_before : (front : List ℕ) (c : ℕ) (rest : List ℕ) → [] ≡ front ++ c ∷ rest → ⊥
nothing_before [] c rest e = absurd (cc)
nothing_before (x ∷ xs) c rest e = absurd (cc)

-- what follows a class in a chain is what is above it
pub rest_above : (classes : Classes) → AreLed classes → (from : Option ℕ) (front : List ℕ) (c : ℕ) (rest : List ℕ)
    → chain_within (length classes) classes from ≡ front ++ c ∷ rest → rest ≡ above classes c
rest_above classes led None front c rest e = absurd (nothing_before front c rest (sym (chain_within-none classes (length classes)) ∙ e))
rest_above classes led (Some d) [] c rest e =
    let f : d ∷ above classes d ≡ c ∷ rest = sym (step classes led d) ∙ e in
    let same : d ≡ c = ap (λ xs. unwrap_or (end_of xs) d) f in
    sym (ap (drop 1) f) ∙ ap (above classes) same
rest_above classes led (Some d) (x ∷ xs) c rest e = rest_above classes led (parent_of classes d) xs c rest (ap (drop 1) (sym (step classes led d) ∙ e))

-- optional classes
pub same : (a b : Option ℕ) → option_eq nat_eq a b ≡ true → a ≡ b
same None None e = refl
same None (Some d) e = absurd (true≢false (sym e))
same (Some c) None e = absurd (true≢false (sym e))
same (Some c) (Some d) e = ap Some (eqb-true c d e)

self_same : (a : Option ℕ) → option_eq nat_eq a a ≡ true
self_same None = refl
self_same (Some c) = eq-eqb c c refl

-- components ----------------------------------------------------------------------------------------------------------

pub all_more : (classes : Classes) (c : ℕ) (up : List ℕ) → all_of classes (c ∷ up) ≡ all_of classes up ++ own_of classes c
all_more classes c up =
    ap (flat_map (own_of classes)) (reverse-append (c ∷ []) up)
    ∙ flat_map-append (own_of classes) (reverse up) (c ∷ [])
    ∙ ap (λ ps. all_of classes up ++ ps) (append-nil (own_of classes c))

pub all_parts : (classes : Classes) → AreLed classes → (c : ℕ) → parts classes c ≡ all_of classes (above classes c) ++ own_of classes c
all_parts classes led c = ap (all_of classes) (led c) ∙ all_more classes c (above classes c)

-- ways ----------------------------------------------------------------------------------------------------------------

turned : (levels longer : List Level) (l : Level) → longer ≡ levels ++ l ∷ [] → reverse longer ≡ l ∷ reverse levels
turned levels longer l e = ap reverse e ∙ reverse-append levels (l ∷ [])

pub longer : (levels more : List Level) (l : Level) (c : ℕ) → more ≡ levels ++ l ∷ [] → l.class ≡ c → on_way more ≡ c ∷ on_way levels
longer levels more l c e f = ap classes_on (turned levels more l e) ∙ ap (λ b. b ∷ on_way levels) f

pub no_way_yet : (classes : Classes) (levels : List Level) (t : TakenNames) → levels ≡ [] → AreTaken [] t.names.keys t.accessors.keys → IsWay classes levels t
no_way_yet classes levels t e h = subst (λ ls. IsWay classes ls t) (sym e) (record {
  led = sym (chain_within-none classes (length classes));
  holds = h;
})

pub one_less : (levels rest : List Level) (l : Level) → levels ≡ rest ++ l ∷ [] → length rest < length levels
one_less levels rest l e = let n : length levels ≡ length rest + 1 = ap length e ∙ length-append rest (l ∷ []) in omega (arith, n)

pub one_missing_less : (missing rest : List ℕ) (c : ℕ) → missing ≡ rest ++ c ∷ [] → length rest < length missing
one_missing_less missing rest c e = let n : length missing ≡ length rest + 1 = ap length e ∙ length-append rest (c ∷ []) in omega (arith, n)

-- one class less is missing
pub missing_less : (whole missing rest on : List ℕ) (c : ℕ) → whole ≡ missing ++ on → missing ≡ rest ++ c ∷ [] → whole ≡ rest ++ c ∷ on
missing_less whole missing rest on c e f = e ∙ ap (λ ms. ms ++ on) f ∙ append_assoc rest (c ∷ []) on

-- a way to nowhere stays one
pub still : (classes : Classes) (levels rest : List Level) (t : TakenNames) → levels ≡ [] → rest ≡ [] → IsWay classes levels t → IsWay classes rest t
still classes levels rest t e f w = subst (λ ls. IsWay classes ls t) (e ∙ sym f) w

pub none_left : {A : Type 0} (xs : List A) → length xs ≡ 0 → xs ≡ []
none_left [] e = refl
none_left (x ∷ xs) e = absurd (omega (arith, e))

pub popped : (classes : Classes) (levels rest : List Level) (l : Level) (t s : TakenNames) → AreLed classes → levels
    ≡ rest ++ l ∷ [] → s.names.keys ≡ take l.names t.names.keys → s.accessors.keys ≡ take l.accessors t.accessors.keys
    → IsWay classes levels t → IsWay classes rest s
popped classes levels rest l t s led e f g w =
    let n = length classes in
    let r : reverse levels ≡ l ∷ reverse rest = turned rest levels l e in
    let up : l.class ∷ on_way rest ≡ chain_within n classes (Some l.class) = subst (λ ls. classes_on ls ≡ chain_within n classes (end_of (classes_on ls))) r w.led in
    let below : on_way rest ≡ chain_within n classes (parent_of classes l.class) = ap (drop 1) (up ∙ step classes led l.class) in
    record {
      led = below ∙ ap (chain_within n classes) (sym (ap end_of below ∙ end_is classes led (parent_of classes l.class)));
      holds = subst (λ ks. Holds classes (reverse rest) ks s.accessors.keys) (sym f)
          (subst (λ ks. Holds classes (reverse rest) (take l.names t.names.keys) ks) (sym g) (subst (λ ls. Holds classes ls t.names.keys t.accessors.keys) r w.holds).2);
    }

-- a way to the superclass is there, or none at all
pub missing_none : (classes : Classes) (levels : List Level) (t : TakenNames) (class : Option ℕ) (v : List ℕ) → v ≡ []
    → option_eq nat_eq (top_of levels) class ≡ true → IsWay classes levels t
    → chain_within (length classes) classes class ≡ v ++ on_way levels
missing_none classes levels t class v none e w = ap (chain_within (length classes) classes) (sym (same (top_of levels) class e)) ∙ sym w.led ∙ ap (λ ms. ms ++ on_way levels) (sym none)

pub missing_all : (classes : Classes) (levels : List Level) (class : Option ℕ) (v : List ℕ)
    → v ≡ chain_within (length classes) classes class → option_eq nat_eq (top_of levels) class ≡ false
    → (top_of levels ≡ class) ⊎ (levels ≡ []) → chain_within (length classes) classes class ≡ v ++ on_way levels
missing_all classes levels class v all e either = sym all ∙ sym (append-nil v) ∙ ap (λ ls. v ++ on_way ls) (sym none)
  where
    none : levels ≡ []
    none = elim either [
      | inl there ↦ absurd (true≢false (sym (ap (λ o. option_eq nat_eq o class) there ∙ self_same class) ∙ e))
      | inr nothing ↦ nothing
    ]

-- the last level
more_there : (x : Level) (levels : List Level) (l : Level) → (rest : List Level) × (levels ≡ rest ++ l ∷ []) → (rest : List Level) × (x ∷ levels ≡ rest ++ l ∷ [])
more_there x levels l h = (x ∷ h.0, ap (λ ls. x ∷ ls) h.1)

pub last_there : (levels : List Level) (l : Level) → slice_get levels (length levels - 1) ≡ Some l → (rest : List Level) × (levels ≡ rest ++ l ∷ [])
last_there [] l e = absurd (cc)
last_there (x ∷ []) l e = ([], ap (λ o. unwrap_or o x ∷ []) e)
last_there (x ∷ y ∷ ys) l e =
    let n : length (x ∷ y ∷ ys) - 1 ≡ suc (length (y ∷ ys) - 1) = omega arith in
    more_there x (y ∷ ys) l (last_there (y ∷ ys) l (sym (ap (slice_get (x ∷ y ∷ ys)) n) ∙ e))

pub last_nowhere : (levels : List Level) → slice_get levels (length levels - 1) ≡ None → levels ≡ []
last_nowhere [] e = refl
last_nowhere (x ∷ xs) e = absurd (there x xs (sym e))
  where
    never : (x : Level) → None ≡ Some x → ⊥
    never x h = cc

    there : (x : Level) (xs : List Level) → None ≡ slice_get (x ∷ xs) (length (x ∷ xs) - 1) → ⊥
    there x [] h = never x h
    there x (y ∷ ys) h =
        let n : length (x ∷ y ∷ ys) - 1 ≡ suc (length (y ∷ ys) - 1) = omega arith in
        there y ys (h ∙ ap (slice_get (x ∷ y ∷ ys)) n)

pub top_there : (levels : List Level) (l : Level) → slice_get levels (length levels - 1) ≡ Some l → Some l.class ≡ top_of levels
top_there levels l e = let (rest, f) = last_there levels l e in sym (ap end_of (longer rest levels l l.class f refl))

-- the room that is left
pub room_there : (classes : Classes) (levels : List Level) (l : Level) (t : TakenNames) → slice_get levels (length
    levels - 1) ≡ Some l → IsWay classes levels t → l.room ≡ suc max_parts - length (all_of classes (on_way levels))
room_there classes levels l t e w =
    let (rest, f) = last_there levels l e in
    let r : reverse levels ≡ l ∷ reverse rest = turned rest levels l f in
    (subst (λ ls. Holds classes ls t.names.keys t.accessors.keys) r w.holds).1 ∙ ap (λ ls. suc max_parts - length (all_of classes (classes_on ls))) (sym r)

pub room_all : (classes : Classes) (levels : List Level) → slice_get levels (length levels - 1) ≡ None → suc max_parts ≡ suc max_parts - length (all_of classes (on_way levels))
room_all classes levels e = sym (ap (λ ls. suc max_parts - length (all_of classes (on_way ls))) (last_nowhere levels e))

-- what the names are, is the same up and down
pub taken_there : (classes : Classes) (levels : List Level) (t : TakenNames) → IsWay classes levels t → AreTaken (all_of classes (on_way levels)) t.names.keys t.accessors.keys
taken_there classes levels t w = by (reverse levels) w.holds
  where
    by : (ls : List Level) → Holds classes ls t.names.keys t.accessors.keys → AreTaken (all_of classes (classes_on ls)) t.names.keys t.accessors.keys
    by [] h = h
    by (l ∷ ls) h = h.0

less_room : (m n k : ℕ) (whole : ℕ) → whole ≡ n + k → (m - n) - k ≡ m - whole
less_room m n k whole e = omega (arith, e)

pub entered : (classes : Classes) (levels more : List Level) (l : Level) (t s : TakenNames) (c : ℕ)
    (own : List Component) → AreLed classes → IsWay classes levels t → on_way levels ≡ above classes c
    → own ≡ own_of classes c → more ≡ levels ++ l ∷ []
    → l.class ≡ c → l.names ≡ length t.names.keys → l.accessors ≡ length t.accessors.keys → l.room ≡ (suc max_parts - length (all_of classes (on_way levels))) - length own
    → Grows t s → AreTaken (all_of classes (on_way levels) ++ own) s.names.keys s.accessors.keys → IsWay classes more s
entered classes levels more l t s c own led w up is e f g h room grows taken =
    let n = length classes in
    let on : on_way more ≡ c ∷ on_way levels = longer levels more l c e f in
    let all : all_of classes (classes_on (l ∷ reverse levels)) ≡ all_of classes (on_way levels) ++ own =
    ap (λ b. all_of classes (b ∷ on_way levels)) f ∙ all_more classes c (on_way levels) ∙ ap (λ ps. all_of classes (on_way levels) ++ ps) (sym is) in
    record {
      led = on ∙ ap (λ cs. c ∷ cs) up ∙ sym (step classes led c) ∙ ap (chain_within n classes) (sym (ap end_of on));
      holds = subst (λ ls. Holds classes ls s.names.keys s.accessors.keys) (sym (turned levels more l e)) (
        subst (λ ps. AreTaken ps s.names.keys s.accessors.keys) (sym all) taken,
        room ∙ less_room (suc max_parts) (length (all_of classes (on_way levels))) (length own) (length (all_of classes
            (classes_on (l ∷ reverse levels)))) (ap length all ∙ length-append (all_of classes (on_way levels)) own),
        subst (λ ks. Holds classes (reverse levels) ks (take l.accessors s.accessors.keys)) (sym (ap (λ i. take i s.names.keys) g ∙ grows.0))
            (subst (λ ks. Holds classes (reverse levels) t.names.keys ks) (sym (ap (λ i. take i s.accessors.keys) h ∙ grows.1)) w.holds),
      );
    }

pub found_there : (classes : Classes) (up : List ℕ) (f : Found) (c : ℕ) (own : List Component) → AreLed classes
    → up ≡ above classes c → own ≡ own_of classes c → IsFirst (is_taken_at (all_of classes up) own) f.twice
    → f.room ≡ (suc max_parts - length (all_of classes up)) - length own → IsFound classes c f
found_there classes up f c own led above_it is first room = record {
  twice = subst (λ ps. IsFirst (is_taken_at ps (own_of classes c)) f.twice) (ap (all_of classes) above_it) (subst (λ ps. IsFirst (is_taken_at (all_of classes up) ps) f.twice) is first);
  room = room ∙ less_room (suc max_parts) (length (all_of classes up)) (length own) (length (parts classes c))
      (ap length (all_parts classes led c ∙ ap (λ cs. all_of classes cs ++ own_of classes c) (sym above_it) ∙ ap (λ ps. all_of classes up ++ ps) (sym is)) ∙ length-append (all_of classes up) own);
}

-- what is known ------------------------------------------------------------------------------------------------------

known_set : (old : List (Option Found)) (c d : ℕ) (v : Option Found) → (known_at (set old c v) d ≡ known_at old d) ⊎ ((d ≡ c) × (known_at (set old c v) d ≡ v))
known_set [] c d v = inl refl
known_set (o ∷ os) zero zero v = inr (refl, refl)
known_set (o ∷ os) zero (suc d) v = inl refl
known_set (o ∷ os) (suc c) zero v = inl refl
known_set (o ∷ os) (suc c) (suc d) v = elim (known_set os c d v) [
  | inl e ↦ inl e
  | inr e ↦ inr (ap suc e.0, e.1)
]

some_same : {a b : Found} → Some a ≡ Some b → a ≡ b
some_same {a} e = ap (λ o. unwrap_or o a) e

pub knows_more : (classes : Classes) (way : Way) (old new : List (Option Found)) (c : ℕ) (f : Found)
    → IsWay classes way.levels.items way.taken → ((d : ℕ) (g : Found) → known_at old d ≡ Some g → IsFound classes d g)
    → IsFound classes c f → new ≡ set old c (Some f) → Knows classes way new
knows_more classes way old new c f w right found e = subst (Knows classes way) (sym e) (record {
  way = w;
  right = λ d g h. elim (known_set old c d (Some f)) [
    | inl same ↦ right d g (sym same ∙ h)
    | inr here ↦ subst (λ k. IsFound classes k g) (sym here.0) (subst (IsFound classes c) (some_same (sym here.1 ∙ h)) found)
  ];
})

none_known : (n c : ℕ) → known_at (replicate n None) c ≡ None
none_known zero c = refl
none_known (suc n) zero = refl
none_known (suc n) (suc c) = none_known n c

pub knows_nothing : (classes : Classes) (way : Way) (found : List (Option Found)) (n : ℕ) → IsWay classes way.levels.items way.taken → found ≡ replicate n None → Knows classes way found
knows_nothing classes way found n w e = subst (Knows classes way) (sym e) (record {
  way = w;
  right = λ d g h. absurd (none_some (sym (none_known n d) ∙ h));
})
  where
    none_some : {g : Found} → None ≡ Some g → ⊥
    none_some h = cc

pub pushed_at : {X : Type 0} (fs : List X) (f : X) (c : ℕ) (d : X) → c < length fs + 1 → ((c < length fs)
    × (get_or (fs ++ f ∷ []) c d ≡ get_or fs c d)) ⊎ ((c ≡ length fs) × (get_or (fs ++ f ∷ []) c d ≡ f))
pushed_at [] f zero d less = inr (refl, refl)
pushed_at [] f (suc c) d less = absurd (omega (arith, less))
pushed_at (g ∷ gs) f zero d less = inl (omega arith, refl)
pushed_at (g ∷ gs) f (suc c) d less = elim (pushed_at gs f c d (omega (arith, less))) [
  | inl e ↦ inl (omega (arith, e.0), e.1)
  | inr e ↦ inr (ap suc e.0, e.1)
]

pub found_none : (classes : Classes) (fs : List Found) → fs ≡ [] → AreFound classes fs 0
found_none classes fs e = record { count = ap length e; each = λ c d less. absurd (omega (arith, less)) }

pub found_more : (classes : Classes) (fs new : List Found) (n : ℕ) (f : Found) → AreFound classes fs n → IsFound classes n f → new ≡ fs ++ f ∷ [] → AreFound classes new (n + 1)
found_more classes fs new n f are here e = subst (λ gs. AreFound classes gs (n + 1)) (sym e) (record {
  count = length-append fs (f ∷ []) ∙ ap (λ m. m + 1) are.count;
  each = λ c d less. elim (pushed_at fs f c d (subst (λ m. c < m + 1) (sym are.count) less)) [
    | inl old ↦ subst (IsFound classes c) (sym old.1) (are.each c d (subst (λ m. c < m) are.count old.0))
    | inr last ↦ subst (IsFound classes c) (sym last.1) (subst (λ k. IsFound classes k f) (sym (last.0 ∙ are.count)) here)
  ];
})
