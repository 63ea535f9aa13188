-- The value of an option passed the option's parser.
use Rattle.std.proofs.Common.{◌≡◌, ◌<◌, ◌^◌, ◌∙◌, ◌==◌, ℕ, zero, suc, Bool, true, false, List, [], ◌∷◌, Option, Some, None, ap, arith, codes, eqb, get_or, inl, inr, length, map, refl, subst, sym}
use Rattle.std.specs.Prelude.{option_map, slice_get}
use Rattle.std.specs.Borrow.{Bor}
use Rattle.std.specs.List.{All, slice_index_or}
use Rattle.std.specs.Str.{bytes_eq}
use Rattle.std.proofs.lemmas.Bool.{and_parts, cases_lt, eqb-false, eqb-true, not-true}
use Rattle.std.proofs.lemmas.List.Elements.{All-get_or}
use Rattle.std.proofs.lemmas.Slice.Eq.{bytes_eq-Decides}
use Rattle.clap.specs.Words.{IsParsedFrom, Rule, Text, app_of, args_of, first_value, found_of, groups_of, matched_of, parser_of, rule_of}
use Rattle.clap.specs.Built.{IsAuto, SameRules}
use Rattle.clap.specs.Facts.{Entry, EntryPasses, PassesArg, ValuesPass, parser_of_value}
use Rattle.clap.specs.Values.{Accepts}
use Rattle.clap.specs.declared.builder.arg.Arg.{Arg}
use Rattle.clap.specs.declared.builder.command.Command.{Command}
use Rattle.clap.specs.declared.builder.command.Command.TheViews.{out-Command}
use Rattle.clap.specs.declared.builder.value_parser.ValueParser.{ValueParser}
use Rattle.clap.specs.declared.parser.matches.ArgMatches.{ArgMatches}
use Rattle.clap.specs.declared.parser.matches.MatchedArg.{MatchedArg}
use Rattle.clap.proofs.CallerLemmas.{entry_by_id}
use Rattle.clap.specs.declared.builder.value_parser.ValueParser.TheVariants as vp
use Rattle.command_line.specs.Words.{AreNumbers, IsNumber, IsWhole, given_by, the_app}

-- each rule with this id has this parser
abbrev pub EachAt : Text → ValueParser → List Rule → Type 0
EachAt id q [] = Unit {0}
EachAt id q (r ∷ rs) = (r.id ≡ id → r.parser ≡ Some q) × EachAt id q rs

each-at : (id : Text) (q : ValueParser) (xs : List Arg) (j : ℕ) (d : Arg) → EachAt id q (map rule_of xs) → j < length xs
    → (slice_index_or xs j d).id.now ≡ id → (slice_index_or xs j d).value_parser ≡ Some q
each-at id q [] j d all lt same = absurd (omega arith)
each-at id q (x ∷ xs) zero d all lt same = all.0 same
each-at id q (x ∷ xs) (suc j) d all lt same = each-at id q xs j d all.1 (omega arith) same

abbrev EachSimple : List Rule → Type 0
EachSimple [] = Unit {0}
EachSimple (r ∷ rs) = (r.is_simple ≡ true) × EachSimple rs

empty : {X : Type 0} (xs : List X) → (length xs == 0) ≡ true → xs ≡ []
empty [] e = refl
empty (x ∷ xs) e = let h : length (x ∷ xs) ≡ 0 = eqb-true (length (x ∷ xs)) 0 e in absurd (omega arith)

no-groups : (xs : List Arg) → EachSimple (map rule_of xs) → All (λ a. a.groups.items ≡ []) xs
no-groups [] all k d lt = absurd (omega arith)
no-groups (x ∷ xs) all zero d lt =
    let one = (and_parts _ _ all.0).1 in
    let two = (and_parts _ _ one).1 in
    empty x.groups.items (and_parts _ _ two).0
no-groups (x ∷ xs) all (suc k) d lt = no-groups xs all.1 k d (omega arith)

head_passes : (P : Bor (List ℕ) → Type 0) (vs : List (Bor (List ℕ))) (t : Text) → All P vs → option_map (λ s. s.now) (slice_get vs 0) ≡ Some t
    → (v : Bor (List ℕ)) × (v.now ≡ t) × P v
head_passes P [] t h e = cc e
head_passes P (v ∷ vs) t h e = let same : v.now ≡ t = cc e in (v, same, All-get_or P (v ∷ vs) 0 v (omega arith) h)

-- a text that an argument of the built command with this id takes
arg-accepts : (c : Command) (m : ArgMatches) (p : IsParsedFrom c m) (id : Text) (q : ValueParser) (t : Text) → EachAt id q (map rule_of (args_of c))
    → (id ≡ codes "help" → ⊥) → (id ≡ codes "version" → ⊥) → PassesArg p.built id t → (b : Bool) × Accepts b q t
arg-accepts c m p id q t each help version pass =
    let x = pass.1 in
    let is_id : x.id.now ≡ id = (bytes_eq-Decides x.id.now id).0 pass.4.0 in
    elim (cases_lt pass.0 (length (args_of c))) [
      | inl under ↦
          let s = subst (λ (w : Arg). SameRules (slice_index_or (args_of c) pass.0 x) w) pass.3 (p.from.kept pass.0 x under).1 in
          let old_id : (slice_index_or (args_of c) pass.0 x).id.now ≡ id = ap (λ (r : Bor (List ℕ)). r.now) (sym s.id) ∙ is_id in
          let parser : parser_of x ≡ q = ap parser_of_value (s.parser q (each-at id q (args_of c) pass.0 x each under old_id)) in
          (x.ignore_case, subst (λ (w : ValueParser). Accepts x.ignore_case w t) parser pass.4.1)
      | inr over ↦
          let flag = subst IsAuto pass.3 (p.from.extra pass.0 x over pass.2) in
          absurd (elim flag [ inl h ↦ help (sym is_id ∙ h) | inr h ↦ version (sym is_id ∙ h) ])
    ]

simple-rules : EachSimple the_app.top.rules
simple-rules = (refl, (refl, (refl, (refl, (refl, (refl, (refl, (refl, tt))))))))

-- the value that the words give an option passed its parser
pub accepted : (c : Command) (m : ArgMatches) (id : Text) (q : ValueParser) (t : Text) → app_of c ≡ the_app → IsParsedFrom c m → EachAt id q the_app.top.rules
    → (id ≡ [] → ⊥) → (id ≡ codes "help" → ⊥) → (id ≡ codes "version" → ⊥) → first_value (found_of m) id ≡ Some t → (b : Bool) × Accepts b q t
accepted c m id q t is_app p each named help version has =
    let rules : map rule_of (args_of c) ≡ the_app.top.rules = ap (λ a. a.top.rules) is_app in
    let plain : (app_of c).top.is_plain ≡ true = ap (λ a. a.top.is_plain) is_app in
    let one = and_parts _ _ plain in
    let two = and_parts _ _ one.1 in
    let local : (out-Command c).has_globals ≡ false = not-true _ (and_parts _ _ two.1).0 in
    let no_old : groups_of c ≡ [] = empty _ one.0 in
    let simple : EachSimple (map rule_of (args_of c)) = subst EachSimple (sym rules) simple-rules in
    let no_new : groups_of p.built ≡ [] = (p.from.same_groups (no-groups (args_of c) simple)).1 ∙ no_old in
    let parsed = p.parsed (p.from.globals ∙ local) in
    let mine : EachAt id q (map rule_of (args_of c)) = subst (EachAt id q) (sym rules) each in
    go (matched_of (found_of m) id) refl no_new mine parsed.values
  where
    named_pass : (e : Entry) → groups_of p.built ≡ [] → EachAt id q (map rule_of (args_of c)) → bytes_eq e.0.now id ≡ true → EntryPasses p.built e
        → option_map (λ s. s.now) (slice_get e.1.vals.items 0) ≡ Some t → (b : Bool) × Accepts b q t
    named_pass e none mine key pass first =
        let key_id : e.0.now ≡ id = (bytes_eq-Decides e.0.now id).0 key in
        let no_group : e.1.is_group ≡ true → ⊥ = λ g. elim (pass.3 g) [
          | inl empty_id ↦ named (sym key_id ∙ empty_id)
          | inr lots ↦ let bad : 0 < 0 = rw none at lots in absurd (omega arith)
        ] in
        elim pass.0 [
          | inl g ↦ absurd (no_group g)
          | inr vals ↦
              let h = head_passes (λ v. PassesArg p.built e.0.now v.now) e.1.vals.items t vals first in
              let here : PassesArg p.built id t = subst (λ (w : List ℕ). PassesArg p.built id w) h.1 (subst (λ (w : List ℕ). PassesArg p.built w h.0.now) key_id h.2) in
              arg-accepts c m p id q t mine help version here
        ]

    step : (x : MatchedArg) → ((e : Entry) × (e.1 ≡ x) × (bytes_eq e.0.now id ≡ true) × EntryPasses p.built e) → groups_of p.built ≡ [] → EachAt id q (map rule_of (args_of c))
        → option_map (λ s. s.now) (slice_get x.vals.items 0) ≡ Some t → (b : Bool) × Accepts b q t
    step x got none mine first = named_pass got.0 none mine got.2 got.3 (rw got.1 first)

    go : (o : Option MatchedArg) → matched_of (found_of m) id ≡ o → groups_of p.built ≡ [] → EachAt id q (map rule_of (args_of c)) → ValuesPass p.built (found_of m)
        → (b : Bool) × Accepts b q t
    go None e none mine values = let bad : None ≡ Some t = rw e at has in cc
    go (Some x) e none mine values = step x (entry_by_id (EntryPasses p.built) (found_of m).entries.items id x values e) none mine (rw e at has)

-- two texts that differ at a place are not equal
apart : (s t : Text) (i : ℕ) → eqb (get_or s i 0) (get_or t i 0) ≡ false → s ≡ t → ⊥
apart s t i n e = let same : get_or s i 0 ≡ get_or t i 0 = ap (λ (u : Text). get_or u i 0) e in eqb-false _ _ n same

first-rules : EachAt (codes "first") (vp.Unsigned 0 4294967295) the_app.top.rules
first-rules = (
  (λ e. absurd (apart _ _ 0 refl e)),
  (
    (λ e. absurd (apart _ _ 0 refl e)),
    (
      (λ e. absurd (apart _ _ 0 refl e)),
      (
        (λ e. absurd (apart _ _ 1 refl e)),
        ((λ e. absurd (apart _ _ 0 refl e)), ((λ e. refl), ((λ e. absurd (apart _ _ 0 refl e)), ((λ e. absurd (apart _ _ 0 refl e)), tt)))),
      ),
    ),
  ),
)

seed-rules : EachAt (codes "seed") (vp.Unsigned 0 18446744073709551615) the_app.top.rules
seed-rules = (
  (λ e. absurd (apart _ _ 0 refl e)),
  (
    (λ e. absurd (apart _ _ 1 refl e)),
    (
      (λ e. absurd (apart _ _ 0 refl e)),
      (
        (λ e. absurd (apart _ _ 0 refl e)),
        ((λ e. absurd (apart _ _ 0 refl e)), ((λ e. absurd (apart _ _ 0 refl e)), ((λ e. refl), ((λ e. absurd (apart _ _ 0 refl e)), tt)))),
      ),
    ),
  ),
)

lines-rules : EachAt (codes "lines") (vp.Unsigned 0 1000000) the_app.top.rules
lines-rules = (
  (λ e. absurd (apart _ _ 0 refl e)),
  (
    (λ e. absurd (apart _ _ 0 refl e)),
    (
      (λ e. absurd (apart _ _ 0 refl e)),
      (
        (λ e. absurd (apart _ _ 0 refl e)),
        ((λ e. absurd (apart _ _ 0 refl e)), ((λ e. absurd (apart _ _ 0 refl e)), ((λ e. absurd (apart _ _ 0 refl e)), ((λ e. refl), tt)))),
      ),
    ),
  ),
)

-- the values of an option whose values are numbers
number-at : (c : Command) (m : ArgMatches) (id : Text) (most : ℕ) → app_of c ≡ the_app → IsParsedFrom c m → EachAt id (vp.Unsigned 0 most) the_app.top.rules → most < 2 ^ 64
    → (id ≡ [] → ⊥) → (id ≡ codes "help" → ⊥) → (id ≡ codes "version" → ⊥) → IsNumber (first_value (found_of m) id)
number-at c m id most is_app p each few named help version = by (first_value (found_of m) id) (λ t has. whole t has)
  where
    whole : (t : Text) → first_value (found_of m) id ≡ Some t → IsWhole t
    whole t has = let a = accepted c m id (vp.Unsigned 0 most) t is_app p each named help version has in (a.1.0, omega (arith, a.1.1, few))

    by : (o : Option Text) → ((t : Text) → o ≡ Some t → IsWhole t) → IsNumber o
    by None whole = tt
    by (Some t) whole = whole t refl

pub all-numbers : (c : Command) (m : ArgMatches) → app_of c ≡ the_app → IsParsedFrom c m → AreNumbers (given_by (first_value (found_of m)))
all-numbers c m is_app p = record {
  first = number-at c m (codes "first") 4294967295 is_app p first-rules (omega arith) (λ e. cc e) (apart _ _ 0 refl) (apart _ _ 0 refl);
  seed = number-at c m (codes "seed") 18446744073709551615 is_app p seed-rules (omega arith) (λ e. cc e) (apart _ _ 0 refl) (apart _ _ 0 refl);
  lines = number-at c m (codes "lines") 1000000 is_app p lines-rules (omega arith) (λ e. cc e) (apart _ _ 0 refl) (apart _ _ 0 refl);
}
