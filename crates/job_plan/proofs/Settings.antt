-- How many subtasks a script sets, and how many changes a bundle may hold.
use Rattle.std.specs.Prelude.{◌≡◌, ℕ, ◌+◌, ◌-◌, ◌*◌, ◌<◌, ◌≤◌, ◌==◌, ◌&&◌, ◌++◌, Bool, List, nat_le, slice_index, Option, option_map, codes, Result, Ok, Err, if◌then◌else◌, ⊤}
use Rattle.std.specs.List.{AllByRecursion}
use Rattle.std.specs.Char.{is_ascii_digit}
use Rattle.std.specs.Str.{all_ascii_digits, byte, bytes_eq, str_eq_ignore_ascii_case}
use Rattle.std.proofs.Common.{true, false, [], ◌∷◌, refl, subst, arith, Some, None}
use Rattle.std.proofs.lemmas.Bool.{leb-true, eqb-false}
use Rattle.ct_value.specs.declared.codes.ScriptCode.{ScriptCode}
use Rattle.sql_syntax.specs.Tree as t
use Rattle.ct_catalog.specs.Catalogue.{Catalogue, applied, with_table, with_settings}
use Rattle.ct_catalog.specs.Numbers.{number_from, number_up_to, count_up_to}
use Rattle.ct_catalog.specs.Setting.{truth_of, phases_of, materialize_of, is_zero_time, or_fault, keys, key_in, key_of, set_key, set_of, with_value}
use Rattle.ct_catalog.specs.Tables.{create_refusal, table_of}
use Rattle.ct_catalog.specs.declared.settings.Settings.{Settings}
use Rattle.ct_catalog.specs.declared.table.TableDef.{TableDef}
use Rattle.job_plan.specs.Inserts.{AreFew, SettingsAreFew}
use Rattle.job_plan.proofs.Catalogues.{of_asked}

-- ---- numbers

left_true : (a b : Bool) → (a && b) ≡ true → a ≡ true
left_true true b e = refl
left_true false b e = absurd (cc)

right_true : (a b : Bool) → (a && b) ≡ true → b ≡ true
right_true true b e = e
right_true false b e = absurd (cc)

no_smaller : (n : ℕ) (ds : List ℕ) → n ≤ number_from n ds
no_smaller n [] = omega arith
no_smaller n (d ∷ ds) = omega (arith, no_smaller (n * 10 + (d - 48)) ds)

abbrev IsCount : ℕ → Option ℕ → Type 0
IsCount most None = ⊤
IsCount most (Some n) = (0 < n) × (n ≤ most)

count_if : (test : Bool) (n most : ℕ) → (test ≡ true → (0 < n) × (n ≤ most)) → IsCount most (if test then Some n else None)
count_if true n most h = h refl
count_if false n most h = tt

none_if : (test : Bool) (most : ℕ) (o : Option ℕ) → (test ≡ false → IsCount most o) → IsCount most (if test then None else o)
none_if true most o h = tt
none_if false most o h = h refl

counted : (most : ℕ) (text : List ℕ) → IsCount most (count_up_to most text)
counted most [] = none_if (slice_index [] 0 == byte "0") most (number_up_to most []) (λ e. tt)
counted most (d ∷ ds) =
    none_if (slice_index (d ∷ ds) 0 == byte "0") most (number_up_to most (d ∷ ds)) (λ other.
    count_if (all_ascii_digits (d ∷ ds) && nat_le (number_from 0 (d ∷ ds)) most) (number_from 0 (d ∷ ds)) most (λ e.
    let digits = left_true (all_ascii_digits (d ∷ ds)) (nat_le (number_from 0 (d ∷ ds)) most) e in
    let digit = leb-true 48 d (left_true (nat_le 48 d) (nat_le d 57) (left_true (is_ascii_digit d) (all_ascii_digits ds) digits)) in
    let few = leb-true (number_from 0 (d ∷ ds)) most (right_true (all_ascii_digits (d ∷ ds)) (nat_le (number_from 0 (d ∷ ds)) most) e) in
    let no_zero : d ≡ 48 → ⊥ = eqb-false d 48 other in
    let least = no_smaller (0 * 10 + (d - 48)) ds in
    let some : 0 < d - 48 = no_nothing d digit no_zero in
    (omega arith, few)))
  where
    no_nothing : (d : ℕ) → 48 ≤ d → (d ≡ 48 → ⊥) → 0 < d - 48
    no_nothing d l other = omega (arith, other)

-- ---- settings

abbrev FewIf : Option Settings → Type 0
FewIf None = ⊤
FewIf (Some s) = AreFew s

kept_by : {A : Type 0} (o : Option A) (set : A → Settings) → ((x : A) → AreFew (set x)) → FewIf (option_map set o)
kept_by None set few = tt
kept_by (Some x) set few = few x

kept_if : (test : Bool) (s : Settings) → AreFew s → FewIf (if test then Some s else None)
kept_if true s few = few
kept_if false s few = tt

set_few : (s : Settings) (o : Option ℕ) → AreFew s → IsCount 16 o → FewIf (option_map (λ x. record s { parallelism = x }) o)
set_few s None few h = tt
set_few s (Some n) few h = (h.0, h.1, few.2)

batch_few : (s : Settings) (o : Option ℕ) → AreFew s → IsCount 1000000 o → FewIf (option_map (λ x. record s { batch_size = x }) o)
batch_few s None few h = tt
batch_few s (Some n) few h = (few.0, few.1, h.1)

-- what each key sets; the type of keys has no name outside of the catalogue
of_value : (key : _) (o : Option Settings) (next : Settings) → FewIf o → or_fault key o ≡ Ok next → AreFew next
of_value key None next few e = absurd (cc)
of_value key (Some s) next few e = let same : s ≡ next = cc in subst AreFew same few

either : {A : Type 0} (P : A → Type 0) (test : Bool) (a b : A) → P a → P b → P (if test then a else b)
either P true a b p q = p
either P false a b p q = q

of_keys : (es : _) (key value : List ℕ) (s next : Settings) → AllByRecursion {X = List ℕ × _} (λ e. (value : List ℕ) (s : Settings) → AreFew s → FewIf (with_value e.1 value s)) es → AreFew s → set_key (key_in es key) value s ≡ Ok next → AreFew next
of_keys [] key value s next all few is = absurd (cc)
of_keys (e ∷ es) key value s next all few is =
    either (λ o. set_key o value s ≡ Ok next → AreFew next) (bytes_eq e.0 key) (Some e.1) (key_in es key)
    (λ one. of_value e.1 (with_value e.1 value s) next (all.0 value s few) one)
    (λ other. of_keys es key value s next all.1 few other) is

of_set : (key value : List ℕ) (s next : Settings) → AreFew s → set_of key value s ≡ Ok next → AreFew next
unfolding key_of
of_set key value s next few is = of_keys keys key value s next (
  (λ value s few. kept_by (truth_of value) (λ x. record s { batching = x }) (λ x. few)),
  (
    (λ value s few. batch_few s (count_up_to 1000000 value) few (counted 1000000 value)),
    (
      (λ value s few. few),
      (
        (λ value s few. kept_by (phases_of value) (λ x. record s { two_phase = x }) (λ x. few)),
        (
          (λ value s few. kept_by (materialize_of value) (λ x. record s { materialize = x }) (λ x. few)),
          (
            (λ value s few. kept_if (is_zero_time value) s few),
            (
              (λ value s few. set_few s (count_up_to 16 value) few (counted 16 value)),
              (
                (λ value s few. kept_if (str_eq_ignore_ascii_case value (codes "streaming")) s few),
                (
                  (λ value s few. few),
                  ((λ value s few. few), tt),
                ),
              ),
            ),
          ),
        ),
      ),
    ),
  ),
) few is

-- ---- catalogues

abbrev FewIn : Catalogue → Type 0
FewIn c = AreFew c.settings

of_created : (c next : Catalogue) (table : TableDef) (o : Option ScriptCode) → FewIn c → with_table c table o ≡ Ok next → FewIn next
of_created c next table None few e = let same : record c { tables = c.tables ++ table ∷ [] } ≡ next = cc (e) in subst FewIn same few
of_created c next table (Some code) few e = absurd (cc)

of_settings : (c next : Catalogue) (o : Result Settings ScriptCode) → ((settings : Settings) → o ≡ Ok settings → AreFew settings) → with_settings c o ≡ Ok next → FewIn next
of_settings c next (Ok settings) few e = let same : record c { settings = settings } ≡ next = cc (e) in subst FewIn same (few settings refl)
of_settings c next (Err code) few e = absurd (cc)

of_applied : (c next : Catalogue) (x : t.Statement) → FewIn c → applied c x ≡ Ok next → FewIn next
of_applied c next (t.Create name elements options) few e = of_created c next (table_of name elements options) (create_refusal c.tables name elements options) few e
of_applied c next (t.Set key value) few e = of_settings c next (set_of key value c.settings) (λ settings is. of_set key value c.settings settings few is) e
of_applied c next (t.Insert table query) few e = let same : c ≡ next = cc in subst FewIn same few

pub settings_are_few : SettingsAreFew
settings_are_few text asked e = of_asked FewIn of_applied (omega arith, omega arith, omega arith) text asked e
