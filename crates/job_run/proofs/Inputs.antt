-- The change files of a job and its order: what is loaded is what the definition reads.
use Rattle.std.specs.Prelude.{◌-◌, nat_le}
use Rattle.std.proofs.Common.{◌≡◌, ◌≤◌, ◌+◌, ◌++◌, ℕ, suc, Bool, true, false, cond, List, [], ◌∷◌, length, Option, Some, None, Result, Ok, Err, refl, sym, ap, subst, ◌∙◌, arith, append_assoc, append-nil}
use Rattle.std.proofs.lemmas.Bool.{leb-true}
use Rattle.ct_catalog.specs.declared.table.TableDef.{TableDef}
use Rattle.command_line.specs.Words.{Input, changes, feeds}
use Rattle.ct_io.specs.Holdings.{Holdings, Loaded, Missing, Long, Whole, found as found_within, held as held_at, loaded}
use Rattle.job_ending.specs.declared.ending.Ending.TheVariants as e
use Rattle.job_ending.specs.declared.ending.LimitName.{LimitName}
use Rattle.job_ending.specs.declared.ending.LimitName.TheVariants.{Changes as ChangesLimit, Order as OrderLimit}
use Rattle.job_ending.specs.Outcome.{Outcome, ends}
use Rattle.ct_value.specs.declared.codes.OrderCode.TheVariants.{BadLine}
use Rattle.job_text.specs.Orders.{orders_of}
use Rattle.job_text.specs.declared.orders.OrderLine.{OrderLine}
use Rattle.source_lines.specs.Supply.{AreFor}
use Rattle.source_lines.specs.declared.supply.ChangeFiles.{ChangeFiles}
use Rattle.source_lines.specs.declared.supply.ChangeFiles.TheVariants.{One, Each}
use Rattle.job_run.specs.Held.{AreFeeds, IsInput, IsOrder}
use Rattle.job_run.specs.Outcome.{after_load, after_order, feed_name, over_feeds, over_input, with_order}

-- ---- what is held is what the outcome goes on with

module _ (h : Holdings) where
  feeds_are : (prefix : List ℕ) (limit : ℕ) (tables : List TableDef) (before files : List (List ℕ)) (next : ChangeFiles → Outcome) → AreFeeds h prefix limit tables files → over_feeds h prefix limit tables before next ≡ next (Each (before ++ files))
  feeds_are prefix limit [] before [] next are = ap (λ (xs : List (List ℕ)). next (Each xs)) (sym (append-nil before))
  feeds_are prefix limit [] before (bytes ∷ files) next are = absurd are
  feeds_are prefix limit (table ∷ tables) before [] next are = absurd are
  feeds_are prefix limit (table ∷ tables) before (bytes ∷ files) next are =
      ap (after_load ChangesLimit (λ bs. over_feeds h prefix (limit - length bs) tables (before ++ bs ∷ []) next)) are.0
      ∙ feeds_are prefix (limit - length bytes) tables (before ++ bytes ∷ []) files next are.1
      ∙ ap (λ (xs : List (List ℕ)). next (Each xs)) (append_assoc before (bytes ∷ []) files)

  pub input_is : (input : Input) (sources : List TableDef) (files : ChangeFiles) (next : ChangeFiles → Outcome) → IsInput h input sources files → over_input h input sources next ≡ next files
  input_is (changes name) sources (One bytes) next is = ap (after_load ChangesLimit (λ bs. next (One bs))) is
  input_is (changes name) sources (Each files) next is = absurd is
  input_is (feeds prefix) sources (One bytes) next is = absurd is
  input_is (feeds prefix) sources (Each files) next is = feeds_are prefix 67108864 sources [] files next is

  pub order_is : (order : Option (List ℕ)) (by_table : Bool) (orders : List OrderLine) (next : List OrderLine → Outcome) → IsOrder h order by_table orders → with_order h order by_table next ≡ next orders
  order_is None by_table orders next is = ap next (sym is)
  order_is (Some name) by_table orders next is = ap (after_load OrderLimit (λ bs. after_order next (orders_of by_table bs))) is.1 ∙ ap (after_order next) is.2

  -- files for sources
  for_tables : (prefix : List ℕ) (limit : ℕ) (tables : List TableDef) (files : List (List ℕ)) → AreFeeds h prefix limit tables files → length files ≡ length tables
  for_tables prefix limit [] [] are = refl
  for_tables prefix limit [] (bytes ∷ files) are = absurd are
  for_tables prefix limit (table ∷ tables) [] are = absurd are
  for_tables prefix limit (table ∷ tables) (bytes ∷ files) are = ap suc (for_tables prefix (limit - length bytes) tables files are.1)

  pub input_for : (input : Input) (sources : List TableDef) (files : ChangeFiles) → IsInput h input sources files → AreFor files sources
  input_for (changes name) sources (One bytes) is = tt
  input_for (changes name) sources (Each files) is = absurd is
  input_for (feeds prefix) sources (One bytes) is = absurd is
  input_for (feeds prefix) sources (Each files) is = for_tables prefix 67108864 sources files is

-- ---- how large they are

within_limit : (limit : ℕ) (bytes whole : List ℕ) (b : Bool) → nat_le (length bytes) limit ≡ b → cond b (Whole bytes) Long ≡ Whole whole → length whole ≤ limit
within_limit limit bytes whole true is e = let same : bytes ≡ whole = cc (e) in subst (λ xs. length xs ≤ limit) same (leb-true (length bytes) limit is)
within_limit limit bytes whole false is e = absurd (cc (e))

found_short : (limit : ℕ) (o : Option (List ℕ)) (whole : List ℕ) → found_within limit o ≡ Whole whole → length whole ≤ limit
found_short limit None whole e = absurd (cc (e))
found_short limit (Some bytes) whole e = within_limit limit bytes whole (nat_le (length bytes) limit) refl e

loaded_short : (h : Holdings) (name : List ℕ) (limit : ℕ) (whole : List ℕ) → loaded h name limit ≡ Whole whole → length whole ≤ limit
loaded_short h name limit whole e = found_short limit (held_at h name) whole e

-- so many bytes in all
abbrev pub bytes_in : List (List ℕ) → ℕ
bytes_in [] = 0
bytes_in (bytes ∷ files) = length bytes + bytes_in files

both_short : (a b limit : ℕ) → a ≤ limit → b ≤ limit - a → a + b ≤ limit
both_short a b limit one others = omega (arith, one, others)

one_short : (a limit : ℕ) → a ≤ limit → a + 0 ≤ limit
one_short a limit one = omega (arith, one)

feeds_short : (h : Holdings) (prefix : List ℕ) (limit : ℕ) (tables : List TableDef) (files : List (List ℕ)) → AreFeeds h prefix limit tables files → bytes_in files ≤ limit
feeds_short h prefix limit [] [] are = omega arith
feeds_short h prefix limit [] (bytes ∷ files) are = absurd are
feeds_short h prefix limit (table ∷ tables) [] are = absurd are
feeds_short h prefix limit (table ∷ tables) (bytes ∷ files) are =
    both_short (length bytes) (bytes_in files) limit (loaded_short h (feed_name prefix table) limit bytes are.0) (feeds_short h prefix (limit - length bytes) tables files are.1)

abbrev pub files_of : ChangeFiles → List (List ℕ)
files_of (One bytes) = bytes ∷ []
files_of (Each files) = files

pub input_short : (h : Holdings) (input : Input) (sources : List TableDef) (files : ChangeFiles) → IsInput h input sources files → bytes_in (files_of files) ≤ 67108864
input_short h (changes name) sources (One bytes) is = one_short (length bytes) 67108864 (loaded_short h name 67108864 bytes is)
input_short h (changes name) sources (Each files) is = absurd is
input_short h (feeds prefix) sources (One bytes) is = absurd is
input_short h (feeds prefix) sources (Each files) is = feeds_short h prefix 67108864 sources files is

-- ---- what holds of the outcome behind the files holds of that of the job

-- where a file isn't there or is too long, or a line of the order can't be read
pub record HoldsBefore (Q : Outcome → Type 0) : Type 0 where
  pub missing : Q (ends e.ReadFault)
  pub long : (name : LimitName) → Q (ends (e.Limit name))
  pub bad : (line : ℕ) → Q (ends (e.Order BadLine line))

module _ (h : Holdings) (Q : Outcome → Type 0) (halted : HoldsBefore Q) where
  at_load : (over : LimitName) (next : List ℕ → Outcome) (l : Loaded) → ((bytes : List ℕ) → l ≡ Whole bytes → Q (next bytes)) → Q (after_load over next l)
  at_load over next Missing here = halted.missing
  at_load over next Long here = halted.long over
  at_load over next (Whole bytes) here = here bytes refl

  at_feeds : (prefix : List ℕ) (limit : ℕ) (tables : List TableDef) (before : List (List ℕ)) (next : ChangeFiles → Outcome) → ((files : List (List ℕ)) → AreFeeds h prefix limit tables files → Q (next (Each (before ++ files))))
      → Q (over_feeds h prefix limit tables before next)
  at_feeds prefix limit [] before next here = subst (λ (xs : List (List ℕ)). Q (next (Each xs))) (append-nil before) (here [] tt)
  at_feeds prefix limit (table ∷ tables) before next here =
      at_load ChangesLimit (λ bs. over_feeds h prefix (limit - length bs) tables (before ++ bs ∷ []) next) (loaded h (feed_name prefix table) limit)
      (λ bytes is. at_feeds prefix (limit - length bytes) tables (before ++ bytes ∷ []) next
      (λ files are. subst (λ (xs : List (List ℕ)). Q (next (Each xs))) (sym (append_assoc before (bytes ∷ []) files)) (here (bytes ∷ files) (is, are))))

  pub at_input : (input : Input) (sources : List TableDef) (next : ChangeFiles → Outcome) → ((files : ChangeFiles) → IsInput h input sources files → Q (next files)) → Q (over_input h input sources next)
  at_input (changes name) sources next here = at_load ChangesLimit (λ bs. next (One bs)) (loaded h name 67108864) (λ bytes is. here (One bytes) is)
  at_input (feeds prefix) sources next here = at_feeds prefix 67108864 sources [] next (λ files are. here (Each files) are)

  at_lines : (next : List OrderLine → Outcome) (r : Result (List OrderLine) ℕ) → ((orders : List OrderLine) → r ≡ Ok orders → Q (next orders)) → Q (after_order next r)
  at_lines next (Err line) here = halted.bad line
  at_lines next (Ok orders) here = here orders refl

  pub at_order : (order : Option (List ℕ)) (by_table : Bool) (next : List OrderLine → Outcome) → ((orders : List OrderLine) → IsOrder h order by_table orders → Q (next orders)) → Q (with_order h order by_table next)
  at_order None by_table next here = here [] refl
  at_order (Some name) by_table next here =
      at_load OrderLimit (λ bs. after_order next (orders_of by_table bs)) (loaded h name 67108864)
      (λ bytes is. at_lines next (orders_of by_table bytes) (λ orders read. here orders (bytes, is, read)))
