-- The records of one change file taken one after the other: cut in two, with one more behind them, and behind other changes.
use Rattle.std.specs.Prelude.{◌≡◌, ℕ, ◌+◌, ◌==◌, ◌<◌, cond, Option, Result, List, ◌++◌, length, slice_get, sum}
use Rattle.std.proofs.Common.{zero, suc, [], ◌∷◌, refl, sym, ap, subst, ◌∙◌, Some, None, Ok, Err, inl, inr, arith}
use Rattle.std.proofs.lemmas.Bool.{cases_eq}
use Rattle.std.proofs.lemmas.List.{length-append}
use Rattle.std.proofs.lemmas.List.Sums.{sum_by_push}
use Rattle.std.proofs.lemmas.Option.{slice_get_within}
use Rattle.ct_value.specs.declared.codes.ChangeCode.{ChangeCode}
use Rattle.ct_change.specs.declared.change.Change.{Change}
use Rattle.ct_catalog.specs.declared.table.TableDef.{TableDef}
use Rattle.job_text.specs.declared.line.Line.{Line}
use Rattle.job_text.specs.Lines.{Record, change_at, line_in, line_of_change}
use Rattle.job_text.proofs.laws.Fitting.{lines_fit}
use Rattle.stream_model.specs.Runs.{counts_below}
use Rattle.source_lines.specs.Taken.{RefusedLine, Taken, and_then, line_refusal, nothing_taken, refusal_in, take_line, take_records, unless_refused, with_line}
use Rattle.source_lines.proofs.Stand.{with_here, with_other}

abbrev accepted : Taken → Result Taken RefusedLine
accepted taken = Ok taken

accepted_same : (a b : Taken) → accepted a ≡ accepted b → a ≡ b
accepted_same a b e = cc

module _ (sources : List TableDef) (feed : Option ℕ) where
  -- a record is a line of a source that isn't refused behind these changes, and these stand with it
  pub record TakesLine (taken : Taken) (fields : Record) (more : Taken) : Type 0 where
    pub line : Line
    pub is : line_in sources feed fields ≡ Ok line
    pub free : line_refusal sources taken line ≡ None
    pub same : more ≡ with_line taken line

  -- records are taken behind these changes, whatever number the first one has
  abbrev pub AreTaken : Taken → List Record → Taken → Type 0
  AreTaken taken records all = (number : ℕ) → take_records sources feed number taken records ≡ Ok all

  -- ---- the first of records

  pub line_takes : (number : ℕ) (taken more : Taken) (fields : Record) → TakesLine taken fields more → take_line sources feed number taken (line_in sources feed fields) ≡ Ok more
  line_takes number taken more fields one = ap (take_line sources feed number taken) one.is ∙ ap (unless_refused feed number taken one.line) one.free ∙ ap accepted (sym one.same)

  unless_taken : (number : ℕ) (taken more : Taken) (fields : Record) (line : Line) (o : Option ChangeCode) → line_in sources feed fields ≡ Ok line → line_refusal sources taken line ≡ o → unless_refused feed number taken line o ≡ Ok more
      → TakesLine taken fields more
  unless_taken number taken more fields line None is free e = record { line = line; is = is; free = free; same = sym (accepted_same (with_line taken line) more e) }
  unless_taken number taken more fields line (Some code) is free e = absurd (cc (e))

  result_taken : (number : ℕ) (taken more : Taken) (fields : Record) (r : Result Line ChangeCode) → line_in sources feed fields ≡ r → take_line sources feed number taken r ≡ Ok more → TakesLine taken fields more
  result_taken number taken more fields (Err code) is e = absurd (cc (e))
  result_taken number taken more fields (Ok line) is e = unless_taken number taken more fields line (line_refusal sources taken line) is refl e

  pub line_taken : (number : ℕ) (taken more : Taken) (fields : Record) → take_line sources feed number taken (line_in sources feed fields) ≡ Ok more → TakesLine taken fields more
  line_taken number taken more fields e = result_taken number taken more fields (line_in sources feed fields) refl e

  -- the first record is taken, and then the others
  pub record TakesFirst (taken : Taken) (fields : Record) (rest : List Record) (all : Taken) : Type 0 where
    pub more : Taken
    pub first : TakesLine taken fields more
    pub number : ℕ
    pub others : take_records sources feed number more rest ≡ Ok all

  first_in : (number : ℕ) (taken all : Taken) (fields : Record) (rest : List Record) (r : Result Taken RefusedLine) → take_line sources feed number taken (line_in sources feed fields) ≡ r
      → and_then r (λ more. take_records sources feed (suc number) more rest) ≡ Ok all → TakesFirst taken fields rest all
  first_in number taken all fields rest (Err refusal) is e = absurd (cc (e))
  first_in number taken all fields rest (Ok more) is e = record { more = more; first = line_taken number taken more fields is; number = suc number; others = e }

  takes_first : (number : ℕ) (taken all : Taken) (fields : Record) (rest : List Record) → take_records sources feed number taken (fields ∷ rest) ≡ Ok all → TakesFirst taken fields rest all
  takes_first number taken all fields rest e = first_in number taken all fields rest (take_line sources feed number taken (line_in sources feed fields)) refl e

  -- ---- records

  pub more_taken : (taken more all : Taken) (fields : Record) (rest : List Record) → TakesLine taken fields more → AreTaken more rest all → AreTaken taken (fields ∷ rest) all
  more_taken taken more all fields rest one others = λ number.
      ap (λ r. and_then r (λ next. take_records sources feed (suc number) next rest)) (line_takes number taken more fields one) ∙ others (suc number)

  pub taken_anywhere : (number : ℕ) (taken all : Taken) (records : List Record) → take_records sources feed number taken records ≡ Ok all → AreTaken taken records all
  taken_anywhere number taken all [] e = λ other. e
  taken_anywhere number taken all (fields ∷ rest) e =
      let one = takes_first number taken all fields rest e in
      more_taken taken one.more all fields rest one.first (taken_anywhere one.number one.more all rest one.others)

  pub first_taken : (taken all : Taken) (fields : Record) (rest : List Record) → AreTaken taken (fields ∷ rest) all → (more : Taken) × TakesLine taken fields more × AreTaken more rest all
  first_taken taken all fields rest are =
      let one = takes_first 0 taken all fields rest (are 0) in
      (one.more, one.first, taken_anywhere one.number one.more all rest one.others)

  pub same_taken : (taken a b : Taken) (records : List Record) → AreTaken taken records a → AreTaken taken records b → a ≡ b
  same_taken taken a b records p q = accepted_same a b (sym (p 0) ∙ q 0)

  pub both_taken : (taken between all : Taken) (front rest : List Record) → AreTaken taken front between → AreTaken between rest all → AreTaken taken (front ++ rest) all
  both_taken taken between all [] rest p q = subst (λ t. AreTaken t rest all) (sym (accepted_same taken between (p 0))) q
  both_taken taken between all (fields ∷ front) rest p q =
      let one = first_taken taken between fields front p in
      more_taken taken one.0 all fields (front ++ rest) one.1 (both_taken one.0 between all front rest one.2 q)

  pub cut_taken : (taken all : Taken) (front rest : List Record) → AreTaken taken (front ++ rest) all → (between : Taken) × AreTaken taken front between × AreTaken between rest all
  cut_taken taken all [] rest are = (taken, (λ number. refl), are)
  cut_taken taken all (fields ∷ front) rest are =
      let one = first_taken taken all fields (front ++ rest) are in
      let later = cut_taken one.0 all front rest one.2 in
      (later.0, more_taken taken one.0 later.0 fields front one.1 later.1, later.2)

  -- one more record is taken behind these
  pub last_taken : (taken between all : Taken) (front : List Record) (fields : Record) → AreTaken taken front between → TakesLine between fields all → AreTaken taken (front ++ fields ∷ []) all
  last_taken taken between all front fields p one = both_taken taken between all front (fields ∷ []) p (more_taken between all all fields [] one (λ number. refl))

-- ---- how many changes were taken

counts_same : (a b : Taken) (n : ℕ) → ((table : ℕ) → table < n → a table ≡ b table) → counts_below a n ≡ counts_below b n
counts_same a b zero same = refl
counts_same a b (suc n) same =
    ap (λ counts. counts ++ length (a n) ∷ []) (counts_same a b n (λ table below. same table (omega (arith, below)))) ∙ ap (λ (changes : List Change). counts_below b n ++ length changes ∷ []) (same n (omega arith))

count_here : (taken : Taken) (line : Line) (n : ℕ) → line.table < suc n → (line.table < n → sum (counts_below (with_line taken line) n) ≡ sum (counts_below taken n) + 1)
    → sum (counts_below (with_line taken line) n) + length (with_line taken line n) ≡ sum (counts_below taken n) + length (taken n) + 1
count_here taken line n within below =
    elim (cases_eq n line.table) [
      | inl here ↦ (let before : counts_below (with_line taken line) n ≡ counts_below taken n = counts_same (with_line taken line) taken n (λ table less. with_other taken line table (λ at. omega (arith, at, here, less))) in
          let one : with_line taken line n ≡ taken n ++ line.change ∷ [] = ap (with_line taken line) here ∙ with_here taken line ∙ ap (λ k. taken k ++ line.change ∷ []) (sym here) in
          omega (arith, ap sum before, ap length one, length-append (taken n) (line.change ∷ [])))
      | inr other ↦ (let own : with_line taken line n ≡ taken n = with_other taken line n other in
          omega (arith, below (omega (arith, within, other)), ap length own))
    ]

-- a line of one of so many first tables is one change more of these
count_line : (taken : Taken) (line : Line) (n : ℕ) → line.table < n → sum (counts_below (with_line taken line) n) ≡ sum (counts_below taken n) + 1
count_line taken line zero within = absurd (omega (arith, within))
count_line taken line (suc n) within =
    let with_one = sum_by_push (λ x. x) (counts_below (with_line taken line) n) (length (with_line taken line n)) in
    let without = sum_by_push (λ x. x) (counts_below taken n) (length (taken n)) in
    omega (arith, with_one, without, count_here taken line n within (count_line taken line n))

pub count_none : (n : ℕ) → sum (counts_below nothing_taken n) ≡ 0
count_none zero = refl
count_none (suc n) = sum_by_push (λ x. x) (counts_below nothing_taken n) 0 ∙ ap (λ k. k + 0) (count_none n)

module _ (sources : List TableDef) (feed : Option ℕ) where
  line_counted : (taken more : Taken) (fields : Record) → TakesLine sources feed taken fields more → sum (counts_below more (length sources)) ≡ sum (counts_below taken (length sources)) + 1
  line_counted taken more fields one =
      let own = lines_fit sources feed fields one.line one.is in
      ap (λ (t : Taken). sum (counts_below t (length sources))) one.same ∙ count_line taken one.line (length sources) (slice_get_within sources one.line.table own.0 own.1)

  -- each record that is taken is one change of a source
  pub records_counted : (taken all : Taken) (records : List Record) → AreTaken sources feed taken records all → sum (counts_below all (length sources)) ≡ sum (counts_below taken (length sources)) + length records
  records_counted taken all [] are = let same : taken ≡ all = accepted_same taken all (are 0) in omega (arith, ap (λ (t : Taken). sum (counts_below t (length sources))) same)
  records_counted taken all (fields ∷ rest) are =
      let one = first_taken sources feed taken all fields rest are in
      omega (arith, line_counted taken one.0 fields one.1, records_counted one.0 all rest one.2)

-- ---- a file of one table

module _ (sources : List TableDef) (place : ℕ) where
  abbrev own_line : Change → Line
  own_line change = record { table = place; change = change }

  fed_change : (r : Result Change ChangeCode) (line : Line) → line_of_change place r ≡ Ok line → line.table ≡ place
  fed_change (Err code) line e = absurd (cc (e))
  fed_change (Ok change) line e = let same : own_line change ≡ line = cc (e) in sym (ap (λ (l : Line). l.table) same)

  -- its lines are of the table
  pub fed_table : (fields : Record) (line : Line) → line_in sources (Some place) fields ≡ Ok line → line.table ≡ place
  fed_table [] line e = absurd (cc (e))
  fed_table (kind ∷ fields) line e = fed_change (change_at (slice_get sources place) kind fields) line e

  -- whether they are refused is told by what was taken of the table
  pub fed_refusal : (a b : Taken) (fields : Record) (line : Line) → line_in sources (Some place) fields ≡ Ok line → a place ≡ b place → line_refusal sources a line ≡ line_refusal sources b line
  fed_refusal a b fields line is same =
      let own = fed_table fields line is in
      let alike : a line.table ≡ b line.table = ap a own ∙ same ∙ ap b (sym own) in
      ap (λ (changes : List Change). refusal_in (slice_get sources line.table) changes line.change) alike

  -- what a line of any table makes of what was taken of a table
  pub with_alike : (a b : Taken) (line : Line) (table : ℕ) → a table ≡ b table → with_line a line table ≡ with_line b line table
  with_alike a b line table same = ap (λ (changes : List Change). cond (table == line.table) (changes ++ line.change ∷ []) changes) same

  -- its records behind other changes, of which those of the table are the same
  pub record Moved (records : List Record) (all other : Taken) : Type 0 where
    pub moved : Taken
    pub takes : AreTaken sources (Some place) other records moved
    pub here : moved place ≡ all place
    pub elsewhere : (table : ℕ) → (table ≡ place → ⊥) → moved table ≡ other table

  line_moves : (taken more other : Taken) (fields : Record) (one : TakesLine sources (Some place) taken fields more) → other place ≡ taken place → TakesLine sources (Some place) other fields (with_line other one.line)
  line_moves taken more other fields one same = record { line = one.line; is = one.is; free = fed_refusal other taken fields one.line one.is same ∙ one.free; same = refl }

  pub fed_moves : (taken all other : Taken) (records : List Record) → AreTaken sources (Some place) taken records all → other place ≡ taken place → Moved records all other
  fed_moves taken all other [] are same = record { moved = other; takes = λ number. refl; here = same ∙ ap (λ (t : Taken). t place) (accepted_same taken all (are 0)); elsewhere = λ table off. refl }
  fed_moves taken all other (fields ∷ rest) are same =
      let one = first_taken sources (Some place) taken all fields rest are in
      let line = one.1.line in
      let here : with_line other line place ≡ one.0 place = with_alike other taken line place same ∙ ap (λ (t : Taken). t place) (sym one.1.same) in
      let later = fed_moves one.0 all (with_line other line) rest one.2 here in
      record {
        moved = later.moved;
        takes = more_taken sources (Some place) other (with_line other line) later.moved fields rest (line_moves taken one.0 other fields one.1 same) later.takes;
        here = later.here;
        elsewhere = λ table off. later.elsewhere table off ∙ with_other other line table (λ at. off (at ∙ fed_table fields line one.1.is));
      }

  -- they leave all other tables
  pub fed_keeps : (taken all : Taken) (records : List Record) → AreTaken sources (Some place) taken records all → (table : ℕ) → (table ≡ place → ⊥) → all table ≡ taken table
  fed_keeps taken all records are table off =
      let moved = fed_moves taken all taken records are refl in
      ap (λ (t : Taken). t table) (same_taken sources (Some place) taken all moved.moved records are moved.takes) ∙ moved.elsewhere table off

  -- each is one change more of the table
  pub fed_counted : (taken all : Taken) (records : List Record) → AreTaken sources (Some place) taken records all → length (all place) ≡ length (taken place) + length records
  fed_counted taken all [] are = let same : taken ≡ all = accepted_same taken all (are 0) in omega (arith, ap (λ (t : Taken). length (t place)) same)
  fed_counted taken all (fields ∷ rest) are =
      let one = first_taken sources (Some place) taken all fields rest are in
      let line = one.1.line in
      let own : line.table ≡ place = fed_table fields line one.1.is in
      let more : one.0 place ≡ taken place ++ line.change ∷ [] = ap (λ (t : Taken). t place) one.1.same ∙ ap (with_line taken line) (sym own) ∙ with_here taken line ∙ ap (λ k. taken k ++ line.change ∷ []) own in
      omega (arith, fed_counted one.0 all rest one.2, ap length more, length-append (taken place) (line.change ∷ []))
