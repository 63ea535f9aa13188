-- How the parts of a run that the code goes along begin.
use Rattle.std.specs.Prelude.{◌≡◌, ℕ, ◌+◌, ◌<◌, ◌-◌, Bool, List, drop, get_or, length, slice_get}
use Rattle.std.proofs.Common.{zero, suc, [], ◌∷◌, refl, sym, ap, ◌∙◌, arith}
use Rattle.job_text.specs.Lines.{LinesLeft}
use Rattle.job_text.specs.declared.orders.OrderLine.{OrderLine}
use Rattle.phys_plan.specs.declared.plan.Plan.{Plan}
use Rattle.plan_rules.specs.Doings.{network}
use Rattle.stream_model.specs.Machine.{State}
use Rattle.stream_model.specs.Runs.{after, quiet}
use Rattle.stream_model.specs.Drain.{Stage, drain_stages, moves, stage_items, stages}
use Rattle.source_lines.specs.Run as run
use Rattle.source_lines.specs.Run.{At, Went, and_then, job_of, on}
use Rattle.source_lines.proofs.laws.Along.{begins_along}
use Rattle.job_stream.specs.Parts.{drain_run, end_run, first_run, item_run, line_run, lines_left, lines_run, moves_run, opened_run, order_run, orders_run, rest_run, stage_run, stages_run}
use Rattle.job_stream.specs.Writing.{Part}
use Rattle.job_stream.proofs.Along.{along_moves, along_one, behind_is, behind_stage, drain_next, staged_next, then_quiet}
use Rattle.job_stream.proofs.Begins.{begins_end, begins_many, begins_orders, begins_rest}
use Rattle.job_stream.proofs.Chains.{AllUnfold, Unfolds, unfolds_so}

-- ---- moves

pub moves_unfold : (e i j first rest all : ℕ) → all ≡ first + rest → AllUnfold (moves_run e i j all) (moves_run e i j first) (moves_run e i j rest)
moves_unfold e i j first rest all is by_table plan limit p =
    unfolds_so (moves_run e i j all by_table plan limit p) (moves_run e i j first by_table plan limit p) (moves_run e i j rest by_table plan limit)
    (along_moves (network plan) limit plan.sources by_table p e i j first rest all is)
    (λ q. begins_along (network plan) limit plan.sources by_table q (moves e i j rest))

pub no_moves : (e i j left : ℕ) → left ≡ 0 → (by_table : Bool) (plan : Plan) (limit : ℕ) (p : At State) → moves_run e i j left by_table plan limit p ≡ on p
no_moves e i j left is by_table plan limit p = ap (λ n. moves_run e i j n by_table plan limit p) is

-- ---- stages

pub drop_more : {A : Type 0} (xs : List A) (n : ℕ) (x : A) (ys : List A) → drop n xs ≡ x ∷ ys → drop (suc n) xs ≡ ys
drop_more [] zero x ys e = absurd (cc (e))
drop_more [] (suc n) x ys e = absurd (cc (e))
drop_more (z ∷ xs) zero x ys e = cc (e)
drop_more (z ∷ xs) (suc n) x ys e = drop_more xs n x ys e

drop_none : {A : Type 0} (xs : List A) (n : ℕ) → drop n xs ≡ [] → drop (suc n) xs ≡ []
drop_none [] zero e = refl
drop_none [] (suc n) e = refl
drop_none (z ∷ xs) zero e = absurd (cc (e))
drop_none (z ∷ xs) (suc n) e = drop_none xs n e

pub drop_past : {A : Type 0} (xs : List A) (n : ℕ) → n ≡ length xs → drop n xs ≡ []
drop_past [] zero is = refl
drop_past [] (suc n) is = refl
drop_past (x ∷ xs) zero is = absurd (omega (arith, is))
drop_past (x ∷ xs) (suc n) is = let same : n ≡ length xs = omega (arith, is) in drop_past xs n same

module _ (number : ℕ) (by_table : Bool) (plan : Plan) (limit : ℕ) (p : At State) where
  abbrev g_stages : List Stage
  g_stages = stages (network plan)

  abbrev Left : List Stage → At State → Went (At State)
  Left all q = run.go_along (job_of (network plan) limit) plan.sources by_table q (drain_stages (network plan) limit q.state all)

  stages_next : (all : List Stage) → drop number g_stages ≡ all → Unfolds (Left all p) (first_run all by_table plan limit p) (Left (drop (suc number) g_stages))
  stages_next [] is = record {
    tail = Left (drop (suc number) g_stages);
    is = ap (λ l. Left l p) (sym (drop_none g_stages number is));
    rest_is = λ q e. refl;
    begins = λ q. begins_along (network plan) limit plan.sources by_table q (drain_stages (network plan) limit q.state (drop (suc number) g_stages));
  }
  stages_next (stage ∷ others) is = record {
    tail = behind_stage (network plan) limit plan.sources by_table p stage others;
    is = staged_next (network plan) limit plan.sources by_table p stage others;
    rest_is = λ q e. behind_is (network plan) limit plan.sources by_table p q stage others e ∙ ap (λ l. Left l q) (sym (drop_more g_stages number stage others is));
    begins = λ q. begins_along (network plan) limit plan.sources by_table q (drain_stages (network plan) limit (after (network plan) limit p.state (stage_items p.state stage)) others);
  }

pub stages_unfold : (number next : ℕ) → next ≡ number + 1 → AllUnfold (stages_run number) (stage_run number) (stages_run next)
stages_unfold number next is by_table plan limit p =
    let u = stages_next number by_table plan limit p (drop number (stages (network plan))) refl in
    let more : suc number ≡ next = omega (arith, is) in
    record { tail = u.tail; is = u.is; rest_is = λ q e. u.rest_is q e ∙ ap (λ n. stages_run n by_table plan limit q) more; begins = u.begins }

pub no_stages : (number : ℕ) (by_table : Bool) (plan : Plan) (limit : ℕ) (p : At State) → number ≡ length (stages (network plan)) → stages_run number by_table plan limit p ≡ on p
no_stages number by_table plan limit p past = ap (λ all. run.go_along (job_of (network plan) limit) plan.sources by_table p (drain_stages (network plan) limit p.state all)) (drop_past (stages (network plan)) number past)

pub drain_unfolds : AllUnfold drain_run (stages_run 0) (item_run quiet)
drain_unfolds by_table plan limit p = record {
  tail = then_quiet (network plan) limit plan.sources by_table;
  is = drain_next (network plan) limit plan.sources by_table p;
  rest_is = λ q e. along_one (network plan) limit plan.sources by_table q quiet;
  begins = λ q. begins_along (network plan) limit plan.sources by_table q (quiet ∷ []);
}

-- ---- lines

lines_next : (place left rest : ℕ) → left ≡ rest + 1 → (by_table : Bool) (plan : Plan) (limit : ℕ) (p : At State) → lines_run place left by_table plan limit p ≡ and_then (line_run place by_table plan limit p) (lines_run place rest by_table plan limit)
lines_next place zero rest is by_table plan limit p = absurd (omega (arith, is))
lines_next place (suc left) rest is by_table plan limit p = let same : left ≡ rest = omega (arith, is) in ap (λ n. lines_run place (suc n) by_table plan limit p) same

pub lines_unfold : (place left rest : ℕ) → left ≡ rest + 1 → AllUnfold (lines_run place left) (line_run place) (lines_run place rest)
lines_unfold place left rest is by_table plan limit p =
    unfolds_so (lines_run place left by_table plan limit p) (line_run place by_table plan limit p) (lines_run place rest by_table plan limit) (lines_next place left rest is by_table plan limit p)
    (λ q. begins_many (network plan) limit plan.sources by_table q place rest)

pub no_lines : (place left : ℕ) → left ≡ 0 → (by_table : Bool) (plan : Plan) (limit : ℕ) (p : At State) → lines_run place left by_table plan limit p ≡ on p
no_lines place left is by_table plan limit p = ap (λ n. lines_run place n by_table plan limit p) is

-- all that is left of so many files, from the one at a place on
abbrev pub files_run : ℕ → ℕ → Part
files_run place count by_table plan limit p = run.take_rest (job_of (network plan) limit) plan.sources by_table p place count

-- all that is left of one of them
abbrev pub file_run : ℕ → Part
file_run place by_table plan limit p = lines_run place (lines_left by_table plan limit (slice_get p.files place)) by_table plan limit p

files_next : (place count next rest : ℕ) → count ≡ rest + 1 → next ≡ place + 1 → (by_table : Bool) (plan : Plan) (limit : ℕ) (p : At State)
    → files_run place count by_table plan limit p ≡ and_then (file_run place by_table plan limit p) (files_run next rest by_table plan limit)
files_next place zero next rest is then by_table plan limit p = absurd (omega (arith, is))
files_next place (suc count) next rest is then by_table plan limit p =
    let same : count ≡ rest = omega (arith, is) in
    let more : suc place ≡ next = omega (arith, then) in
    ap (λ n. files_run place (suc n) by_table plan limit p) same ∙ ap (λ n. and_then (file_run place by_table plan limit p) (files_run n rest by_table plan limit)) more

pub files_unfold : (place count next rest : ℕ) → count ≡ rest + 1 → next ≡ place + 1 → AllUnfold (files_run place count) (file_run place) (files_run next rest)
files_unfold place count next rest is then by_table plan limit p =
    unfolds_so (files_run place count by_table plan limit p) (file_run place by_table plan limit p) (files_run next rest by_table plan limit) (files_next place count next rest is then by_table plan limit p)
    (λ q. begins_rest (network plan) limit plan.sources by_table q next rest)

pub no_files : (place count : ℕ) → count ≡ 0 → (by_table : Bool) (plan : Plan) (limit : ℕ) (p : At State) → files_run place count by_table plan limit p ≡ on p
no_files place count is by_table plan limit p = ap (λ n. files_run place n by_table plan limit p) is

-- what readers tell of their files
pub file_lines : (place left : ℕ) (files : List LinesLeft) (by_table : Bool) (plan : Plan) (limit : ℕ) (p : At State) → files ≡ p.files → left ≡ lines_left by_table plan limit (slice_get files place)
    → file_run place by_table plan limit p ≡ lines_run place left by_table plan limit p
file_lines place left files by_table plan limit p are is = ap (λ n. lines_run place n by_table plan limit p) (ap (λ l. lines_left by_table plan limit (slice_get l place)) (sym are) ∙ sym is)

pub rest_files : (count : ℕ) (files : List LinesLeft) (by_table : Bool) (plan : Plan) (limit : ℕ) (p : At State) → files ≡ p.files → count ≡ length files → rest_run by_table plan limit p ≡ files_run 0 count by_table plan limit p
rest_files count files by_table plan limit p are is = ap (λ n. files_run 0 n by_table plan limit p) (ap length (sym are) ∙ sym is)

-- ---- orders

pub orders_unfold : (order : OrderLine) (orders : List OrderLine) → AllUnfold (orders_run (order ∷ orders)) (order_run order) (orders_run orders)
orders_unfold order orders by_table plan limit p =
    unfolds_so (orders_run (order ∷ orders) by_table plan limit p) (order_run order by_table plan limit p) (orders_run orders by_table plan limit) refl
    (λ q. begins_orders (network plan) limit plan.sources by_table q orders)

drop_at : {A : Type 0} (xs : List A) (n : ℕ) (none : A) → n < length xs → drop n xs ≡ get_or xs n none ∷ drop (suc n) xs
drop_at [] n none l = absurd (omega (arith, l))
drop_at (x ∷ xs) zero none l = refl
drop_at (x ∷ xs) (suc n) none l = drop_at xs n none (omega (arith, l))

-- the one at a place
pub orders_at : (orders : List OrderLine) (place next : ℕ) (none : OrderLine) → place < length orders → next ≡ place + 1 → AllUnfold (orders_run (drop place orders)) (order_run (get_or orders place none)) (orders_run (drop next orders))
orders_at orders place next none there is by_table plan limit p =
    let more : suc place ≡ next = omega (arith, is) in
    let all = drop_at orders place none there ∙ ap (λ n. get_or orders place none ∷ drop n orders) more in
    let u = orders_unfold (get_or orders place none) (drop next orders) by_table plan limit p in
    record { tail = u.tail; is = ap (λ l. orders_run l by_table plan limit p) all ∙ u.is; rest_is = u.rest_is; begins = u.begins }

pub no_orders : (orders : List OrderLine) (place : ℕ) → place ≡ length orders → (by_table : Bool) (plan : Plan) (limit : ℕ) (p : At State) → orders_run (drop place orders) by_table plan limit p ≡ on p
no_orders orders place past by_table plan limit p = ap (λ l. orders_run l by_table plan limit p) (drop_past orders place past)

pub end_unfolds : AllUnfold end_run rest_run drain_run
end_unfolds by_table plan limit p =
    unfolds_so (end_run by_table plan limit p) (rest_run by_table plan limit p) (drain_run by_table plan limit) refl (λ q. begins_along (network plan) limit plan.sources by_table q ((job_of (network plan) limit).drain q.state))

pub opened_unfolds : (orders : List OrderLine) → AllUnfold (opened_run orders) (orders_run orders) end_run
opened_unfolds orders by_table plan limit p =
    unfolds_so (opened_run orders by_table plan limit p) (orders_run orders by_table plan limit p) (end_run by_table plan limit) refl (λ q. begins_end (network plan) limit plan.sources by_table q)
