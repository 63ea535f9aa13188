-- The parts of a run that the code goes along, one for each of its functions.
use Rattle.std.specs.Prelude.{ℕ, Bool, List, [], ◌∷◌, drop, length, slice_get, Option}
use Rattle.ct_value.specs.declared.codes.OrderCode.{OrderCode}
use Rattle.job_text.specs.Lines.{LinesLeft}
use Rattle.job_text.specs.declared.orders.OrderLine.{OrderLine}
use Rattle.job_text.specs.declared.orders.Verb.{Verb}
use Rattle.phys_plan.specs.declared.plan.Plan.{Plan}
use Rattle.plan_rules.specs.Doings.{network}
use Rattle.stream_model.specs.Machine.{State}
use Rattle.stream_model.specs.Runs.{Item, step_item}
use Rattle.stream_model.specs.Drain.{Stage, drain, drain_stages, moves, stage_items, stages}
use Rattle.source_lines.specs.Run as run
use Rattle.source_lines.specs.Run.{At, job_of, on}
use Rattle.job_stream.specs.Writing.{Part}

-- one item
abbrev pub item_run : Item → Part
item_run item by_table plan limit p = run.stepped (job_of (network plan) limit) plan.sources by_table p (step_item (network plan) limit p.state item)

-- items that go by the state
abbrev pub items_run : (Plan → ℕ → State → List Item) → Part
items_run items by_table plan limit p = run.go_along (job_of (network plan) limit) plan.sources by_table p (items plan limit p.state)

-- so many moves from a channel
abbrev pub moves_run : ℕ → ℕ → ℕ → ℕ → Part
moves_run edge from to count = items_run (λ plan limit s. moves edge from to count)

-- the stage of a drain of this number, from 0; the stages from it on; and all of them, with the quiet item behind them
abbrev pub first_run : List Stage → Part
first_run [] by_table plan limit p = on p
first_run (stage ∷ others) by_table plan limit p = items_run (λ plan limit s. stage_items s stage) by_table plan limit p

abbrev pub stage_run : ℕ → Part
stage_run number by_table plan limit p = first_run (drop number (stages (network plan))) by_table plan limit p

abbrev pub stages_run : ℕ → Part
stages_run number = items_run (λ plan limit s. drain_stages (network plan) limit s (drop number (stages (network plan))))

abbrev pub drain_run : Part
drain_run = items_run (λ plan limit s. drain (network plan) limit s)

-- the next line of the file at a place; so many of them; the same of a file that may be named; and all that is left of all files
abbrev pub line_run : ℕ → Part
line_run place by_table plan limit p = run.take_from (job_of (network plan) limit) plan.sources by_table p place (slice_get p.files place)

abbrev pub lines_run : ℕ → ℕ → Part
lines_run place count by_table plan limit p = run.take_many (job_of (network plan) limit) plan.sources by_table p place count

abbrev pub named_run : Option ℕ → ℕ → Part
named_run place count by_table plan limit p = run.take_named (job_of (network plan) limit) plan.sources by_table p place count

abbrev pub rest_run : Part
rest_run by_table plan limit p = run.take_rest (job_of (network plan) limit) plan.sources by_table p 0 (length p.files)

-- how many lines a file has left
abbrev pub lines_left : Bool → Plan → ℕ → Option LinesLeft → ℕ
lines_left by_table plan limit file = run.left_at (job_of (network plan) limit) plan.sources by_table file

-- why so many lines can't be taken; and why a line of an order can't begin
abbrev pub lines_refusal : Option ℕ → ℕ → Bool → Plan → ℕ → List LinesLeft → Option OrderCode
lines_refusal place count by_table plan limit files = run.take_refusal (job_of (network plan) limit) plan.sources by_table files place count

abbrev pub refusal_at : Verb → Bool → Plan → ℕ → At State → Option OrderCode
refusal_at verb by_table plan limit p = run.verb_refusal (job_of (network plan) limit) plan.sources by_table p verb

-- what a line of an order asks for; the line; and lines one after the other
abbrev pub verb_run : Verb → Part
verb_run verb by_table plan limit p = run.acts (job_of (network plan) limit) plan.sources by_table p verb

abbrev pub order_run : OrderLine → Part
order_run order by_table plan limit p =
    run.begins (job_of (network plan) limit) plan.sources by_table p order.line (refusal_at order.verb by_table plan limit p) (verb_run order.verb by_table plan limit p)

abbrev pub orders_run : List OrderLine → Part
orders_run orders by_table plan limit p = run.follow (job_of (network plan) limit) plan.sources by_table p orders

-- the end, and all behind the opening
abbrev pub end_run : Part
end_run by_table plan limit p = run.finishes (job_of (network plan) limit) plan.sources by_table p

abbrev pub opened_run : List OrderLine → Part
opened_run orders by_table plan limit p = run.goes (job_of (network plan) limit) plan.sources by_table p orders
