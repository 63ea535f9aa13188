-- A plan as text: one line for each node.
use Rattle.std.specs.Prelude.{ℕ, ◌+◌, Bool, true, false, cond, List, [], ◌∷◌, ◌++◌, length, map, slice_get, codes, Option, None, Some}
use Rattle.std.specs.Fmt.{decimal}
use Rattle.ct_change.specs.declared.kind.KindSet.{KindSet}
use Rattle.ct_catalog.specs.declared.table.TableDef.{TableDef}
use Rattle.rel_algebra.specs.declared.join.JoinKind.{JoinKind}
use Rattle.rel_algebra.specs.declared.join.JoinKind.TheVariants.{Inner, Left, Right, Full}
use Rattle.phys_plan.specs.declared.edge.Edge.{Edge}
use Rattle.phys_plan.specs.declared.edge.Exchange.{Exchange}
use Rattle.phys_plan.specs.declared.edge.Exchange.TheVariants.{Forward, Hash}
use Rattle.phys_plan.specs.declared.node.Node.{Node}
use Rattle.phys_plan.specs.declared.node.Op.{Op}
use Rattle.phys_plan.specs.declared.node.Op.TheVariants as op
use Rattle.phys_plan.specs.declared.plan.Plan.{Plan}
use Rattle.phys_plan.specs.Reading.{numbered}

-- ---- lists

abbrev pub behind_commas : List (List ℕ) → List ℕ
behind_commas [] = []
behind_commas (text ∷ texts) = codes "," ++ (text ++ behind_commas texts)

-- texts with commas between them
abbrev pub commas : List (List ℕ) → List ℕ
commas [] = []
commas (text ∷ texts) = text ++ behind_commas texts

abbrev pub numbers : List ℕ → List ℕ
numbers ns = commas (map decimal ns)

-- ---- operators

abbrev pub called : List ℕ → List ℕ → List ℕ
called word inside = word ++ (codes "(" ++ (inside ++ codes ")"))

abbrev pub scan_text : Option TableDef → List ℕ
scan_text None = called (codes "Scan") []
scan_text (Some table) = called (codes "Scan") table.name

abbrev pub join_text : JoinKind → List ℕ
join_text Inner = codes "Join(inner)"
join_text Left = codes "Join(left)"
join_text Right = codes "Join(right)"
join_text Full = codes "Join(full)"

abbrev pub semi_text : Bool → List ℕ
semi_text false = codes "Semi"
semi_text true = codes "Anti"

abbrev pub rank_text : Bool → List ℕ
rank_text false = []
rank_text true = codes ",rank"

abbrev pub set_text : Bool → Bool → List ℕ
set_text false false = codes "Intersect"
set_text false true = codes "IntersectAll"
set_text true false = codes "Except"
set_text true true = codes "ExceptAll"

abbrev pub group_text : ℕ → ℕ → List ℕ
group_text keys aggs = decimal keys ++ (codes "," ++ decimal aggs)

-- columns, keys and aggregates are told by how many they are, the keys of Normalize and Materialize by their positions
abbrev pub operator_text : List TableDef → TableDef → Op → ℕ → List ℕ
operator_text sources sink (op.Scan source) inputs = scan_text (slice_get sources source)
operator_text sources sink (op.Filter cond) inputs = codes "Filter"
operator_text sources sink (op.Project items) inputs = called (codes "Project") (decimal (length items))
operator_text sources sink op.Union inputs = codes "Union"
operator_text sources sink (op.Normalize key) inputs = called (codes "Normalize") (numbers key)
operator_text sources sink (op.Group keys aggs) inputs = called (codes "Group") (group_text keys (length aggs))
operator_text sources sink (op.BatchGroup keys aggs) inputs = called (codes "BatchGroup") (group_text keys (length aggs))
operator_text sources sink (op.Join kind on rest) inputs = join_text kind
operator_text sources sink (op.Semi anti on rest) inputs = semi_text anti
operator_text sources sink (op.TopN partition order bound ranked) inputs = called (codes "TopN") (decimal bound ++ rank_text ranked)
operator_text sources sink (op.Materialize key) inputs = called (codes "Materialize") (numbers key)
operator_text sources sink op.Sink inputs = called (codes "Sink") sink.name
operator_text sources sink (op.LocalGroup keys aggs) inputs = called (codes "LocalGroup") (group_text keys (length aggs))
operator_text sources sink (op.MultiJoin on) inputs = called (codes "MultiJoin") (decimal inputs)
operator_text sources sink (op.SetOp except all columns) inputs = set_text except all

-- ---- edges

-- the numbers of the inputs, each behind so many other nodes
abbrev pub inputs_text : ℕ → List ℕ → List ℕ
inputs_text before [] = []
inputs_text before (input ∷ inputs) = codes " from " ++ numbers (map (λ n. before + n) (input ∷ inputs))

abbrev pub exchange_text : Exchange → List ℕ
exchange_text Forward = codes " forward"
exchange_text (Hash cols) = codes " hash[" ++ (numbers cols ++ codes "]")

-- nothing is sent on from a sink
abbrev pub sent_text : Op → Exchange → List ℕ
sent_text op.Sink exchange = []
sent_text _ exchange = exchange_text exchange

abbrev pub name_if : Bool → List ℕ → List (List ℕ) → List (List ℕ)
name_if false name names = names
name_if true name names = name ∷ names

abbrev pub kind_names : KindSet → List (List ℕ)
kind_names kinds = name_if kinds.i (codes "I") (name_if kinds.ub (codes "UB") (name_if kinds.ua (codes "UA") (name_if kinds.d (codes "D") [])))

abbrev pub kinds_text : KindSet → List ℕ
kinds_text kinds = codes " changelogMode=[" ++ (commas (kind_names kinds) ++ codes "]")

abbrev pub edge_text : Op → Option Edge → List ℕ
edge_text op None = sent_text op Forward ++ kinds_text (record { i = false; ub = false; ua = false; d = false })
edge_text op (Some edge) = sent_text op edge.exchange ++ kinds_text edge.kinds

-- ---- lines

-- the line of a node by its number, where so many other nodes stand before the plan's
abbrev pub node_line : Plan → ℕ → ℕ → Node → List ℕ
node_line plan before v node =
    decimal (before + v) ++ (codes " " ++ (operator_text plan.sources plan.sink node.op (length node.inputs) ++ (inputs_text before node.inputs ++ (edge_text node.op (numbered plan.edges v) ++ codes "\n"))))

-- the lines of nodes that are numbered from here
abbrev pub lines_from : Plan → ℕ → ℕ → List Node → List ℕ
lines_from plan before v [] = []
lines_from plan before v (node ∷ nodes) = node_line plan before v node ++ lines_from plan before (v + 1) nodes

abbrev pub explained : ℕ → Plan → List ℕ
explained before plan = lines_from plan before 1 plan.nodes
