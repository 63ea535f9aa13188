-- An input that its consumer asks for by columns fits there, and an edge that carries new rows alone keeps each key in one channel.
use Rattle.std.specs.Prelude.{◌≡◌, ℕ, ◌<◌, List, length}
use Rattle.std.proofs.Common.{true, sym, ap, subst, ◌∙◌, Some}
use Rattle.std.specs.List.{AllByRecursion}
use Rattle.ct_value.specs.declared.row.Row.{Row}
use Rattle.ct_change.specs.Changelog.{HasKey, Mode, admits, has}
use Rattle.ct_catalog.specs.declared.table.TableDef.{TableDef}
use Rattle.op_rules.specs.Edges.{IsKeyedBy, KeepsKeys, hash, last_rows}
use Rattle.emission_rules.specs.JoinFits.{SaysUpdates, SideFits}
use Rattle.phys_plan.specs.declared.edge.Exchange.TheVariants.{Hash}
use Rattle.ct_change.specs.declared.update.Update.{Update}
use Rattle.phys_plan.specs.declared.node.Op.{Op}
use Rattle.phys_plan.specs.declared.node.Op.TheVariants as op
use Rattle.column_sets.specs.Sets.{is_within}
use Rattle.mode_infer.specs.Kinds.{asked, chain_columns, side_columns}
use Rattle.mode_infer.specs.Modes.{edge_kinds}
use Rattle.mode_infer.specs.Updates.{takes}
use Rattle.plan_inferred.specs.Rules.{by_columns}
use Rattle.plan_rules.specs.Plans.{exchange_of, meaning_by, route_by}
use Rattle.plan_rules.specs.Around.{mode_read}
use Rattle.plan_rules.proofs.laws.ChangeFits.{fits_width, read_in}
use Rattle.plan_rules.proofs.laws.Reading.{meaning_read, of_no_updates}
use Rattle.sound_plans.specs.Agrees.{IsAsked}
use Rattle.sound_plans.specs.Outputs.{Output, edge_of}
use Rattle.sound_plans.proofs.laws.Sets.{lies_within}
use Rattle.sound_plans.specs.JoinFits.{EdgesAreKeyed}
use Rattle.sound_plans.proofs.laws.Kinds.{are_admitted, of_asked}
use Rattle.sound_plans.proofs.laws.Routes.{routed}

-- ---- an input that is asked for by columns

module _ (many : ℕ) (some : 0 < many) (sink : TableDef) (o : Op) (own : Update) (port : ℕ) (columns : List ℕ) (input : Output) (is_asked : IsAsked sink o own port input)
    (asks : asked o port ≡ Some columns) where
  pub exchanged : input.edge.exchange ≡ Hash columns
  exchanged = is_asked.exchanged ∙ ap by_columns asks

  pub hashed : exchange_of input.edge.exchange ≡ hash columns
  hashed = ap exchange_of exchanged

  pub route_is : (key : Row) → route_by many input.columns (exchange_of input.edge.exchange) key ≡ route_by many input.columns (hash columns) key
  route_is key = ap (λ x. route_by many input.columns x key) hashed

  -- the mode in which it is read
  abbrev pub mode : Mode
  mode = mode_read input.edge.kinds input.edge.update

  -- where new rows come alone, there are some
  updates : SaysUpdates mode input.edge.kinds
  updates =
      subst (λ kinds. SaysUpdates (mode_read kinds input.edge.update) kinds) (sym is_asked.carries)
      (of_asked (λ update. SaysUpdates (mode_read (edge_kinds input.sent update) update) (edge_kinds input.sent update)) sink o own port input is_asked
      (of_no_updates (λ mode. SaysUpdates mode input.sent) input.sent tt tt) tt (λ key is told taken. told))

  -- and each has the columns by which they tell what they replace
  has_key : (row : Row) → length row ≡ length input.columns → HasKey mode row
  has_key row wide =
      of_asked (λ update. HasKey (mode_read input.edge.kinds update) row) sink o own port input is_asked (of_no_updates (λ mode. HasKey mode row) input.edge.kinds tt tt) tt
      (λ key is told taken. subst (λ n. AllByRecursion (λ column. column < n) key) (sym wide) (is_asked.proper.update_key key is))

  pub input_fits : SideFits many mode input.columns columns (edge_of many input)
  input_fits = record {
    reads = meaning_read input.edge.kinds input.edge.update;
    hashed = hashed;
    routed = λ key. subst (λ n. n < many) (sym (route_is key)) (routed many some input.columns columns key);
    kinds = λ kind h.
        subst (λ kinds. admits (mode_read kinds input.edge.update) kind ≡ true) (sym is_asked.carries) (are_admitted input.sent input.edge.update kind (subst (λ kinds. has kinds kind ≡ true) is_asked.carries h));
    updates = updates;
    fits = λ change h. read_in input.edge.kinds input.edge.update input.columns change h;
    keyed = λ change h. has_key change.row (fits_width (meaning_by input.edge.update) input.columns change h);
    holds = λ row h. h;
  }

  -- where the consumer takes new rows alone by keys that have the columns, rows of one key agree on them
  pub keeps : ((key : List ℕ) → takes sink o port own key ≡ true → is_within columns key ≡ true) → KeepsKeys mode columns
  keeps within =
      of_asked (λ update. KeepsKeys (mode_read input.edge.kinds update) columns) sink o own port input is_asked (of_no_updates (λ mode. KeepsKeys mode columns) input.edge.kinds tt tt) tt
      (λ key is told taken. lies_within columns key (within key taken))

-- ---- each key in one channel

keyed_at : (sink : TableDef) (o : Op) (own : Update) (port : ℕ) (key : List ℕ) → takes sink o port own key ≡ true → IsKeyedBy (last_rows key) (exchange_of (by_columns (asked o port)))
keyed_at sink (op.Project items) own port key taken = tt
keyed_at sink (op.Join kind on rest) own port key taken = lies_within (side_columns on port) key taken
keyed_at sink (op.Semi anti on rest) own port key taken = lies_within (side_columns on port) key taken
keyed_at sink (op.TopN partition order bound ranked) own port key taken = lies_within partition key taken
keyed_at sink op.Sink own port key taken = tt
keyed_at sink (op.MultiJoin on) own port key taken = lies_within (chain_columns on port) key taken
-- all others take no new rows alone
keyed_at sink _ own port key taken = absurd (cc)

pub edges_are_keyed : EdgesAreKeyed
edges_are_keyed sink o own port input is_asked =
    subst (λ exchange. IsKeyedBy (meaning_by input.edge.update) (exchange_of exchange)) (sym is_asked.exchanged)
    (of_asked (λ update. IsKeyedBy (meaning_by update) (exchange_of (by_columns (asked o port)))) sink o own port input is_asked tt tt
    (λ key is told taken. keyed_at sink o own port key taken))
