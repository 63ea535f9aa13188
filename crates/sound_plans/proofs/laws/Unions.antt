-- A union fits between its edges.
use Rattle.std.proofs.Common.{◌≡◌, ℕ, zero, suc, ◌+◌, ◌<◌, Bool, true, false, ◌||◌, List, [], ◌∷◌, length, map, Option, Some, None, refl, sym, ap, subst, ◌∙◌, arith}
use Rattle.std.specs.Prelude.{slice_get, slice_index_or}
use Rattle.std.specs.List.{fold}
use Rattle.ct_value.specs.declared.row.Row.{Row}
use Rattle.ct_value.specs.declared.ty.ColTy.{ColTy}
use Rattle.ct_change.specs.declared.kind.Kind.{Kind}
use Rattle.ct_change.specs.declared.kind.Kind.TheVariants.{I, UB, UA, D}
use Rattle.ct_change.specs.declared.kind.KindSet.{KindSet}
use Rattle.ct_change.specs.Changelog.{has}
use Rattle.ct_catalog.specs.declared.table.TableDef.{TableDef}
use Rattle.rel_algebra.specs.Clauses.{Fits}
use Rattle.ct_change.specs.declared.update.Update.{Update}
use Rattle.phys_plan.specs.declared.node.KeyInfo.{KeyInfo}
use Rattle.phys_plan.specs.declared.node.Op.TheVariants as op
use Rattle.emission_rules.specs.Union.{InputFits, UnionFits}
use Rattle.mode_infer.specs.Kinds.{either, no_kinds, plain, sent_of}
use Rattle.mode_infer.specs.Updates.{in_full, told}
use Rattle.plan_rules.specs.Plans.{exchange_of}
use Rattle.plan_rules.specs.Columns.{common_of}
use Rattle.plan_rules.specs.Around.{union_of}
use Rattle.sound_plans.specs.Outputs.{Output, AreWithin, IsProper, around_by, edge_of, edges_of, no_output}
use Rattle.sound_plans.specs.Agrees.{Agrees, AtPorts, IsAsked, taken_by}
use Rattle.sound_plans.specs.RowFits.{UnionsFit}
use Rattle.sound_plans.proofs.laws.RowFamilies.{from_none, each_from_none}
use Rattle.sound_plans.proofs.laws.RowInputs.{comes_by, comes_full, reads_full, full_fits, fits_full, carries_full}
use Rattle.sound_plans.proofs.laws.Told.{told_in_full}
use Rattle.sound_plans.proofs.laws.Wider.{all_wider}

-- ---- kinds

-- where one or the other has a kind, both together have
or_left : (a b : Bool) → a ≡ true → (a || b) ≡ true
or_left true b e = refl
or_left false b e = absurd (cc)

or_right : (a b : Bool) → b ≡ true → (a || b) ≡ true
or_right true b e = refl
or_right false b e = e

one_has : (one other : KindSet) (kind : Kind) → has one kind ≡ true → has (either one other) kind ≡ true
one_has one other I h = or_left one.i other.i h
one_has one other UB h = or_left one.ub other.ub h
one_has one other UA h = or_left one.ua other.ua h
one_has one other D h = or_left one.d other.d h

other_has : (one other : KindSet) (kind : Kind) → has other kind ≡ true → has (either one other) kind ≡ true
other_has one other I h = or_right one.i other.i h
other_has one other UB h = or_right one.ub other.ub h
other_has one other UA h = or_right one.ua other.ua h
other_has one other D h = or_right one.d other.d h

-- the kinds of all inputs, behind those of others
abbrev together : KindSet → List Output → KindSet
together kinds inputs = fold either kinds (map sent_of (map (λ (input : Output). plain input.sent) inputs))

those_stay : (kinds : KindSet) (inputs : List Output) (kind : Kind) → has kinds kind ≡ true → has (together kinds inputs) kind ≡ true
those_stay kinds [] kind h = h
those_stay kinds (input ∷ inputs) kind h = those_stay (either kinds input.sent) inputs kind (one_has kinds input.sent kind h)

each_comes : (kinds : KindSet) (inputs : List Output) (port : ℕ) (kind : Kind) → port < length inputs → has (slice_index_or inputs port no_output).sent kind ≡ true → has (together kinds inputs) kind ≡ true
each_comes kinds [] port kind l h = absurd (omega arith)
each_comes kinds (input ∷ inputs) zero kind l h = those_stay (either kinds input.sent) inputs kind (other_has kinds input.sent kind h)
each_comes kinds (input ∷ inputs) (suc port) kind l h = each_comes (either kinds input.sent) inputs port kind (omega arith) h

-- where old rows go new ones come
abbrev Replaces : KindSet → Type 0
Replaces kinds = kinds.ub ≡ true → kinds.ua ≡ true

either_replaces : (one other : KindSet) → Replaces one → Replaces other → Replaces (either one other)
either_replaces one other h k = go one.ub refl
  where
    go : (b : Bool) → one.ub ≡ b → (b || other.ub) ≡ true → (one.ua || other.ua) ≡ true
    go true is e = or_left one.ua other.ua (h is)
    go false is e = or_right one.ua other.ua (k e)

-- ---- ports

-- what holds of each input by its port holds of the one at a port
module _ (P : ℕ → Output → Type 0) where
  at_port : (first : ℕ) (inputs : List Output) (port at : ℕ) → at ≡ first + port → port < length inputs → AtPorts P first inputs → P at (slice_index_or inputs port no_output)
  at_port first [] port at is l all = absurd (omega arith)
  at_port first (input ∷ inputs) zero at is l all = let same : first ≡ at = omega arith in subst (λ n. P n input) same all.0
  at_port first (input ∷ inputs) (suc port) at is l all = at_port (suc first) inputs port at (omega arith) (omega arith) all.1

-- inputs of a union replace rows, and are told in full
module _ (sink : TableDef) (own : Update) where
  all_replace : (first : ℕ) (kinds : KindSet) (inputs : List Output) → Replaces kinds → AtPorts (IsAsked sink op.Union own) first inputs → Replaces (together kinds inputs)
  all_replace first kinds [] h all = h
  all_replace first kinds (input ∷ inputs) h all = all_replace (suc first) (either kinds input.sent) inputs (either_replaces kinds input.sent h all.0.proper.replaces) all.1

  untaken : (port : ℕ) (key : Option (List ℕ)) → taken_by sink op.Union port own key ≡ false
  untaken port None = refl
  untaken port (Some key) = refl

-- ---- columns

columns_at : (inputs : List Output) (port : ℕ) → port < length inputs → slice_get (map (λ (input : Output). Some input.columns) inputs) port ≡ Some (Some (slice_index_or inputs port no_output).columns)
columns_at [] port l = absurd (omega arith)
columns_at (input ∷ inputs) zero l = refl
columns_at (input ∷ inputs) (suc port) l = columns_at inputs port (omega arith)

-- a row of an input is a row of the union
wider_at : (inputs : List Output) (common : List ColTy) → common_of (map (λ (input : Output). Some input.columns) inputs) ≡ Some common → (port : ℕ) → port < length inputs
    → (row : Row) → Fits (slice_index_or inputs port no_output).columns row → Fits common row
wider_at [] common e port l row h = absurd (omega arith)
wider_at (input ∷ inputs) common e port l row h =
    let all = all_wider (Some input.columns) (map (λ (input : Output). Some input.columns) inputs) common e in
    let same : input.columns ≡ all.0 = (let some = all.1 in cc) in
    go port l h (λ k. all.2 row (subst (λ columns. Fits columns row) same k)) (λ p lt k. all.3 p (slice_index_or inputs p no_output).columns (columns_at inputs p lt) row k)
  where
    go : (port : ℕ) → port < length (input ∷ inputs) → Fits (slice_index_or (input ∷ inputs) port no_output).columns row → (Fits input.columns row → Fits common row)
        → ((p : ℕ) → p < length inputs → Fits (slice_index_or inputs p no_output).columns row → Fits common row) → Fits common row
    go zero l h first others = first h
    go (suc p) l h first others = others p (omega arith) h

-- a union has an input
some_input : (inputs : List Output) (common : List ColTy) → common_of (map (λ (input : Output). Some input.columns) inputs) ≡ Some common → 0 < length inputs
some_input [] common e = absurd (cc)
some_input (input ∷ inputs) common e = omega arith

-- ---- the node

module _ (many : ℕ) (sources : List TableDef) (sink : TableDef) (inputs : List Output) (own : Output) (agrees : Agrees sources sink op.Union inputs own) where
  -- what leaves is told in full
  own_full : own.edge.update ≡ in_full own.sent
  own_full = agrees.tells ∙ ap (λ key. told own.sent key agrees.taken) agrees.updates

  -- all that an input sends
  leaves : (port : ℕ) (kind : Kind) → port < length inputs → has (slice_index_or inputs port no_output).sent kind ≡ true → has own.sent kind ≡ true
  leaves port kind l h = subst (λ (k : KindSet). has k kind ≡ true) (sym agrees.sends) (each_comes no_kinds inputs port kind l h)

  input_fits : (port : ℕ) → port < length inputs → IsAsked sink op.Union own.edge.update port (slice_index_or inputs port no_output) → InputFits (edges_of many inputs port) (edge_of many own)
  input_fits port l asks =
      let full = comes_full sink op.Union own.edge.update port (slice_index_or inputs port no_output) asks (untaken sink own.edge.update port (slice_index_or inputs port no_output).update_key) in
      record {
        forwards = ap exchange_of (comes_by sink op.Union own.edge.update port (slice_index_or inputs port no_output) asks None refl);
        reads = reads_full (slice_index_or inputs port no_output) full;
        kinds = λ kind h.
            subst (λ (k : KindSet). has k kind ≡ true) (sym (carries_full own agrees.carries own_full))
            (leaves port kind l (subst (λ (k : KindSet). has k kind ≡ true) (carries_full (slice_index_or inputs port no_output) asks.carries full) h));
        fits = λ change h. fits_full own own_full change (wider_at inputs own.columns agrees.typed port l change.row (full_fits (slice_index_or inputs port no_output) full change h));
        holds = λ row h. wider_at inputs own.columns agrees.typed port l row h;
      }

  union_fits : UnionFits (union_of (around_by sink inputs own)) (edges_of many inputs) (edge_of many own)
  union_fits = record {
    inputs = λ port l. input_fits port l (at_port (IsAsked sink op.Union own.edge.update) 0 inputs port port (omega arith) l agrees.inputs_asked);
    writes = reads_full own own_full;
    unique = λ key h. from_none own.keys.unique (ap (λ (k : KeyInfo). k.unique) agrees.keyed) key h;
    local = λ key h. from_none own.keys.local (ap (λ (k : KeyInfo). k.local) agrees.keyed) key h;
    fixing = λ set h. from_none own.keys.fixing (ap (λ (k : KeyInfo). k.fixing) agrees.keyed) set h;
  }

  union_proper : IsProper own
  union_proper = record {
    unique = each_from_none (AreWithin (length own.columns)) own.keys.unique (ap (λ (k : KeyInfo). k.unique) agrees.keyed);
    local = each_from_none (AreWithin (length own.columns)) own.keys.local (ap (λ (k : KeyInfo). k.local) agrees.keyed);
    fixing = each_from_none (AreWithin (length own.columns)) own.keys.fixing (ap (λ (k : KeyInfo). k.fixing) agrees.keyed);
    update_key = λ key is. absurd (let none : None ≡ Some key = sym agrees.updates ∙ is in cc);
    told = told_in_full own own_full;
    inserts =
        let some = some_input inputs own.columns agrees.typed in
        leaves 0 I some (at_port (IsAsked sink op.Union own.edge.update) 0 inputs 0 0 refl some agrees.inputs_asked).proper.inserts;
    replaces = λ h.
        ap (λ (k : KindSet). k.ua) agrees.sends
        ∙ all_replace sink own.edge.update 0 no_kinds inputs (λ e. absurd (cc)) agrees.inputs_asked (sym (ap (λ (k : KindSet). k.ub) agrees.sends) ∙ h);
  }

pub unions_fit : UnionsFit
unions_fit many sources sink inputs own agrees = (union_fits many sources sink inputs own agrees, union_proper many sources sink inputs own agrees)
