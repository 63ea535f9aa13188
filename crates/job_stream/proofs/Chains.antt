-- How code goes along parts of a run, from each place where its session stands.
use Rattle.std.specs.Prelude.{◌≡◌, ℕ, Bool, List}
use Rattle.std.proofs.Common.{refl, ap, ◌∙◌}
use Rattle.ct_catalog.specs.declared.table.TableDef.{TableDef}
use Rattle.job_text.specs.Lines.{LinesLeft}
use Rattle.phys_plan.specs.declared.plan.Plan.{Plan}
use Rattle.stream_model.specs.Machine.{State}
use Rattle.source_lines.specs.Run.{At, Begins, Went, and_then, on}
use Rattle.exec_core.specs.declared.session.Session.{Session}
use Rattle.job_ending.specs.declared.halt.Halt.{Halt}
use Rattle.job_stream.specs.declared.sheet.Sheet.{Sheet}
use Rattle.job_stream.specs.Writing.{Goes, GoesOn, HaltsOn, Part, Told, nothing}
use Rattle.job_stream.proofs.Going.{ahead_halts, ahead_on, ahead_same, ahead_start, halts_and, halts_same}

-- a part of a run from a place is a first one, and what stands behind that
pub record Unfolds (whole first : Went (At State)) (rest : At State → Went (At State)) : Type 0 where
  pub tail : At State → Went (At State)
  pub is : whole ≡ and_then first tail
  pub rest_is : (q : At State) → first ≡ on q → tail q ≡ rest q
  pub begins : (q : At State) → Begins q.state.printed (tail q)

abbrev pub AllUnfold : Part → Part → Part → Type 0
AllUnfold whole first rest = (by_table : Bool) (plan : Plan) (limit : ℕ) (p : At State) → Unfolds (whole by_table plan limit p) (first by_table plan limit p) (rest by_table plan limit)

-- where it is so word for word
pub unfolds_so : (whole first : Went (At State)) (rest : At State → Went (At State)) → whole ≡ and_then first rest → ((q : At State) → Begins q.state.printed (rest q)) → Unfolds whole first rest
unfolds_so whole first rest is begins = record { tail = rest; is = is; rest_is = λ q e. refl; begins = begins }

pub goes_start : (sheet : Sheet) (sources : List TableDef) (session : Session) (files : List LinesLeft) (part rest : Part) (at : Told) → ((by_table : Bool) (plan : Plan) (limit : ℕ) (p : At State) → part by_table plan limit p ≡ rest by_table plan limit p)
    → GoesOn sheet sources session files part rest session files at at
goes_start sheet sources session files part rest at is plan limit p sheet_is same stands =
    ahead_start sheet plan limit (part sheet.by_table plan limit p) (rest sheet.by_table plan limit) p session files at (is sheet.by_table plan limit p) stands

module _ (sheet : Sheet) (sources : List TableDef) (session : Session) (files : List LinesLeft) (part rest : Part) (now : Session) (left : List LinesLeft) (old mid : Told) (so_far : GoesOn sheet sources session files part rest now left old mid) where
  -- it goes on by a first part of the rest
  pub goes_next : (first behind : Part) (next : Session) (others : List LinesLeft) (new : Told) → AllUnfold rest first behind → Goes sheet sources now left first next others mid new → GoesOn sheet sources session files part behind next others old new
  goes_next first behind next others new unfolds goes plan limit p sheet_is same stands =
      let by = sheet.by_table in
      let a = so_far plan limit p sheet_is same stands in
      let b = goes plan limit a.place sheet_is same a.stands in
      let u = unfolds by plan limit a.place in
      ahead_on sheet plan limit (part by plan limit p) (rest by plan limit) p now left old mid a (behind by plan limit) next others new
      (record {
        place = b.place;
        goes = u.is ∙ ap (λ w. and_then w u.tail) b.goes ∙ u.rest_is b.place b.goes;
        stands = b.stands;
        more = b.more;
        printed = b.printed;
        written = b.written;
        later = b.later;
      })

  -- it halts in it
  pub halts_next : (first behind : Part) (new : Told) (halt : Halt) → AllUnfold rest first behind → HaltsOn sheet sources now left first mid new halt → HaltsOn sheet sources session files part old new halt
  halts_next first behind new halt unfolds halts plan limit p sheet_is same stands =
      let by = sheet.by_table in
      let a = so_far plan limit p sheet_is same stands in
      let b = halts plan limit a.place sheet_is same a.stands in
      let u = unfolds by plan limit a.place in
      ahead_halts sheet plan limit (part by plan limit p) (rest by plan limit) p now left old mid a new halt
      (halts_same sheet (and_then (first by plan limit a.place) u.tail) (rest by plan limit a.place) a.place mid new halt u.is (halts_and sheet (first by plan limit a.place) u.tail a.place mid new halt u.begins b))

  -- it goes along all that is left
  pub goes_last : (next : Session) (others : List LinesLeft) (new : Told) → Goes sheet sources now left rest next others mid new → Goes sheet sources session files part next others old new
  goes_last next others new goes plan limit p sheet_is same stands =
      let by = sheet.by_table in
      let a = so_far plan limit p sheet_is same stands in
      ahead_on sheet plan limit (part by plan limit p) (rest by plan limit) p now left old mid a on next others new (goes plan limit a.place sheet_is same a.stands)

  pub halts_last : (new : Told) (halt : Halt) → HaltsOn sheet sources now left rest mid new halt → HaltsOn sheet sources session files part old new halt
  halts_last new halt halts plan limit p sheet_is same stands =
      let by = sheet.by_table in
      let a = so_far plan limit p sheet_is same stands in
      ahead_halts sheet plan limit (part by plan limit p) (rest by plan limit) p now left old mid a new halt (halts plan limit a.place sheet_is same a.stands)

  -- nothing is left
  pub goes_end : ((by_table : Bool) (plan : Plan) (limit : ℕ) (p : At State) → rest by_table plan limit p ≡ on p) → Goes sheet sources session files part now left old mid
  goes_end ends plan limit p sheet_is same stands =
      let a = so_far plan limit p sheet_is same stands in
      record { place = a.place; goes = a.goes ∙ ends sheet.by_table plan limit a.place; stands = a.stands; more = a.more; printed = a.printed; written = a.written; later = a.later }

-- a part that goes as another does
pub goes_as : (sheet : Sheet) (sources : List TableDef) (session : Session) (files : List LinesLeft) (part other : Part) (next : Session) (left : List LinesLeft) (old new : Told)
    → ((by_table : Bool) (plan : Plan) (limit : ℕ) (p : At State) → other by_table plan limit p ≡ part by_table plan limit p) → Goes sheet sources session files part next left old new → Goes sheet sources session files other next left old new
goes_as sheet sources session files part other next left old new same goes plan limit p sheet_is sources_are stands =
    ahead_same sheet plan limit (part sheet.by_table plan limit p) (other sheet.by_table plan limit p) on p next left old new (same sheet.by_table plan limit p) (goes plan limit p sheet_is sources_are stands)

pub halts_as : (sheet : Sheet) (sources : List TableDef) (session : Session) (files : List LinesLeft) (part other : Part) (old new : Told) (halt : Halt)
    → ((by_table : Bool) (plan : Plan) (limit : ℕ) (p : At State) → other by_table plan limit p ≡ part by_table plan limit p) → HaltsOn sheet sources session files part old new halt → HaltsOn sheet sources session files other old new halt
halts_as sheet sources session files part other old new halt same halts plan limit p sheet_is sources_are stands =
    halts_same sheet (part sheet.by_table plan limit p) (other sheet.by_table plan limit p) p old new halt (same sheet.by_table plan limit p) (halts plan limit p sheet_is sources_are stands)
