-- A note has no bytes, so what it notes is told by the proof alone: the machine hands it on.
use mathlib.Core.Path.{◌≡◌, refl, ap, ◌∙◌}
use mathlib.Core.List.{List, [], ◌∷◌, ◌++◌}
use mir.Val.{Val, vstruct, vcons, vnil, of_list}
use base.Logic.{emp}
use types.Kit.{‵, raw, ◌⊛◌, ◌$◌, ◌∵◌, !, qed, done, move, keep, use0, split, join, fjoin, suffices}
use types.Run.{enter, of_opd, returns}
use types.ByLocal.{alloc_all, pass_all, free_all, look_at, get, sets}
use denote.Exit.{yes}
use denote.Laws.{Is}
use denote.Shadow.{makes_shadow}
use denote.Signature.{plain, type_at, types_at}
use denote.Steps.{nothing}
use denote.Triple.Entry.{Res, alive}
use denote.Triple.Walked.{Stays, walk_of, says, stay_dropped, Goes-dropped, ends_at}
use Rattle.std.proofs.raw_atomic.Walks.{proved}
use Rattle.job_run.specs.contracts.log.grown as f
use Rattle.job_run.proofs.log.grown.Statement.{statement}
use Rattle.job_run.proofs.log.grown.Code as code
use Rattle.std.specs.contracts.snapshot.Snapshot as snapshot
use Rattle.ct_value.specs.contracts.bytes.Bytes as bytes
use denote.RattleType.{RattleType, Valss, owns}
use denote.Slice.{shr_slice_vals, shr_slice_Tells}
use denote.Builtin.{SliceRefOf, u8}
use mir.Syntax.{named}

abbrev R : RattleType
R = snapshot.the_row bytes.the_row

abbrev token : Val
token = vstruct (vcons (vstruct vnil) vnil)

told : (x : R.Denot) (vs : List Val) → Is R x vs → vs ≡ token ∷ []
told x vs is = is.0.1.0 ∙ ap (λ (ws : List Val). vstruct (of_list (ws ++ [])) ∷ []) is.0.1.1.0.1.0

abbrev stayed : Stays f.ended.signature.params f.ended.kept
stayed = (stay_dropped _ yes, (stay_dropped _ yes, tt))

pub grown_spec : {M : Type 1} → statement M
grown_spec 𝓤 𝓛 𝓜 𝓡 wired =
    let c = f.clauses 𝓛 𝓜.mem 𝓡.returns in let W = walk_of 𝓛 f.ended stayed c in
    proved 𝓛 f.ended stayed c 𝓜 𝓡 (Goes-dropped 𝓛 1 (plain (λ _. R)) yes (λ κs x w. refl), (Goes-dropped 𝓛 1 (SliceRefOf (0 ∷ []) tt (plain (λ _. u8)) (λ _. tt)) yes (λ κs x w. refl), tt))
    f.Key.name code.function (code.unfolded 𝓤 𝓛.H 𝓜 𝓡 wired)
    (λ κs. ((λ x. token ∷ []), (shr_slice_vals, tt))) (λ κs. (told, (shr_slice_Tells (named 0) κs.0 u8, tt))) (λ κs qs bounds a _ are.
    let vss : Valss (types_at f.signature.params κs) = (token ∷ [], (shr_slice_vals a.1.0, tt)) in
    let y : W.Ghost = ((κs, qs, bounds, a, vss), tt) in
    let r : Res f.signature κs = record { marker = record {}; value = a.0.value ++ a.1.0.now } in
    let O = (type_at f.signature.result κs).own_val r (token ∷ []) in
    qed 𝓛 ((raw (alive 𝓛 f.signature κs qs) ⊛ ‵ (owns (types_at f.signature.params κs) a vss)) ∷ raw (emp 𝓤) ∷ []) ∵ split ! $ keep ! (0 ∷ []) $
    enter ! _ _ _ _ _ $ alloc_all ! (λ l. pass_all ! refl ((tt, (tt, tt)), ((tt, (tt, (record { fits = are.1.0.0.1.0 }, tt))), tt)) $
    sets ! (of_opd ! (get ! refl)) refl (tt, (tt, tt)) $
    returns ! (look_at ! 0 refl) $ free_all ! refl $
    use0 𝓛 (‵ O) (makes_shadow 𝓛 O ((λ vss. (tt, ((λ uss. (tt, tt)), tt))), tt) (((vstruct vnil ∷ [], tt), (refl, ((tt, (refl, tt)), tt))), tt)) $
    suffices ! _ (ends_at 𝓛 f.ended stayed c y token r (tt, (tt, tt)) (tt, (tt, tt))) $ says ! refl $
    nothing ! $ nothing ! $ fjoin ! $ nothing ! $ fjoin ! $ join ! $ move ! (1 ∷ 0 ∷ []) $ join ! $ done !))
