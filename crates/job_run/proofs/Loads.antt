-- How a job halts before anything is written.
use Rattle.std.proofs.Common.{◌≡◌, ◌⊎◌, inl, inr, ℕ, List, Option, Some, None, Result, Ok, Err, IfErr, IfOk, IsSomeAnd, refl, sym, ◌∙◌, ap}
use Rattle.ct_io.specs.Holdings.{Holdings, loaded, Missing, Whole}
use Rattle.judge.specs.Judgement.{Judged}
use Rattle.job_ending.specs.declared.halt.Halt.{Halt}
use Rattle.job_ending.specs.declared.halt.Halt.TheVariants.{Script, Change, Order, Range, Limit, ReadFault, WriteFault, Memory}
use Rattle.job_ending.specs.declared.ending.LimitName.{LimitName}
use Rattle.job_ending.specs.declared.ending.LimitName.TheVariants.{Script as ScriptLimit}
use Rattle.job_ending.specs.Outcome.{Outcome}
use Rattle.job_ending.specs.Runs.{HaltsAs, IsBefore}
use Rattle.job_judgement.specs.Halts.{IsHalt}
use Rattle.job_judgement.specs.declared.accepted.Accepted.{Accepted as AcceptedValue}
use Rattle.job_judgement.specs.Judged.{IsJudged}
use Rattle.job_judgement.specs.Judgement.{Accepted, judgement}
use Rattle.job_judgement.specs.Views.{accepted_view}
use Rattle.job_run.specs.Outcome.{after_judgement, after_load, script_limit, with_script}

some_at : {A : Type 0} {P : A → Type 0} (o : Option A) → IsSomeAnd o P → (a : A) × (o ≡ Some a) × P a
some_at None none = absurd none
some_at (Some a) p = (a, refl, p)

-- what holds of each error holds of a result
pub if_err : {T E : Type 0} (r : Result T E) (P Q : E → Type 0) → ((e : E) → P e → Q e) → IfErr r P → IfErr r Q
if_err (Ok x) P Q more is = tt
if_err (Err e) P Q more is = more e is

if_ok : {T E : Type 0} (r : Result T E) (P Q : T → Type 0) → ((x : T) → P x → Q x) → IfOk r P → IfOk r Q
if_ok (Ok x) P Q more is = more x is
if_ok (Err e) P Q more is = tt

pub load_failed : (old new : Option Holdings) (name : List ℕ) (limit : ℕ) (over : LimitName) (rose : Type 0) → new ≡ old → rose ⊎ IsSomeAnd new (λ h. loaded h name limit ≡ Missing) → (next : Holdings → List ℕ → Outcome) → HaltsAs old (λ h. after_load over (next h) (loaded h name limit)) rose ReadFault
load_failed old new name limit over rose same (inl risen) next = inl risen
load_failed old new name limit over rose same (inr missing) next =
    let at = some_at new missing in
    inr (at.0, sym same ∙ at.1, ap (after_load over (next at.0)) at.2)

-- the judgement halts
pub judged_halt : {A : Type 0} (told : Option Holdings) (read : Type 0) (next : Holdings → A → Outcome) (judged : Judged A) (halt : Halt) → IsHalt halt judged → HaltsAs told (λ h. after_judgement (next h) judged) read halt
judged_halt told read next judged Memory is = tt
judged_halt told read next judged (Script code number) is = λ h told_is. ap (after_judgement (next h)) is
judged_halt told read next judged (Change code line table) is = absurd is
judged_halt told read next judged (Order code line) is = absurd is
judged_halt told read next judged (Range node subtask row columns) is = absurd is
judged_halt told read next judged (Limit name) is = absurd is
judged_halt told read next judged ReadFault is = absurd is
judged_halt told read next judged WriteFault is = absurd is

-- the same behind the last load
pub judged_before : {A : Type 0} (next : A → Outcome) (judged : Judged A) (halt : Halt) → IsHalt halt judged → IsBefore halt (after_judgement next judged)
judged_before next judged Memory is = tt
judged_before next judged (Script code number) is = ap (after_judgement next) is
judged_before next judged (Change code line table) is = absurd is
judged_before next judged (Order code line) is = absurd is
judged_before next judged (Range node subtask row columns) is = absurd is
judged_before next judged (Limit name) is = absurd is
judged_before next judged ReadFault is = absurd is
judged_before next judged WriteFault is = absurd is

-- the same by a definition that agrees, of calls that came later, between which no holdings changed
pub halts_later : (told now : Option Holdings) (read later : Type 0) (of other : Holdings → Outcome) (halt : Halt) → now ≡ told → (later → read) → ((h : Holdings) → told ≡ Some h → other h ≡ of h) → HaltsAs now of later halt → HaltsAs told other read halt
halts_later told now read later of other Memory held more same is = tt
halts_later told now read later of other WriteFault held more same is = absurd is
halts_later told now read later of other ReadFault held more same (inl rose) = inl (more rose)
halts_later told now read later of other ReadFault held more same (inr at) = let told_is = sym held ∙ at.1 in inr (at.0, told_is, same at.0 told_is ∙ at.2)
halts_later told now read later of other (Script c n) held more same is = λ h told_is. same h told_is ∙ is h (held ∙ told_is)
halts_later told now read later of other (Change c n t) held more same is = λ h told_is. same h told_is ∙ is h (held ∙ told_is)
halts_later told now read later of other (Order c n) held more same is = λ h told_is. same h told_is ∙ is h (held ∙ told_is)
halts_later told now read later of other (Range n m r tys) held more same is = λ h told_is. same h told_is ∙ is h (held ∙ told_is)
halts_later told now read later of other (Limit l) held more same is = λ h told_is. same h told_is ∙ is h (held ∙ told_is)

script_is : (h : Holdings) (name text : List ℕ) (next : Accepted → Outcome) → loaded h name script_limit ≡ Whole text → with_script h name next ≡ after_judgement next (judgement text)
script_is h name text next held = ap (after_load ScriptLimit (λ t. after_judgement next (judgement t))) held

pub script_halt : (told : Option Holdings) (read : Type 0) (name text : List ℕ) (halt : Halt) → ((h : Holdings) → told ≡ Some h → loaded h name script_limit ≡ Whole text) → IsHalt halt (judgement text) → (next : Holdings → Accepted → Outcome) → HaltsAs told (λ h. with_script h name (next h)) read halt
script_halt told read name text halt held is next =
    halts_later told told read read (λ h. after_judgement (next h) (judgement text)) (λ h. with_script h name (next h)) halt refl (λ rose. rose)
    (λ h told_is. script_is h name text (next h) (held h told_is)) (judged_halt told read next (judgement text) halt is)

pub script_loaded : (h : Holdings) (name text : List ℕ) (script : Accepted) (next : Accepted → Outcome) → loaded h name script_limit ≡ Whole text → judgement text ≡ Ok script → with_script h name next ≡ next script
script_loaded h name text script next held is = script_is h name text next held ∙ ap (after_judgement next) is

-- the same of the result of the code
module _ (told : Option Holdings) (name text : List ℕ) (held : (h : Holdings) → told ≡ Some h → loaded h name script_limit ≡ Whole text) (r : Result AcceptedValue Halt) (is : IfOk r (λ script. judgement text ≡ Ok (accepted_view script))) where
  pub script_judged : IfOk r (λ script. IsJudged (accepted_view script))
  script_judged = if_ok r (λ script. judgement text ≡ Ok (accepted_view script)) (λ script. IsJudged (accepted_view script)) (λ script e. record { text = text; judged = e }) is

  pub script_all : IfOk r (λ script. (h : Holdings) → told ≡ Some h → (next : Accepted → Outcome) → with_script h name next ≡ next (accepted_view script))
  script_all =
      if_ok r (λ script. judgement text ≡ Ok (accepted_view script)) (λ script. (h : Holdings) → told ≡ Some h → (next : Accepted → Outcome) → with_script h name next ≡ next (accepted_view script))
      (λ script e h at next. script_loaded h name text (accepted_view script) next (held h at) e) is
