-- What holds of an answer, where another fact of it gives it.
use Rattle.std.proofs.Common.{Result, Ok, Err, IfOk, IfErr, OnOk, OnErr}
use Rattle.ct_value.specs.declared.row.Row.{Row}
use Rattle.op_rules.specs.declared.operator.OpFault.{OpFault}
use Rattle.op_rules.specs.declared.operator.OpFault.TheVariants.{Range, Memory}
use Rattle.op_rules.specs.Faults.{IfRange}

pub if_ok : {A E : Type 0} (P Q : A → Type 0) (r : Result A E) → IfOk r P → ((x : A) → P x → Q x) → IfOk r Q
if_ok P Q (Ok x) h f = f x h
if_ok P Q (Err e) h f = tt

pub if_range : {A : Type 0} (P Q : Row → Type 0) (r : Result A OpFault) → IfRange r P → ((x : Row) → P x → Q x) → IfRange r Q
if_range P Q (Ok x) h f = tt
if_range P Q (Err (Range row)) h f = f row h
if_range P Q (Err Memory) h f = tt

pub if_ok_on : {A E : Type 0} (C : Type 0) (P Q : A → Type 0) (r : Result A E) → OnOk r C → IfOk r P → ((x : A) → C → P x → Q x) → IfOk r Q
if_ok_on C P Q (Ok x) c h f = f x c h
if_ok_on C P Q (Err e) c h f = tt

pub on_ok : {A E : Type 0} (P Q : Type 0) (r : Result A E) → OnOk r P → (P → Q) → OnOk r Q
on_ok P Q (Ok x) h f = f h
on_ok P Q (Err e) h f = tt

pub if_err : {A E : Type 0} (P Q : E → Type 0) (r : Result A E) → IfErr r P → ((x : E) → P x → Q x) → IfErr r Q
if_err P Q (Ok x) h f = tt
if_err P Q (Err e) h f = f e h

pub if_err_on : {A E : Type 0} (C : Type 0) (P Q : E → Type 0) (r : Result A E) → OnErr r C → IfErr r P → ((x : E) → C → P x → Q x) → IfErr r Q
if_err_on C P Q (Ok x) c h f = tt
if_err_on C P Q (Err e) c h f = f e c h

pub range_of : (A B : Type 0) (P Q : Row → Type 0) (fault : OpFault) → IfRange (let r : Result A OpFault = Err fault in r) P → ((x : Row) → P x → Q x) → IfRange (let r : Result B OpFault = Err fault in r) Q
range_of A B P Q (Range row) h f = f row h
range_of A B P Q Memory h f = tt
