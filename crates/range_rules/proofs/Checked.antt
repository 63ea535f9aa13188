-- What is known of something that may be refused, and of truth values.
use Rattle.std.proofs.Common.{◌≡◌, Bool, true, false, ◌&&◌, ◌||◌, cond, Ok, Err, IfOk, refl, subst}
use Rattle.ct_value.specs.declared.codes.ScriptCode.{ScriptCode}
use Rattle.binding.specs.Checked.{Checked, ◌>>=◌}

pub bind : {A B : Type 0} (r : Checked A) (f : A → Checked B) (P : A → Type 0) (Q : B → Type 0) → IfOk r P → ((x : A) → P x → IfOk (f x) Q) → IfOk (r >>= f) Q
bind (Ok x) f P Q h k = k x h
bind (Err code) f P Q h k = tt

-- whatever it is
pub then : {A B : Type 0} (r : Checked A) (f : A → Checked B) (Q : B → Type 0) → ((x : A) → IfOk (f x) Q) → IfOk (r >>= f) Q
then (Ok x) f Q k = k x
then (Err code) f Q k = tt

pub tested : {A : Type 0} (t : Bool) (code : ScriptCode) (r : Checked A) (P : A → Type 0) → IfOk r P → IfOk (cond t (Err code) r) P
tested true code r P h = tt
tested false code r P h = h

pub tested_else : {A : Type 0} (t : Bool) (r : Checked A) (code : ScriptCode) (P : A → Type 0) → IfOk r P → IfOk (cond t r (Err code)) P
tested_else true r code P h = h
tested_else false r code P h = tt

-- what holds where it is accepted
pub of_ok : {A : Type 0} (r : Checked A) (x : A) (P : A → Type 0) → IfOk r P → r ≡ Ok x → P x
of_ok (Ok y) x P h e = let i : y ≡ x = cc in subst P i h
of_ok (Err code) x P h e = absurd (cc)

pub neither : (a b : Bool) → (a || b) ≡ false → (a ≡ false) × (b ≡ false)
neither true b e = absurd (cc)
neither false b e = (refl, e)

pub both : (a b : Bool) → (a && b) ≡ true → (a ≡ true) × (b ≡ true)
both true b e = (refl, e)
both false b e = absurd (cc)

pub impossible : {A : Type 0} → true ≡ false → A
impossible e = absurd (cc)
