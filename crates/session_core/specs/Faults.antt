-- What a source's fault says.
use Rattle.std.specs.Prelude.{Result, Ok, Err}
use Rattle.ct_value.specs.declared.codes.ChangeCode.{ChangeCode}
use Rattle.session_core.specs.declared.source.SourceFault.{SourceFault}
use Rattle.session_core.specs.declared.source.SourceFault.TheVariants.{Refused, Memory}

-- P holds of the code, where the change is refused
abbrev pub IfRefused : {T : Type 0} → Result T SourceFault → (ChangeCode → Type 0) → Type 0
IfRefused (Ok answer) P = Unit {0}
IfRefused (Err (Refused code)) P = P code
IfRefused (Err Memory) P = Unit {0}
