-- What a fault says of a text.
use Rattle.std.specs.Prelude.{◌≡◌, ℕ}
use Rattle.ct_value.specs.declared.codes.ScriptCode.{ScriptCode}
use Rattle.sql_grammar.specs.ReadsScripts.{Answer, refused}
use Rattle.sql_parse.specs.declared.script.ParseFault.{ParseFault}
use Rattle.sql_parse.specs.declared.script.ParseFault.TheVariants.{Refused, Memory}

-- of a refusal's code and number
abbrev pub IfRefused : ParseFault → (ScriptCode → ℕ → Type 0) → Type 0
IfRefused (Refused code number) P = P code number
IfRefused Memory P = Unit {0}

-- the fault is the answer, or it is want of memory
abbrev pub IsRefusal : ParseFault → Answer → Type 0
IsRefusal fault answer = IfRefused fault (λ code number. answer ≡ refused code number)
