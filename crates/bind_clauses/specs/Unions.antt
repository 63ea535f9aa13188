-- One column of two terms.
use Rattle.std.specs.Prelude.{option_map}
use Rattle.ct_value.specs.declared.codes.ScriptCode.TheVariants.{TypeMismatch}
use Rattle.ct_value.specs.declared.ty.ColTy.{ColTy}
use Rattle.rel_algebra.specs.declared.sets.SetKind.{SetKind}
use Rattle.rel_algebra.specs.Sets.{set_column}
use Rattle.query_answer.specs.declared.scope.ScopeColumn.{ScopeColumn}
use Rattle.query_answer.specs.Answer.{under}
use Rattle.binding.specs.Checked.{Checked, or_code}

-- the column of two, with the name of the first
abbrev pub one_united : SetKind → ScopeColumn → ColTy → Checked ScopeColumn
one_united kind c other = or_code TypeMismatch (option_map (under c.source c.name) (set_column kind c.ty other))
