-- What a text holds, wherever its bytes lie.
use Rattle.std.specs.Prelude.{ℕ, ◌≤◌, List, take, IsUtf8, string_bytes, ⊤}
use Rattle.ct_value.specs.declared.text.Held.{Held}
use Rattle.ct_value.specs.declared.text.Held.TheVariants.{Near, Far}

abbrev pub held_bytes : Held → List ℕ
held_bytes (Near len bytes) = take len bytes
held_bytes (Far text) = string_bytes text.value

-- the bytes are those of a text
abbrev pub IsText : Held → Type 0
IsText (Near len bytes) = (len ≤ 22) × IsUtf8 (take len bytes)
IsText (Far text) = ⊤
