-- The texts of fields, as CSV's writer makes them.
use Rattle.std.proofs.Common.{◌≡◌, ◌<◌, ◌+◌, ◌∙◌, ℕ, Bool, cond, true, false, List, [], ◌∷◌, ◌++◌, length, drop, get_or, ap, arith, refl, sym, append_assoc, codes}
use Rattle.std.specs.Prelude.{if◌then◌else◌}
use Rattle.std.proofs.lemmas.List.{append-nil, drop_all, drop_more}
use Rattle.csv.specs.Writing as csv
use Rattle.csv.proofs.WriteFacts.{escaped-append, escaped-double, escaped-other}
use Rattle.ct_field.specs.Fields.{begins_with_backslash, escaped}

-- a text that needs no quotes stands as it is, behind one more backslash where it begins with one
front_needs : (b : Bool) (text : List ℕ) → csv.needs_quotes csv.default_writer (cond b (92 ∷ text) text) ≡ csv.needs_quotes csv.default_writer text
front_needs true text = refl
front_needs false text = refl

front_before : (b : Bool) (line text : List ℕ) → (line ++ cond b (csv.backslash ∷ []) []) ++ text ≡ line ++ cond b (92 ∷ text) text
front_before true line text = append_assoc line (csv.backslash ∷ []) text
front_before false line text = ap (λ xs. xs ++ text) (append-nil line)

front_doubled : (b : Bool) (text : List ℕ) → cond b (csv.backslash ∷ []) [] ++ csv.escaped csv.default_writer text ≡ csv.escaped csv.default_writer (cond b (92 ∷ text) text)
unfolding csv.escaped
front_doubled true text = refl
front_doubled false text = refl

shown_text : (b : Bool) (text : List ℕ) → csv.needs_quotes csv.default_writer text ≡ b → csv.field_text csv.default_writer (escaped text) ≡ (if b then csv.quoted csv.default_writer (escaped text) else escaped text)
shown_text b text is = ap (λ q. if q then csv.quoted csv.default_writer (escaped text) else escaped text) (front_needs (begins_with_backslash text) text ∙ is)

pub plain_text : (line text : List ℕ) → csv.needs_quotes csv.default_writer text ≡ false
    → (line ++ cond (begins_with_backslash text) (csv.backslash ∷ []) []) ++ text ≡ line ++ csv.field_text csv.default_writer (escaped text)
plain_text line text plain = front_before (begins_with_backslash text) line text ∙ ap (λ xs. line ++ xs) (sym (shown_text false text plain))

-- and one that needs them stands between quotes
pub marked_text : (line text : List ℕ) → csv.needs_quotes csv.default_writer text ≡ true
    → line ++ csv.quoted csv.default_writer (escaped text) ≡ line ++ csv.field_text csv.default_writer (escaped text)
marked_text line text marked = ap (λ xs. line ++ xs) (sym (shown_text true text marked))

-- the quotes round it
pub quotes_round : (line text : List ℕ)
    → (((line ++ csv.quote_mark ∷ []) ++ cond (begins_with_backslash text) (csv.backslash ∷ []) []) ++ csv.escaped csv.default_writer text) ++ csv.quote_mark ∷ []
    ≡ line ++ csv.quoted csv.default_writer (escaped text)
quotes_round line text =
    let front = cond (begins_with_backslash text) (csv.backslash ∷ []) [] in
    let doubled = csv.escaped csv.default_writer text in
    let all : front ++ doubled ≡ csv.escaped csv.default_writer (escaped text) = front_doubled (begins_with_backslash text) text in
    ap (λ xs. xs ++ csv.quote_mark ∷ []) (append_assoc (line ++ csv.quote_mark ∷ []) front doubled ∙ ap (λ xs. (line ++ csv.quote_mark ∷ []) ++ xs) all)
    ∙ append_assoc (line ++ csv.quote_mark ∷ []) (csv.escaped csv.default_writer (escaped text)) (csv.quote_mark ∷ [])
    ∙ append_assoc line (csv.quote_mark ∷ []) (csv.escaped csv.default_writer (escaped text) ++ csv.quote_mark ∷ [])

-- a byte of such a field
pub byte_doubled : (line : List ℕ) (byte : ℕ) → byte ≡ 34 → line ++ codes "\"\"" ≡ line ++ csv.escaped csv.default_writer (byte ∷ [])
byte_doubled line byte is =
    ap (λ (x : ℕ). line ++ x ∷ x ∷ []) (sym is) ∙ ap (λ xs. line ++ xs) (sym (escaped-double csv.default_writer byte is refl))

pub byte_alone : (line : List ℕ) (byte : ℕ) → (byte ≡ 34 → ⊥) → line ++ byte ∷ [] ≡ line ++ csv.escaped csv.default_writer (byte ∷ [])
byte_alone line byte other = ap (λ xs. line ++ xs) (sym (escaped-other csv.default_writer byte other))

-- one more byte of it
pub doubled_step : (line more total field : List ℕ) (i : ℕ) → i < length field → more ≡ line ++ csv.escaped csv.default_writer (get_or field i 0 ∷ [])
    → line ++ csv.escaped csv.default_writer (drop i field) ≡ total → more ++ csv.escaped csv.default_writer (drop (i + 1) field) ≡ total
doubled_step line more total field i h more_is so_far =
    let byte = get_or field i 0 in
    let rest = drop (i + 1) field in
    ap (λ xs. xs ++ csv.escaped csv.default_writer rest) more_is
    ∙ append_assoc line (csv.escaped csv.default_writer (byte ∷ [])) (csv.escaped csv.default_writer rest)
    ∙ ap (λ xs. line ++ xs) (sym (ap (csv.escaped csv.default_writer) (drop_more field i 0 h) ∙ escaped-append csv.default_writer (byte ∷ []) rest))
    ∙ so_far

pub doubled_none : (line field : List ℕ) (i : ℕ) → i ≡ length field → line ++ csv.escaped csv.default_writer (drop i field) ≡ line
unfolding csv.escaped
doubled_none line field i e = ap (λ xs. line ++ csv.escaped csv.default_writer xs) (drop_all i field (omega (arith, e))) ∙ append-nil line
