-- What is read as a statement is spelled by the tokens that were taken.
use Rattle.std.proofs.Common.{◌≡◌, ℕ, zero, suc, List, [], ◌∷◌, ◌++◌, Option, Some, None, refl, sym, ap, subst, ◌∙◌}
use Rattle.sql_tokens.specs.declared.token.Token.{Token}
use Rattle.sql_syntax.specs.declared.statement.Element.{Element}
use Rattle.sql_syntax.specs.declared.statement.Element.TheVariants.{Column, Key}
use Rattle.sql_syntax.specs.Tree.{Create, Insert}
use Rattle.sql_grammar.specs.Words.{CREATE, ENFORCED, INSERT, INTO, KEY, NOT, NULL, PRIMARY, TABLE, WITH, EQUAL, STR, only, text_word}
use Rattle.sql_grammar.specs.Shapes.{Word, Words, WordOf, Led, After, Flag, OrNone, Listed, Bracketed}
use Rattle.sql_grammar.specs.Spells.{Inside, NameOf, TypeOf, ElementOf, PairOf, OptionsOf, StatementOf, within}
use Rattle.sql_grammar.specs.Reading.{word_at, words_at, flag, bracketed}
use Rattle.sql_grammar.specs.Reads
use Rattle.sql_grammar.specs.declared.words.StatementWord.{StatementWord}
use Rattle.sql_grammar.specs.declared.words.StatementWord.TheVariants as stated
use Rattle.sql_grammar.specs.Reads.{Readers, name_at, type_at, statement_word, readers}
use Rattle.sql_grammar.proofs.WordReading.{IfRead, only_is, text_is, statement_token, statement_is}
use Rattle.sql_grammar.proofs.SoundShapes.{Took, Sound, bind, at_word, sound_map, word_sound, only_sound, words_sound, led_sound, flag_sound, flag_map, or_none_sound, seq3_sound, seq4_sound, bracketed_sound, listed_sound}
use Rattle.sql_grammar.proofs.SoundExpressions.{name_sound, type_sound, expr_sound}
use Rattle.sql_grammar.proofs.SoundQueries.{query_sound}

not_null_sound : Sound Reads.not_null_at (Flag (Words (NOT ∷ NULL ∷ [])))
unfolding Reads.not_null_at
not_null_sound = flag_map (flag NOT (word_at (only NULL))) (After NOT (Word NULL)) (Words (NOT ∷ NULL ∷ [])) (λ us s. s.3 ∙ ap (λ a. NOT ∷ a) s.2) (flag_sound NOT (word_at (only NULL)) (Word NULL) (only_sound NULL))

key_flag_sound : Sound Reads.key_flag_at (Flag (Words (PRIMARY ∷ KEY ∷ NOT ∷ ENFORCED ∷ [])))
unfolding Reads.key_flag_at
key_flag_sound = flag_map (flag PRIMARY (words_at (KEY ∷ NOT ∷ ENFORCED ∷ []))) (After PRIMARY (Words (KEY ∷ NOT ∷ ENFORCED ∷ []))) (Words (PRIMARY ∷ KEY ∷ NOT ∷ ENFORCED ∷ []))
    (λ us s. s.3 ∙ ap (λ a. PRIMARY ∷ a) s.2) (flag_sound PRIMARY (words_at (KEY ∷ NOT ∷ ENFORCED ∷ [])) (Words (KEY ∷ NOT ∷ ENFORCED ∷ [])) (words_sound (KEY ∷ NOT ∷ ENFORCED ∷ [])))

column_def_sound : Sound Reads.column_def_at ElementOf
unfolding Reads.column_def_at ElementOf
column_def_sound = seq4_sound (λ name ty not_null key. Column name ty not_null key) name_at type_at Reads.not_null_at Reads.key_flag_at
    NameOf TypeOf (Flag (Words (NOT ∷ NULL ∷ []))) (Flag (Words (PRIMARY ∷ KEY ∷ NOT ∷ ENFORCED ∷ []))) ElementOf name_sound type_sound not_null_sound key_flag_sound (λ us name ty not_null key s. s)

key_sound : Sound Reads.key_at (λ ts x. ElementOf (PRIMARY ∷ ts) x)
unfolding Reads.key_at Reads.names_at ElementOf
key_sound = seq3_sound (λ w names e. Key names) (word_at (only KEY)) (bracketed Reads.names_at) (words_at (NOT ∷ ENFORCED ∷ [])) (Word KEY) (Bracketed (Listed NameOf)) (Words (NOT ∷ ENFORCED ∷ []))
    (λ ts x. ElementOf (PRIMARY ∷ ts) x) (only_sound KEY) (bracketed_sound Reads.names_at (Listed NameOf) (listed_sound name_at NameOf name_sound)) (words_sound (NOT ∷ ENFORCED ∷ []))
    (λ us w names e s. (PRIMARY ∷ KEY ∷ [], s.1, s.2, refl, s.4, s.5, ap (λ a. PRIMARY ∷ a) (s.6 ∙ ap (λ a. a ++ (s.1 ++ s.2)) s.3)))

element_sound : Sound Reads.element_at ElementOf
unfolding Reads.element_at
element_sound ts = go (word_at (only PRIMARY) ts) (at_word (only PRIMARY) (λ w. PRIMARY) (only_is PRIMARY) ts)
  where
    behind : (us : List Token) (o : Option (Element × List Token)) → ts ≡ PRIMARY ∷ us → IfRead o (Took (λ vs x. ElementOf (PRIMARY ∷ vs) x) us) → IfRead o (Took ElementOf ts)
    behind us None e one = tt
    behind us (Some x) e one = record { taken = PRIMARY ∷ one.taken; is = e ∙ ap (λ a. PRIMARY ∷ a) one.is; spelled = one.spelled }

    go : (o : Option (Unit {0} × List Token)) → IfRead o (λ y. ts ≡ PRIMARY ∷ y.1) → IfRead (Reads.key_or_column ts o) (Took ElementOf ts)
    go None e = column_def_sound ts
    go (Some y) e = behind y.1 (Reads.key_at y.1) e (key_sound y.1)

elements_sound : Sound Reads.elements_at (Listed ElementOf)
unfolding Reads.elements_at
elements_sound = listed_sound Reads.element_at ElementOf element_sound

pair_sound : Sound Reads.pair_at PairOf
unfolding Reads.pair_at PairOf
pair_sound = seq3_sound (λ x w y. record { left = x; right = y }) (word_at text_word) (word_at (only EQUAL)) (word_at text_word) (WordOf STR) (Word EQUAL) (WordOf STR) PairOf
    (word_sound text_word STR text_is) (only_sound EQUAL) (word_sound text_word STR text_is) (λ us x w y s. s)

options_sound : Sound Reads.options_at (OrNone OptionsOf)
unfolding Reads.options_at Reads.pairs_at OptionsOf
options_sound = or_none_sound WITH (bracketed Reads.pairs_at) (Bracketed (Listed PairOf)) (λ us s. s.4) (bracketed_sound Reads.pairs_at (Listed PairOf) (listed_sound Reads.pair_at PairOf pair_sound))

module _ (p : Readers) (I : Inside) (g : Sound p.query I.query) where
  stated_sound : (w : StatementWord) → Sound (λ ts. Reads.stated_at p w ts) (λ ts x. StatementOf I (statement_token w ∷ ts) x)
  unfolding Reads.stated_at Reads.create_at Reads.set_at Reads.insert_at StatementOf
  stated_sound stated.Create = seq4_sound (λ w name elements options. Create name elements options) (word_at (only TABLE)) name_at (bracketed Reads.elements_at) Reads.options_at
      (Word TABLE) NameOf (Bracketed (Listed ElementOf)) (OrNone OptionsOf) (λ ts x. StatementOf I (CREATE ∷ ts) x)
      (only_sound TABLE) name_sound (bracketed_sound Reads.elements_at (Listed ElementOf) elements_sound) options_sound
      (λ us w name elements options s. (CREATE ∷ TABLE ∷ [], s.1, s.2, s.3, refl, s.5, s.6, s.7, ap (λ a. CREATE ∷ a) (s.8 ∙ ap (λ a. a ++ (s.1 ++ (s.2 ++ s.3))) s.4)))
  stated_sound stated.Set = λ ts. bind (Reads.pair_at ts) _ (Took PairOf ts) _ (pair_sound ts) (λ x one. record { taken = one.taken; is = one.is; spelled = (tt, one.taken, one.spelled, refl) })
  stated_sound stated.Insert = seq3_sound (λ w table query. Insert table query) (word_at (only INTO)) name_at p.query (Word INTO) NameOf I.query (λ ts x. StatementOf I (INSERT ∷ ts) x)
      (only_sound INTO) name_sound g
      (λ us w table query s. (INSERT ∷ INTO ∷ [], s.1, s.2, refl, s.4, s.5, ap (λ a. INSERT ∷ a) (s.6 ∙ ap (λ a. a ++ (s.1 ++ s.2)) s.3)))

  pub statement_sound : Sound (Reads.statement_at p) (StatementOf I)
  unfolding Reads.statement_at
  statement_sound = sound_map (Reads.statement_at p) (Led statement_token (λ w ts x. StatementOf I (statement_token w ∷ ts) x)) (StatementOf I)
      (λ us x s. subst (λ (a : List Token). StatementOf I a x) (sym s.3) s.2)
      (led_sound statement_word statement_token (λ w ts. Reads.stated_at p w ts) (λ w ts x. StatementOf I (statement_token w ∷ ts) x) statement_is stated_sound)

mutual
  unfolding readers within

  pub expr_within : (depth : ℕ) → Sound (readers depth).expr (within depth).expr
  expr_within zero ts = tt
  expr_within (suc depth) ts = expr_sound (readers depth) (within depth) (expr_within depth) (query_within depth) ts

  pub query_within : (depth : ℕ) → Sound (readers depth).query (within depth).query
  query_within zero ts = tt
  query_within (suc depth) ts = query_sound (readers depth) (within depth) (expr_within depth) (query_within depth) ts
