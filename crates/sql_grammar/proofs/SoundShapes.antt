-- Each form of reading is sound where its parts are: what is read is spelled by the tokens that were taken.
use Rattle.std.proofs.Common.{◌≡◌, ℕ, zero, suc, Bool, true, false, List, [], ◌∷◌, ◌++◌, length, Option, Some, None, refl, sym, ap, ◌∙◌, append_assoc}
use Rattle.sql_tokens.specs.declared.token.Token.{Token}
use Rattle.sql_grammar.specs.Words.{OPEN, CLOSE, COMMA, only}
use Rattle.sql_grammar.specs.Shapes.{Spelling, Word, Words, WordOf, Led, After, Seq2, Seq3, Seq4, Made, Maybe, Flag, OrNone, Many, Series, Listed, Bracketed, Chain}
use Rattle.sql_grammar.specs.Reading.{Reader, ◌>>=◌, first_word, word_at, words_at, made, after, optional_word, optional, maybe_item, maybe, flag_item, flag, nothing, list_item, or_none, many_item, many, repeated, seq2, seq3, seq4, series, listed, bracketed, chain}
use Rattle.sql_grammar.proofs.WordReading.{IfRead, IsWord, only_is}

-- the tokens that were taken
pub record Took {A : Type 0} (R : Spelling A) (ts : List Token) (x : A × List Token) : Type 0 where
  pub taken : List Token
  pub is : ts ≡ taken ++ x.1
  pub spelled : R taken x.0

abbrev pub Sound : {A : Type 0} → Reader A → Spelling A → Type 0
Sound {A} p R = (ts : List Token) → IfRead (p ts) (Took R ts)

pub bind : {A B : Type 0} (r : Option A) (f : A → Option B) (P : A → Type 0) (Q : B → Type 0) → IfRead r P → ((x : A) → P x → IfRead (f x) Q) → IfRead (r >>= f) Q
bind None f P Q h k = tt
bind (Some x) f P Q h k = k x h

pub at_word : {W : Type 0} (word : Token → Option W) (token : W → Token) → IsWord word token → (ts : List Token) → IfRead (word_at word ts) (λ x. ts ≡ token x.0 ∷ x.1)
at_word {W} word token h [] = tt
at_word {W} word token h (t ∷ ts) = go (word t) (h t)
  where
    go : (o : Option W) → IfRead o (λ w. t ≡ token w) → IfRead (first_word ts o) (λ x. t ∷ ts ≡ token x.0 ∷ x.1)
    go None g = tt
    go (Some w) g = ap (λ a. a ∷ ts) g

-- what was taken may be spelled otherwise
pub took_map : {A B : Type 0} (R : Spelling A) (S : Spelling B) (ts rest : List Token) (x : A) (y : B) → ((us : List Token) → R us x → S us y) → Took R ts (x, rest) → Took S ts (y, rest)
took_map R S ts rest x y k h = record { taken = h.taken; is = h.is; spelled = k h.taken h.spelled }

pub sound_map : {A : Type 0} (p : Reader A) (R S : Spelling A) → ((us : List Token) (x : A) → R us x → S us x) → Sound p R → Sound p S
sound_map {A} p R S k h ts = go (p ts) (h ts)
  where
    go : (o : Option (A × List Token)) → IfRead o (Took R ts) → IfRead o (Took S ts)
    go None g = tt
    go (Some x) g = took_map R S ts x.1 x.0 x.0 (λ us. k us x.0) g

pub word_sound : {W : Type 0} (word : Token → Option W) (token : W → Token) → IsWord word token → Sound (word_at word) (WordOf token)
word_sound {W} word token h ts = go (word_at word ts) (at_word word token h ts)
  where
    go : (o : Option (W × List Token)) → IfRead o (λ x. ts ≡ token x.0 ∷ x.1) → IfRead o (Took (WordOf token) ts)
    go None g = tt
    go (Some x) g = record { taken = token x.0 ∷ []; is = g; spelled = refl }

pub only_sound : (e : Token) → Sound (word_at (only e)) (Word e)
only_sound e = word_sound (only e) (λ w. e) (only_is e)

pub words_sound : (es : List Token) → Sound (words_at es) (Words es)
words_sound [] ts = record { taken = []; is = refl; spelled = refl }
words_sound (e ∷ es) ts = bind (word_at (only e) ts) _ (λ x. ts ≡ e ∷ x.1) _ (at_word (only e) (λ w. e) (only_is e) ts) (λ x is. go x.1 is (words_at es x.1) (words_sound es x.1))
  where
    go : (us : List Token) → ts ≡ e ∷ us → (o : Option (Unit {0} × List Token)) → IfRead o (Took (Words es) us) → IfRead o (Took (Words (e ∷ es)) ts)
    go us is None g = tt
    go us is (Some x) g = record { taken = e ∷ g.taken; is = is ∙ ap (λ a. e ∷ a) g.is; spelled = ap (λ a. e ∷ a) g.spelled }

pub made_sound : {A B : Type 0} (f : A → B) (p : Reader A) (R : Spelling A) → Sound p R → Sound (made f p) (Made f R)
made_sound f p R h ts = bind (p ts) _ (Took R ts) _ (h ts) (λ x one. record { taken = one.taken; is = one.is; spelled = (x.0, one.spelled, refl) })

-- behind the first token
led_took : {W A : Type 0} (token : W → Token) (S : W → Spelling A) (w : W) (ts us : List Token) (x : A × List Token) → ts ≡ token w ∷ us → Took (S w) us x → Took (Led token S) ts x
led_took token S w ts us x is one = record {
  taken = token w ∷ one.taken;
  is = is ∙ ap (λ a. token w ∷ a) one.is;
  spelled = (w, one.taken, one.spelled, refl);
}

pub led_sound : {W A : Type 0} (word : Token → Option W) (token : W → Token) (item : W → Reader A) (S : W → Spelling A) → IsWord word token → ((w : W) → Sound (item w) (S w))
    → Sound (λ ts. word_at word ts >>= λ x. item x.0 x.1) (Led token S)
led_sound {W} {A} word token item S i h ts = go (word_at word ts) (at_word word token i ts)
  where
    behind : (w : W) (us : List Token) → ts ≡ token w ∷ us → (o : Option (A × List Token)) → IfRead o (Took (S w) us) → IfRead o (Took (Led token S) ts)
    behind w us is None g = tt
    behind w us is (Some x) g = led_took token S w ts us x is g

    go : (o : Option (W × List Token)) → IfRead o (λ x. ts ≡ token x.0 ∷ x.1) → IfRead (o >>= λ x. item x.0 x.1) (Took (Led token S) ts)
    go None g = tt
    go (Some x) g = behind x.0 x.1 g (item x.0 x.1) (h x.0 x.1)

pub after_sound : {A : Type 0} (e : Token) (p : Reader A) (R : Spelling A) → Sound p R → Sound (after e p) (After e R)
after_sound e p R h = led_sound (only e) (λ w. e) (λ w. p) (λ w. R) (only_is e) (λ w. h)

pub optional_sound : {W : Type 0} (word : Token → Option W) (token : W → Token) → IsWord word token → Sound (optional word) (Maybe (WordOf token))
optional_sound {W} word token h ts = go (word_at word ts) (at_word word token h ts)
  where
    go : (o : Option (W × List Token)) → IfRead o (λ x. ts ≡ token x.0 ∷ x.1) → IfRead (optional_word ts o) (Took (Maybe (WordOf token)) ts)
    go None g = record { taken = []; is = refl; spelled = refl }
    go (Some x) g = record { taken = token x.0 ∷ []; is = g; spelled = refl }

pub maybe_sound : {W A : Type 0} (word : Token → Option W) (token : W → Token) (item : W → Reader A) (S : W → Spelling A) → IsWord word token → ((w : W) → Sound (item w) (S w))
    → Sound (maybe word item) (Maybe (Led token S))
maybe_sound {W} {A} word token item S i h ts = go (word_at word ts) (at_word word token i ts)
  where
    go : (o : Option (W × List Token)) → IfRead o (λ x. ts ≡ token x.0 ∷ x.1) → IfRead (maybe_item item ts o) (Took (Maybe (Led token S)) ts)
    go None g = record { taken = []; is = refl; spelled = refl }
    go (Some x) g = bind (item x.0 x.1) _ (Took (S x.0) x.1) _ (h x.0 x.1) (λ y one. record {
      taken = token x.0 ∷ one.taken;
      is = g ∙ ap (λ a. token x.0 ∷ a) one.is;
      spelled = (x.0, one.taken, one.spelled, refl);
    })

pub flag_sound : (e : Token) (p : Reader (Unit {0})) (R : Spelling (Unit {0})) → Sound p R → Sound (flag e p) (Flag (After e R))
flag_sound e p R h ts = go (word_at (only e) ts) (at_word (only e) (λ w. e) (only_is e) ts)
  where
    go : (o : Option (Unit {0} × List Token)) → IfRead o (λ x. ts ≡ e ∷ x.1) → IfRead (flag_item (λ w. p) ts o) (Took (Flag (After e R)) ts)
    go None g = record { taken = []; is = refl; spelled = refl }
    go (Some x) g = bind (p x.1) _ (Took R x.1) _ (h x.1) (λ y one. record {
      taken = e ∷ one.taken;
      is = g ∙ ap (λ a. e ∷ a) one.is;
      spelled = (tt, one.taken, one.spelled, refl);
    })

pub flag_map : (p : Reader Bool) (R S : Spelling (Unit {0})) → ((us : List Token) → R us tt → S us tt) → Sound p (Flag R) → Sound p (Flag S)
flag_map p R S k = sound_map p (Flag R) (Flag S) same
  where
    same : (us : List Token) (x : Bool) → Flag R us x → Flag S us x
    same us false h = h
    same us true h = k us h

nothing_sound : Sound nothing (Words [])
nothing_sound ts = record { taken = []; is = refl; spelled = refl }

-- [ token ]
pub flag_word_sound : (e : Token) → Sound (flag e nothing) (Flag (Word e))
flag_word_sound e = flag_map (flag e nothing) (After e (Words [])) (Word e) (λ us h. h.3 ∙ ap (λ a. e ∷ a) h.2) (flag_sound e nothing (Words []) nothing_sound)

pub or_none_sound : {A : Type 0} (e : Token) (p : Reader (List A)) (R : Spelling (List A)) → ((us : List Token) → R us [] → ⊥) → Sound p R → Sound (or_none e p) (OrNone (After e R))
or_none_sound {A} e p R filled h ts = go (word_at (only e) ts) (at_word (only e) (λ w. e) (only_is e) ts)
  where
    there : (us : List Token) (xs : List A) → After e R us xs → OrNone (After e R) us xs
    there us [] s = absurd (filled s.1 s.2)
    there us (x ∷ xs) s = s

    behind : (us : List Token) → ts ≡ e ∷ us → (o : Option (List A × List Token)) → IfRead o (Took R us) → IfRead o (Took (OrNone (After e R)) ts)
    behind us is None g = tt
    behind us is (Some x) g = record {
      taken = e ∷ g.taken;
      is = is ∙ ap (λ a. e ∷ a) g.is;
      spelled = there (e ∷ g.taken) x.0 (tt, g.taken, g.spelled, refl);
    }

    go : (o : Option (Unit {0} × List Token)) → IfRead o (λ x. ts ≡ e ∷ x.1) → IfRead (list_item (λ w. p) ts o) (Took (OrNone (After e R)) ts)
    go None g = record { taken = []; is = refl; spelled = refl }
    go (Some x) g = behind x.1 g (p x.1) (h x.1)

pub many_sound : {W A : Type 0} (word : Token → Option W) (token : W → Token) (item : W → Reader A) (S : W → Spelling A) → IsWord word token → ((w : W) → Sound (item w) (S w))
    → (n : ℕ) → Sound (many word item n) (Many (Led token S))
unfolding many
many_sound word token item S i h zero ts = record { taken = []; is = refl; spelled = refl }
many_sound {W} {A} word token item S i h (suc n) ts = go (many_sound word token item S i h n) (word_at word ts) (at_word word token i ts)
  where
    go : Sound (many word item n) (Many (Led token S)) → (o : Option (W × List Token)) → IfRead o (λ x. ts ≡ token x.0 ∷ x.1) → IfRead (many_item item (many word item n) ts o) (Took (Many (Led token S)) ts)
    go ih None g = record { taken = []; is = refl; spelled = refl }
    go ih (Some x) g =
        bind (item x.0 x.1) _ (Took (S x.0) x.1) _ (h x.0 x.1) (λ y one.
        bind (many word item n y.1) _ (Took (Many (Led token S)) y.1) _ (ih y.1) (λ ys more. record {
          taken = token x.0 ∷ (one.taken ++ more.taken);
          is = g ∙ ap (λ a. token x.0 ∷ a) (one.is ∙ ap (λ a. one.taken ++ a) more.is ∙ sym (append_assoc one.taken more.taken ys.1));
          spelled = (token x.0 ∷ one.taken, more.taken, (x.0, one.taken, one.spelled, refl), more.spelled, refl);
        }))

pub repeated_sound : {W A : Type 0} (word : Token → Option W) (token : W → Token) (item : W → Reader A) (S : W → Spelling A) → IsWord word token → ((w : W) → Sound (item w) (S w))
    → Sound (repeated word item) (Many (Led token S))
repeated_sound word token item S i h ts = many_sound word token item S i h (length ts) ts

pub seq2_sound : {A B X : Type 0} (f : A → B → X) (p : Reader A) (q : Reader B) (R : Spelling A) (S : Spelling B) (U : Spelling X) → Sound p R → Sound q S
    → ((us : List Token) (x : A) (y : B) → Seq2 R S us x y → U us (f x y)) → Sound (seq2 f p q) U
seq2_sound f p q R S U h g k ts =
    bind (p ts) _ (Took R ts) _ (h ts) (λ x one.
    bind (q x.1) _ (Took S x.1) _ (g x.1) (λ y two. record {
      taken = one.taken ++ two.taken;
      is = one.is ∙ ap (λ a. one.taken ++ a) two.is ∙ sym (append_assoc one.taken two.taken y.1);
      spelled = k (one.taken ++ two.taken) x.0 y.0 (one.taken, two.taken, one.spelled, two.spelled, refl);
    }))

pub seq3_sound : {A B C X : Type 0} (f : A → B → C → X) (p : Reader A) (q : Reader B) (r : Reader C) (R : Spelling A) (S : Spelling B) (Q : Spelling C) (U : Spelling X)
    → Sound p R → Sound q S → Sound r Q → ((us : List Token) (x : A) (y : B) (z : C) → Seq3 R S Q us x y z → U us (f x y z))
    → Sound (seq3 f p q r) U
seq3_sound f p q r R S Q U h g j k ts =
    bind (p ts) _ (Took R ts) _ (h ts) (λ x one.
    bind (q x.1) _ (Took S x.1) _ (g x.1) (λ y two.
    bind (r y.1) _ (Took Q y.1) _ (j y.1) (λ z three. record {
      taken = one.taken ++ (two.taken ++ three.taken);
      is = one.is ∙ ap (λ a. one.taken ++ a) (two.is ∙ ap (λ a. two.taken ++ a) three.is ∙ sym (append_assoc two.taken three.taken z.1))
          ∙ sym (append_assoc one.taken (two.taken ++ three.taken) z.1);
      spelled = k (one.taken ++ (two.taken ++ three.taken)) x.0 y.0 z.0 (one.taken, two.taken, three.taken, one.spelled, two.spelled, three.spelled, refl);
    })))

pub seq4_sound : {A B C D X : Type 0} (f : A → B → C → D → X) (p : Reader A) (q : Reader B) (r : Reader C) (o : Reader D) (R : Spelling A) (S : Spelling B) (Q : Spelling C) (P : Spelling D) (U : Spelling X)
    → Sound p R → Sound q S → Sound r Q → Sound o P → ((us : List Token) (x : A) (y : B) (z : C) (w : D) → Seq4 R S Q P us x y z w → U us (f x y z w))
    → Sound (seq4 f p q r o) U
seq4_sound f p q r o R S Q P U h g j i k ts =
    bind (p ts) _ (Took R ts) _ (h ts) (λ x one.
    bind (q x.1) _ (Took S x.1) _ (g x.1) (λ y two.
    bind (r y.1) _ (Took Q y.1) _ (j y.1) (λ z three.
    bind (o z.1) _ (Took P z.1) _ (i z.1) (λ w four. record {
      taken = one.taken ++ (two.taken ++ (three.taken ++ four.taken));
      is = one.is ∙ ap (λ a. one.taken ++ a) (two.is ∙ ap (λ a. two.taken ++ a) (three.is ∙ ap (λ a. three.taken ++ a) four.is ∙ sym (append_assoc three.taken four.taken w.1))
          ∙ sym (append_assoc two.taken (three.taken ++ four.taken) w.1))
          ∙ sym (append_assoc one.taken (two.taken ++ (three.taken ++ four.taken)) w.1);
      spelled = k (one.taken ++ (two.taken ++ (three.taken ++ four.taken))) x.0 y.0 z.0 w.0
          (one.taken, two.taken, three.taken, four.taken, one.spelled, two.spelled, three.spelled, four.spelled, refl);
    }))))

pub bracketed_sound : {A : Type 0} (p : Reader A) (R : Spelling A) → Sound p R → Sound (bracketed p) (Bracketed R)
bracketed_sound p R h = seq3_sound (λ o x c. x) (word_at (only OPEN)) p (word_at (only CLOSE)) (Word OPEN) R (Word CLOSE) (Bracketed R) (only_sound OPEN) h (only_sound CLOSE) (λ us o x c s. s)

pub series_sound : {W A : Type 0} (first : Reader A) (word : Token → Option W) (token : W → Token) (item : W → Reader A) (R : Spelling A) (S : W → Spelling A)
    → Sound first R → IsWord word token → ((w : W) → Sound (item w) (S w)) → Sound (series first word item) (Series R (Led token S))
series_sound first word token item R S f i h =
    seq2_sound (λ x xs. x ∷ xs) first (repeated word item) R (Many (Led token S)) (Series R (Led token S)) f (repeated_sound word token item S i h) (λ us x xs s. s)

pub listed_sound : {A : Type 0} (p : Reader A) (R : Spelling A) → Sound p R → Sound (listed p) (Listed R)
listed_sound p R h = series_sound p (only COMMA) (λ w. COMMA) (λ w. p) R (λ w. R) h (only_is COMMA) (λ w. h)

pub chain_sound : {W A X : Type 0} (node : A → List X → A) (first : Reader A) (word : Token → Option W) (token : W → Token) (item : W → Reader X) (R : Spelling A) (S : W → Spelling X)
    → Sound first R → IsWord word token → ((w : W) → Sound (item w) (S w)) → Sound (chain node first word item) (Chain node R (Led token S))
chain_sound node first word token item R S f i h =
    seq2_sound node first (repeated word item) R (Many (Led token S)) (Chain node R (Led token S)) f (repeated_sound word token item S i h) (λ us x xs s. (x, xs, s, refl))
