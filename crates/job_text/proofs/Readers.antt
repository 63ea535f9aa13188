-- What one read does to a reader that stands between two records.
use Rattle.std.proofs.Common.{◌≡◌, ◌∙◌, ℕ, List, [], ◌∷◌, Option, Some, None, Bool, true, false, refl, sym, ap, inl}
use Rattle.std.specs.Prelude.{IsSome, unwrap_or}
use Rattle.std.specs.Bool.{MatchBool}
use Rattle.csv.specs.Reading.{Reached, ReadRecord, default_config, has_failed, is_flexible, reader_state, source_of, took_first}
use Rattle.csv.specs.declared.parser.State.{State}
use Rattle.csv.specs.declared.reader.Reader.{Reader}
use Rattle.csv.proofs.ReadFacts.{rows-end, rows-more}
use Rattle.job_text.specs.Reading.{IsReading, Takes, left_in, records_after}
use Rattle.job_text.proofs.Reading.{after-none, after-some, next-leaves}

some-known : (o : Option (List ℕ)) → IsSome o → (xs : List ℕ) × (o ≡ Some xs)
some-known None h = cc h
some-known (Some xs) h = (xs, refl)

is_some-at : (o : Option (List ℕ)) (xs : List ℕ) → o ≡ Some xs → IsSome o
is_some-at o xs e = rw e refl

-- the records that a reader has left
pub left-at : {R : Type 0} (rem : R → Option (List ℕ)) (a : Reader R) (xs : List ℕ) → source_of rem a ≡ Some xs → left_in rem a ≡ records_after (reader_state a) xs
left-at rem a xs e = ap (λ (o : Option (List ℕ)). records_after (reader_state a) (unwrap_or o [])) e

-- what a read that found a record does
pub takes-found : {R : Type 0} (rem : R → Option (List ℕ)) (a b : Reader R) (f : List (List ℕ)) → IsReading rem a → has_failed b ≡ has_failed a
    → is_flexible b ≡ is_flexible a → took_first b ≡ true → ReadRecord rem a b true f
    → Takes rem a f b
unfolding Reached
takes-found rem a b f good still flex first r =
    let k = some-known (source_of rem a) good.known in
    let xs = k.0 in
    let at_xs = k.1 in
    let (z, at_z, reached) = rows-more rem a b f default_config (reader_state a) xs xs [] good.config at_xs (refl, refl) r in
    let (p, e, is_f, (is_s, is_z)) = reached in
    let l = next-leaves xs (reader_state a) [] [] p e in
    let eq = after-some (reader_state a) xs p good.between e in
    record {
      taken = left-at rem a xs at_xs ∙ eq ∙ ap (λ (t : List (List ℕ)). t ∷ records_after p.1 p.2) (sym is_f)
          ∙ ap (λ (s : State). f ∷ records_after s p.2) is_s ∙ ap (λ (t : List ℕ). f ∷ records_after b.state t) is_z
          ∙ ap (λ (t : List (List (List ℕ))). f ∷ t) (sym (left-at rem b z at_z));
      good = record {
        config = r.2 ∙ good.config;
        untrimmed = r.3 ∙ good.untrimmed;
        flexible = flex ∙ good.flexible;
        ready = inl first;
        fresh = still ∙ good.fresh;
        between = rw (← is_s) l.between;
        known = is_some-at _ z at_z;
      };
    }

-- what a read does
pub takes-read : {R : Type 0} (rem : R → Option (List ℕ)) (a b : Reader R) (found : Bool) (f : List (List ℕ)) → IsReading rem a → has_failed b ≡ has_failed a
    → is_flexible b ≡ is_flexible a → took_first b ≡ true → ReadRecord rem a b found f
    → MatchBool found (Takes rem a f b) (left_in rem a ≡ [])
takes-read rem a b true f good still flex first r = takes-found rem a b f good still flex first r
takes-read rem a b false f good still flex first r =
    let k = some-known (source_of rem a) good.known in
    let none = rows-end rem a b f default_config k.0 good.config k.1 r in
    left-at rem a k.0 k.1 ∙ after-none (reader_state a) k.0 none
