-- How feeds are loaded one after the other, and an order behind them.
use Rattle.std.specs.Prelude.{◌-◌}
use Rattle.std.proofs.Common.{◌≡◌, ◌<◌, ◌+◌, ◌++◌, ℕ, Bool, List, [], ◌∷◌, drop, get_or, length, Option, Some, Result, Ok, Err, IfErr, refl, sym, ap, subst, ◌∙◌}
use Rattle.std.proofs.lemmas.List.{drop_more}
use Rattle.std.specs.List.{AllByRecursion}
use Rattle.ct_catalog.specs.declared.table.TableDef.{TableDef}
use Rattle.ct_io.specs.Holdings.{Holdings, Whole, loaded}
use Rattle.job_ending.specs.declared.halt.Halt.{Halt}
use Rattle.job_ending.specs.declared.halt.Halt.TheVariants.{Script, Change, Order, Range, Limit, ReadFault, WriteFault, Memory}
use Rattle.job_ending.specs.declared.ending.Ending.TheVariants as e
use Rattle.job_ending.specs.declared.ending.LimitName.TheVariants.{Changes as ChangesLimit, Order as OrderLimit}
use Rattle.job_ending.specs.Outcome.{Outcome, ends}
use Rattle.job_ending.specs.Runs.{HaltsAs, IsBefore}
use Rattle.job_text.specs.Orders.{orders_of}
use Rattle.job_text.specs.declared.orders.OrderLine.{OrderLine}
use Rattle.source_lines.specs.declared.supply.ChangeFiles.{ChangeFiles}
use Rattle.job_run.specs.Outcome.{after_load, after_order, feed_name, over_feeds, with_order}
use Rattle.job_run.proofs.Loads.{halts_later}

-- over the feeds of tables the outcome is that over those of the tables which are left, behind the feeds that were loaded
abbrev pub LeadTo : Option Holdings → List ℕ → ℕ → List TableDef → ℕ → List TableDef → List (List ℕ) → Type 0
LeadTo told prefix limit tables left others feeds = (h : Holdings) → told ≡ Some h → (next : ChangeFiles → Outcome) → over_feeds h prefix limit tables [] next ≡ over_feeds h prefix left others feeds next

module _ (told : Option Holdings) (prefix : List ℕ) (limit : ℕ) (tables : List TableDef) where
  pub leads_first : LeadTo told prefix limit tables limit tables []
  leads_first h is next = refl

  -- the next table, by its index
  pub next_table : (left : ℕ) (i : ℕ) (table : TableDef) (feeds : List (List ℕ)) → i < length tables → table ≡ get_or tables i table → LeadTo told prefix limit tables left (drop i tables) feeds → LeadTo told prefix limit tables left (table ∷ drop (i + 1) tables) feeds
  next_table left i table feeds within is =
      subst (λ (others : List TableDef). LeadTo told prefix limit tables left others feeds) (drop_more tables i table within ∙ ap (λ (t : TableDef). t ∷ drop (i + 1) tables) (sym is))

  module _ (left : ℕ) (table : TableDef) (others : List TableDef) (feeds : List (List ℕ)) (leads : LeadTo told prefix limit tables left (table ∷ others) feeds) where
    -- one feed more is loaded
    pub leads_on : (bytes : List ℕ) → ((h : Holdings) → told ≡ Some h → loaded h (feed_name prefix table) left ≡ Whole bytes) → LeadTo told prefix limit tables (left - length bytes) others (feeds ++ bytes ∷ [])
    leads_on bytes whole h is next = leads h is next ∙ ap (after_load ChangesLimit (λ bs. over_feeds h prefix (left - length bs) others (feeds ++ bs ∷ []) next)) (whole h is)

    -- the next feed isn't loaded
    pub feed_halts : (now : Option Holdings) (read later : Type 0) (halt : Halt) → now ≡ told → (later → read)
        → ((next : Holdings → List ℕ → Outcome) → HaltsAs now (λ h. after_load ChangesLimit (next h) (loaded h (feed_name prefix table) left)) later halt)
        → (next : Holdings → ChangeFiles → Outcome) → HaltsAs told (λ h. over_feeds h prefix limit tables [] (next h)) read halt
    feed_halts now read later halt same more halts next =
        halts_later told now read later (λ h. over_feeds h prefix left (table ∷ others) feeds (next h)) (λ h. over_feeds h prefix limit tables [] (next h)) halt same more (λ h is. leads h is (next h))
        (halts (λ h bs. over_feeds h prefix (left - length bs) others (feeds ++ bs ∷ []) (next h)))

-- one more in a list of which each has a property
pub all_more : {A : Type 0} (P : A → Type 0) (xs : List A) (x : A) → AllByRecursion P xs → P x → AllByRecursion P (xs ++ x ∷ [])
all_more P [] x all one = (one, tt)
all_more P (y ∷ ys) x all one = (all.0, all_more P ys x all.1 one)

-- ---- the order

module _ (told : Option Holdings) (name bytes : List ℕ) (by_table : Bool) (whole : (h : Holdings) → told ≡ Some h → loaded h name 67108864 ≡ Whole bytes) where
  order_is : (h : Holdings) → told ≡ Some h → (next : List OrderLine → Outcome) → with_order h (Some name) by_table next ≡ after_order next (orders_of by_table bytes)
  order_is h is next = ap (after_load OrderLimit (λ bs. after_order next (orders_of by_table bs))) (whole h is)

  module _ (read : Type 0) where
    bad_order : (halt : Halt) → ((next : List OrderLine → Outcome) → IsBefore halt (after_order next (orders_of by_table bytes))) → (next : Holdings → List OrderLine → Outcome) → HaltsAs told (λ h. with_order h (Some name) by_table (next h)) read halt
    bad_order Memory is next = tt
    bad_order WriteFault is next = absurd (is (λ orders. ends e.Done))
    bad_order ReadFault is next = absurd (is (λ orders. ends e.Done))
    bad_order (Script c n) is next = λ h at. order_is h at (next h) ∙ is (next h)
    bad_order (Change c n t) is next = λ h at. order_is h at (next h) ∙ is (next h)
    bad_order (Order c n) is next = λ h at. order_is h at (next h) ∙ is (next h)
    bad_order (Range n m r tys) is next = λ h at. order_is h at (next h) ∙ is (next h)
    bad_order (Limit l) is next = λ h at. order_is h at (next h) ∙ is (next h)

    pub order_refused : (order : Option (List ℕ)) → order ≡ Some name → (r : Result (List OrderLine) Halt) → IfErr r (λ halt. (next : List OrderLine → Outcome) → IsBefore halt (after_order next (orders_of by_table bytes)))
        → IfErr r (λ halt. (next : Holdings → List OrderLine → Outcome) → HaltsAs told (λ h. with_order h order by_table (next h)) read halt)
    order_refused order named (Ok orders) is = tt
    order_refused order named (Err halt) is =
        subst (λ (o : Option (List ℕ)). (next : Holdings → List OrderLine → Outcome) → HaltsAs told (λ h. with_order h o by_table (next h)) read halt) (sym named) (bad_order halt is)
