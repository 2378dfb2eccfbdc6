-- The sample's definition keeps its rule. Assumes nothing.
use Rattle.std.proofs.Common.{◌≡◌, ℕ, zero, suc, ◌+◌, ◌<◌, ◌≤◌, min, Bool, true, false, cond, List, [], ◌∷◌, ◌++◌, length, Some, None, Option, sym, refl, ap, ◌∙◌, ⊎_elim, add-one, arith, length-append}
use Rattle.std.proofs.lemmas.Bool.{eqb-true, eq-eqb, true≢false, cases_lt}
use Rattle.std.specs.List.{slice_get}
use Rattle.std.proofs.lemmas.Grind.{common_steps}
use Rattle.std.proofs.lemmas.Option.{gets, slice_get_cases}
use Rattle.sampling.specs.Draws.{slot_of}
use Rattle.sampling.specs.Samples.{numbered, Newest, Holds, is_slot, newest, numbered_by, sample_at, SampleLaw}
use Rattle.sampling.proofs.SlotLaws.{slot_early, slot_below, slot_counted}

is_slot_true : (o : Option ℕ) (i : ℕ) → is_slot o i ≡ true → o ≡ Some i
is_slot_true None i e = cc
is_slot_true (Some s) i e = ap {B = Option ℕ} Some (eqb-true s i e)

is_slot_of : (o : Option ℕ) (i : ℕ) → o ≡ Some i → is_slot o i ≡ true
is_slot_of o i e = rw e (eq-eqb i i refl)

pub newest_none : (seed size i : ℕ) → newest seed size i 0 ≡ None
unfolding newest
newest_none seed size i = refl

pub newest_more : (seed size i n : ℕ) → newest seed size i (suc n) ≡ cond (is_slot (slot_of seed size (suc n)) i) (Some (suc n)) (newest seed size i n)
unfolding newest
newest_more seed size i n = refl

-- the newest record of a slot is the rule's
newest_rule_more : (seed size i n k : ℕ) (b : Bool) → is_slot (slot_of seed size (suc n)) i ≡ b → cond b (Some (suc n)) (newest seed size i n) ≡ Some k
    → (newest seed size i n ≡ Some k → Newest seed size n i k) → Newest seed size (suc n) i k
newest_rule_more seed size i n k true e h before =
    let same : suc n ≡ k = cc in
    record { from_one = omega arith; counted = omega arith; has_slot = rw (← same) (is_slot_true _ i e); greatest = λ j lt le s. omega arith }
newest_rule_more seed size i n k false e h before =
    let was = before h in
    record {
      from_one = was.from_one;
      counted = omega arith;
      has_slot = was.has_slot;
      greatest = λ j lt le s. ⊎_elim (λ (l : j < suc n). was.greatest j lt (omega arith) s)
          (λ (g : suc n ≤ j). let same : j ≡ suc n = omega arith in
          let t : is_slot (slot_of seed size (suc n)) i ≡ true = rw (← same) (is_slot_of _ i s) in true≢false (sym t ∙ e))
          (cases_lt j (suc n));
    }

pub newest_rule : (seed size i n k : ℕ) → newest seed size i n ≡ Some k → Newest seed size n i k
newest_rule seed size i zero k e = let n = newest_none seed size i in cc
newest_rule seed size i (suc n) k e =
    newest_rule_more seed size i n k _ refl (sym (newest_more seed size i n) ∙ e) (newest_rule seed size i n k)

-- and the rule's is that
rule_newest_more : (seed size i n k : ℕ) (b : Bool) → is_slot (slot_of seed size (suc n)) i ≡ b → Newest seed size (suc n) i k
    → (Newest seed size n i k → newest seed size i n ≡ Some k) → cond b (Some (suc n)) (newest seed size i n) ≡ Some k
rule_newest_more seed size i n k true e h before =
    ⊎_elim (λ (l : k < suc n). absurd (h.greatest (suc n) l (omega arith) (is_slot_true _ i e)))
    (λ (g : suc n ≤ k). let c = h.counted in let same : suc n ≡ k = omega arith in ap {B = Option ℕ} Some same) (cases_lt k (suc n))
rule_newest_more seed size i n k false e h before =
    ⊎_elim
    (λ (l : k < suc n). before (record { from_one = h.from_one; counted = omega arith; has_slot = h.has_slot; greatest = λ j lt le s. h.greatest j lt (omega arith) s }))
    (λ (g : suc n ≤ k). let c = h.counted in let same : k ≡ suc n = omega arith in
    let t : is_slot (slot_of seed size (suc n)) i ≡ true = rw (← same) (is_slot_of _ i h.has_slot) in absurd (true≢false (sym t ∙ e)))
    (cases_lt k (suc n))

pub rule_newest : (seed size i n k : ℕ) → Newest seed size n i k → newest seed size i n ≡ Some k
rule_newest seed size i zero k h = let a = h.from_one in let b = h.counted in absurd (omega arith)
rule_newest seed size i (suc n) k h =
    newest_more seed size i n ∙ rule_newest_more seed size i n k _ refl h (rule_newest seed size i n k)

-- the sample
holds_by : {R : Type 0} (seed size : ℕ) (rs : List R) (i : ℕ) (r : R) (o : Option ℕ) → newest seed size i (length rs) ≡ o
    → numbered_by rs o ≡ Some r → Holds seed size rs i r
holds_by seed size rs i r None e h = cc
holds_by seed size rs i r (Some k) e h = record { number = k; newest_is = newest_rule seed size i (length rs) k e; record_is = h }

pub sample_holds : {R : Type 0} (seed size : ℕ) (rs : List R) (i : ℕ) (r : R) → sample_at seed size rs i ≡ Some r → Holds seed size rs i r
sample_holds seed size rs i r e = holds_by seed size rs i r _ refl e

pub sample_held : {R : Type 0} (seed size : ℕ) (rs : List R) (i : ℕ) (r : R) → Holds seed size rs i r → sample_at seed size rs i ≡ Some r
sample_held seed size rs i r h = rw (rule_newest seed size i (length rs) h.number h.newest_is) h.record_is

-- a slot below both the size and the count has a record
some_newest_more : (seed size i n : ℕ) (b : Bool) → is_slot (slot_of seed size (suc n)) i ≡ b → i < suc n → i < size
    → (i < n → (k : ℕ) × (newest seed size i n ≡ Some k)) → (k : ℕ) × (cond b (Some (suc n)) (newest seed size i n) ≡ Some k)
some_newest_more seed size i n true e h below before = (suc n, refl)
some_newest_more seed size i n false e h below before =
    ⊎_elim before (λ (g : n ≤ i). let same : i ≡ n = omega arith in
    let t : is_slot (slot_of seed size (suc n)) i ≡ true = rw (← same) (is_slot_of _ i (slot_early seed size i below)) in absurd (true≢false (sym t ∙ e)))
    (cases_lt i n)

some_newest : (seed size i n : ℕ) → i < n → i < size → (k : ℕ) × (newest seed size i n ≡ Some k)
some_newest seed size i zero h below = absurd (omega arith)
some_newest seed size i (suc n) h below =
    rw newest_more (some_newest_more seed size i n _ refl h below (λ l. some_newest seed size i n l below))

numbered_some : {R : Type 0} (rs : List R) (k : ℕ) → 0 < k → k ≤ length rs → (r : R) × (numbered rs k ≡ Some r)
numbered_some rs zero h l = absurd (omega arith)
numbered_some rs (suc k) h l =
    ⊎_elim (λ i. (i.0, i.2)) (λ (past : (length rs ≤ k) × (slice_get rs k ≡ None)). absurd (omega (arith, past.0))) (slice_get_cases rs k).1

pub sample_filled : {R : Type 0} (seed size : ℕ) (rs : List R) (i : ℕ) → i < min (length rs) size → (r : R) × (sample_at seed size rs i ≡ Some r)
sample_filled seed size rs i h =
    let some = some_newest seed size i (length rs) (omega arith) (omega arith) in
    let is = newest_rule seed size i (length rs) some.0 some.1 in
    let r = numbered_some rs some.0 is.from_one is.counted in
    (r.0, rw some.1 r.1)

-- and any other has none
none_by : {R : Type 0} (seed size : ℕ) (rs : List R) (i : ℕ) (o : Option ℕ) → newest seed size i (length rs) ≡ o → min (length rs) size ≤ i → numbered_by rs o ≡ None
none_by seed size rs i None e h = refl
none_by seed size rs i (Some k) e h =
    let is = newest_rule seed size i (length rs) k e in
    let a = slot_below seed size k i is.has_slot in
    let b = slot_counted seed size k i is.has_slot in
    let c = is.counted in
    absurd (omega arith)

pub sample_unfilled : {R : Type 0} (seed size : ℕ) (rs : List R) (i : ℕ) → min (length rs) size ≤ i → sample_at seed size rs i ≡ None
sample_unfilled seed size rs i h = none_by seed size rs i _ refl h

-- one more record
nth_more : {R : Type 0} (rs ys : List R) (k : ℕ) → k < length rs → slice_get (rs ++ ys) k ≡ slice_get rs k
nth_more rs ys k h = grind (arith, common_steps, gets)

nth_last : {R : Type 0} (rs : List R) (r : R) → slice_get (rs ++ r ∷ []) (length rs) ≡ Some r
nth_last rs r = grind (arith, common_steps, gets)

numbered_by_more : {R : Type 0} (rs ys : List R) (o : Option ℕ) → ((k : ℕ) → o ≡ Some k → k ≤ length rs) → numbered_by (rs ++ ys) o ≡ numbered_by rs o
numbered_by_more rs ys None h = refl
numbered_by_more rs ys (Some zero) h = refl
numbered_by_more rs ys (Some (suc k)) h = nth_more rs ys k (h (suc k) refl)

chosen : {R : Type 0} (rs : List R) (r : R) (b : Bool) (o : Option ℕ) → numbered_by (rs ++ r ∷ []) o ≡ numbered_by rs o
    → numbered_by (rs ++ r ∷ []) (cond b (Some (suc (length rs))) o) ≡ cond b (Some r) (numbered_by rs o)
chosen rs r true o h = nth_last rs r
chosen rs r false o h = h

pub sample_one_more : {R : Type 0} (seed size : ℕ) (rs : List R) (r : R) (i : ℕ)
    → sample_at seed size (rs ++ r ∷ []) i ≡ cond (is_slot (slot_of seed size (length rs + 1)) i) (Some r) (sample_at seed size rs i)
sample_one_more seed size rs r i =
    let older = numbered_by_more rs (r ∷ []) (newest seed size i (length rs)) (λ k e. (newest_rule seed size i (length rs) k e).counted) in
    rw (length-append, add-one, newest_more) (chosen rs r (is_slot (slot_of seed size (suc (length rs))) i) _ older)

pub sample_law : (R : Type 0) (seed size : ℕ) → SampleLaw R seed size
sample_law R seed size =
    record { holds = sample_holds seed size; held = sample_held seed size; filled = sample_filled seed size; unfilled = sample_unfilled seed size; one_more = sample_one_more seed size }
