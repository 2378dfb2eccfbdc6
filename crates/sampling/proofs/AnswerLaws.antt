-- What a sample answers is what the rule says. Assumes nothing.
use Rattle.std.proofs.Common.{◌≡◌, ℕ, ◌<◌, ◌≤◌, min, Bool, true, false, cond, ltb, List, length, Some, None, Err, Option, Result, sym, refl, ◌∙◌, subst, ⊎_elim, arith, MatchResult}
use Rattle.std.proofs.lemmas.Bool.{cases_lt, lt-ltb, true≢false}
use Rattle.std.specs.Option.{ok_or}
use Rattle.faults.specs.declared.faults.Fault.{Fault}
use Rattle.faults.specs.declared.faults.Reason.TheVariants.{EmptySlot, NoSuchSlot}
use Rattle.sampling.specs.Answers.{refusal, slot_answer}
use Rattle.sampling.specs.Samples.{sample_at, Holds}
use Rattle.sampling.proofs.SampleLaws.{sample_holds, sample_filled}

-- a slot that is not filled is past the size or the count
unfilled : {R : Type 0} (seed size : ℕ) (rs : List R) (i : ℕ) → sample_at seed size rs i ≡ None → min (length rs) size ≤ i
unfilled seed size rs i e =
    ⊎_elim
    (λ (h : i < min (length rs) size).
    let some = sample_filled seed size rs i h in let is = some.1 in cc)
    (λ h. h) (cases_lt i (min (length rs) size))

past : (i size n : ℕ) → ltb i size ≡ false → min n size ≤ i
past i size n e = ⊎_elim (λ (h : i < size). absurd (true≢false (sym (lt-ltb i size h) ∙ e))) (λ (h : size ≤ i). omega arith) (cases_lt i size)

by_cases : {R : Type 0} (seed size : ℕ) (rs : List R) (i : ℕ) (b : Bool) (o : Option R) → ltb i size ≡ b → sample_at seed size rs i ≡ o
    → MatchResult (cond b (ok_or o (refusal EmptySlot i)) (Err (refusal NoSuchSlot i))) (λ r. Holds seed size rs i r) (λ _. min (length rs) size ≤ i)
by_cases seed size rs i true None below e = unfilled seed size rs i e
by_cases seed size rs i true (Some r) below e = sample_holds seed size rs i r e
by_cases seed size rs i false o below e = past i size (length rs) below

-- the record in a slot is the rule's, and where there is none, none has filled it
pub slot_rule : {R : Type 0} (seed size : ℕ) (rs : List R) (i : ℕ) (r : Result R Fault) → r ≡ slot_answer seed size rs i
    → MatchResult r (λ x. Holds seed size rs i x) (λ _. min (length rs) size ≤ i)
slot_rule {R} seed size rs i r e =
    let P : Result R Fault → Type 0 = λ a. MatchResult a (λ x. Holds seed size rs i x) (λ _. min (length rs) size ≤ i) in
    subst P (sym e) (by_cases seed size rs i (ltb i size) (sample_at seed size rs i) refl refl)
