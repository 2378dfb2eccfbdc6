-- Why an insert is refused: the count is at its limit, or the log is full. Assumes nothing.
use Rattle.std.proofs.Common.{◌≡◌, ℕ, zero, suc, ◌+◌, ◌-◌, ◌*◌, ◌<◌, ◌≤◌, Bool, true, false, cond, ltb, ◌||◌, ◌⊎◌, List, length, Some, None, Err, Option, is_some, is_none, sym, refl, ap, ◌∙◌, inl, inr, ⊎_elim, arith}
use Rattle.std.proofs.lemmas.Bool.{cases_lt, cases_eq, ltb-false, or_parts}
use Rattle.std.proofs.lemmas.Option.{slice_get_within}
use Rattle.faults.specs.declared.faults.Fault.{Fault}
use Rattle.faults.specs.declared.faults.Reason.TheVariants.{CountAtLimit, LogFull}
use Rattle.sampling.specs.Answers.{refusal}
use Rattle.sampling.specs.Draws.{slot_of}
use Rattle.sampling.specs.Samples.{numbered}
use Rattle.stores.specs.Meanings.{Meaning}
use Rattle.cards.specs.Memories.{Memory}
use Rattle.cards.specs.Verdicts.{and_then, check}
use Rattle.workings.specs.Inserts.{next_slot, insert_test}
use Rattle.recovery.proofs.Opens.{Open}
use Rattle.ledgers.specs.Candidates.{candidates}

candidates_more : (seed size since n : ℕ) → candidates seed size since (suc n) ≡ candidates seed size since n + cond (is_some (slot_of seed size (since + suc n))) 1 0
unfolding candidates
candidates_more seed size since n = refl

-- ascending candidates that come after the first `since` records and lie among the n next are no more than these have
pub no_more : (seed size since n c : ℕ) (number : ℕ → ℕ) → ((j : ℕ) → j < c → since < number j) → ((j : ℕ) → j < c → number j ≤ since + n)
    → ((i j : ℕ) → i < j → j < c → number i < number j) → ((j : ℕ) → j < c → (s : ℕ) × (slot_of seed size (number j) ≡ Some s)) → c ≤ candidates seed size since n
no_more seed size since zero zero number low high up is = omega arith
no_more seed size since zero (suc c) number low high up is = let a = low 0 (omega arith) in let b = high 0 (omega arith) in absurd (omega arith)
no_more seed size since (suc n) zero number low high up is = omega arith
no_more seed size since (suc n) (suc c) number low high up is =
    let more = candidates_more seed size since n in
    ⊎_elim
    (λ (e : number c ≡ since + suc n).
    let fewer : c ≤ candidates seed size since n =
    no_more seed size since n c number (λ j l. low j (omega arith)) (λ j l. let a = up j c l (omega arith) in omega arith) (λ i j l k. up i j l (omega arith)) (λ j l. is j (omega arith)) in
    let last = is c (omega arith) in
    let slot : slot_of seed size (since + suc n) ≡ Some last.0 = ap (slot_of seed size) (sym e) ∙ last.1 in
    let one : candidates seed size since (suc n) ≡ candidates seed size since n + 1 = more ∙ rw slot refl in
    omega arith)
    (λ (ne : number c ≡ since + suc n → ⊥).
    let last = high c (omega arith) in
    let fewer : suc c ≤ candidates seed size since n =
    no_more seed size since n (suc c) number low
    (λ j l. ⊎_elim (λ (k : j < c). let a = up j c k (omega arith) in omega arith) (λ (k : c ≤ j). let same : j ≡ c = omega arith in rw same (omega arith)) (cases_lt j c)) up is in
    omega arith)
    (cases_eq (number c) (since + suc n))

numbered_within : {R : Type 0} (rs : List R) (k : ℕ) (r : R) → numbered rs k ≡ Some r → k ≤ length rs
numbered_within rs zero r e = omega arith
numbered_within rs (suc k) r e = let a = slice_get_within rs k r e in omega arith

-- an open sampler's log has no more entries than candidates came since the log was last emptied
pub enough : {base n : ℕ} {m : Meaning} {t : Memory} {rs : List (List ℕ)} → Open base m t rs n → t.head.entries ≤ candidates t.head.seed t.head.size base (length rs - base)
enough {base} {t = t} {rs} o =
    let all = o.rest.counts.all in
    let begun = all.begun in
    no_more t.head.seed t.head.size base (length rs - base) t.head.entries (λ j. (o.log j).number) (λ j l. (all.logged j l).newer)
    (λ j l. let a = numbered_within rs (o.log j).number (o.log j).bytes (all.logged j l).record_is in omega arith)
    all.ascend (λ j l. ((all.logged j l).slot, (all.logged j l).has_slot))

-- of two checks the first that fails is the refusal
first_failed : (a b : Bool) (d e f : Fault) → and_then (check a d) (λ _. check b e) ≡ Err f → ((a ≡ false) × (f ≡ d)) ⊎ ((b ≡ false) × (f ≡ e))
first_failed false b d e f z = inl (refl, cc)
first_failed true false d e f z = inr (refl, cc)
first_failed true true d e f z = absurd cc

is_some_of : (o : Option ℕ) → is_none o ≡ false → (s : ℕ) × (o ≡ Some s)
is_some_of None e = absurd cc
is_some_of (Some s) e = (s, refl)

-- THE TESTS OF AN INSERT, refused
pub insert_refused : (t : Memory) (e : Fault) → insert_test t ≡ Err e
    → ((4000000000 ≤ t.head.count) × (e ≡ refusal CountAtLimit t.head.count))
    ⊎ ((31 * t.head.log_blocks ≤ t.head.entries) × ((s : ℕ) × (next_slot t ≡ Some s)) × (e ≡ refusal LogFull t.head.entries))
insert_refused t e z =
    ⊎_elim (λ y. inl (ltb-false t.head.count 4000000000 y.0, y.1))
    (λ y. let parts = or_parts (is_none (next_slot t)) (ltb t.head.entries (31 * t.head.log_blocks)) y.0 in
    inr (ltb-false t.head.entries (31 * t.head.log_blocks) parts.1, is_some_of (next_slot t) parts.0, y.1))
    (first_failed (ltb t.head.count 4000000000) (is_none (next_slot t) || ltb t.head.entries (31 * t.head.log_blocks)) _ _ e z)
