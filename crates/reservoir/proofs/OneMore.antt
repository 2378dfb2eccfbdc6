-- One more record in the rows of a reservoir. Assumes nothing.
use Rattle.std.proofs.Common.{◌≡◌, ℕ, ◌+◌, ◌<◌, ◌≤◌, true, cond, eqb, List, [], ◌∷◌, ◌++◌, length, get_or, set, Some, None, Ok, Option, Result, sym, refl, ap, ◌∙◌, arith, length-append}
use Rattle.std.proofs.lemmas.Bool.{lt-ltb}
use Rattle.std.proofs.lemmas.Bool.Decides.{nat_tests}
use Rattle.std.proofs.lemmas.Grind.{common_steps}
use Rattle.faults.specs.declared.faults.Fault.{Fault}
use Rattle.sampling.specs.Answers.{has_room, counted, insert_answer}
use Rattle.sampling.specs.Draws.{slot_of}
use Rattle.sampling.specs.Samples.{is_slot}
use Rattle.sampling.proofs.SampleLaws.{sample_one_more}
use Rattle.reservoir.specs.Keeps.{Rows, Keeps, placed}
use Rattle.reservoir.specs.declared.reservoirs.Reservoir.{Reservoir}

set_at : {K : Type 0} (rows : List (Option K)) (s i : ℕ) (x : K) → i < length rows
    → get_or (set rows s (Some x)) i None ≡ cond (eqb s i) (Some x) (get_or rows i None)
set_at rows s i x h = grind (arith, common_steps, nat_tests)

placed_at : {K : Type 0} (rows : List (Option K)) (o : Option ℕ) (i : ℕ) (x : K) → i < length rows
    → get_or (placed rows o x) i None ≡ cond (is_slot o i) (Some x) (get_or rows i None)
placed_at rows None i x h = refl
placed_at rows (Some s) i x h = set_at rows s i x h

-- the rows of the sample of one more record
rows_one_more : {K : Type 0} (seed size : ℕ) (rs : List K) (x : K) (rows : List (Option K)) → size ≤ length rows → Rows seed size rs rows
    → Rows seed size (rs ++ x ∷ []) (placed rows (slot_of seed size (length rs + 1)) x)
rows_one_more seed size rs x rows long before i h =
    placed_at rows (slot_of seed size (length rs + 1)) i x (omega arith)
    ∙ ap (λ v. cond (is_slot (slot_of seed size (length rs + 1)) i) (Some x) v) (before i h)
    ∙ sym (sample_one_more seed size rs x i)

-- an insert that is not refused
pub inserted : {K : Type 0} (seed size : ℕ) (rs : List K) (x : K) (a b : Reservoir K) (slot : Option ℕ)
    → Keeps seed size rs a → a.count < 4000000000 → a.size ≤ length a.rows → slot ≡ slot_of a.seed a.size (a.count + 1)
    → b.seed ≡ a.seed → b.size ≡ a.size → b.count ≡ a.count + 1 → b.rows ≡ placed a.rows slot x
    → (◌≡◌ {A = Result (Option ℕ) Fault} (Ok slot) (insert_answer seed size rs)) × Keeps seed size (counted rs x) b
inserted seed size rs x a b slot h below long e seed-same size_same one_more rows-after =
    let n = h.count_is in
    let room : has_room rs ≡ true = lt-ltb _ _ (omega arith) in
    let slot_is : slot ≡ slot_of seed size (length rs + 1) = e ∙ (rw (h.seed_is, h.size_is, h.count_is) refl) in
    let long-enough : size ≤ length a.rows = rw (← h.size_is) long in
    let rows : Rows seed size (rs ++ x ∷ []) b.rows = rw (rows-after, slot_is) (rows_one_more seed size rs x a.rows long-enough h.rows_are) in
    rw room (ap Ok slot_is, record { seed_is = seed-same ∙ h.seed_is; size_is = size_same ∙ h.size_is; count_is = one_more ∙ rw (n, length-append) refl; rows_are = rows })
