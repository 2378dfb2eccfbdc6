-- The records of a sample in memory, one after another. Assumes nothing.
use Rattle.std.proofs.Common.{◌≡◌, ℕ, zero, suc, ◌+◌, ◌<◌, ◌≤◌, true, ltb, List, [], ◌∷◌, ◌++◌, map, slice_index_or, slice_get, Some, Ok, Result, refl, sym, ap, ◌∙◌, arith, length, length-append}
use Rattle.std.proofs.lemmas.Option.{get_or_from_slice_get}
use Rattle.std.proofs.lemmas.List.{map-append, length-map}
use Rattle.std.proofs.Math.Numerals.{suc-eq-add-one}
use Rattle.std.proofs.lemmas.Bool.{lt-ltb}
use Rattle.faults.specs.declared.faults.Fault.{Fault}
use Rattle.cards.specs.Cards.{Card, slot_record, filled, row_of}
use Rattle.cards.specs.Memories.{Memory, Remembers}
use Rattle.layouts.specs.Heads.{Fields}
use Rattle.samples.specs.Memories.{slot_read}
use Rattle.cardreads.specs.Readings.{firsts, rows_of}

-- a filled slot has the record that stands in its row
slot_is : {K : Type 0} (bytes : K → List ℕ) (t : Memory) (s : ℕ) (r : K) → s < filled t.head → ◌≡◌ {A = Result (List ℕ) Fault} (Ok (bytes r)) (slot_read t s)
    → bytes r ≡ slice_index_or t.rows s []
slot_is bytes t s r h e =
    let inside : ltb s t.head.size ≡ true = lt-ltb _ _ (omega arith) in
    let full : ltb s (filled t.head) ≡ true = lt-ltb _ _ h in
    let read : slot_read t s ≡ Ok (slice_index_or t.rows s []) = rw (inside, full) refl in
    let both : ◌≡◌ {A = Result (List ℕ) Fault} (Ok (bytes r)) (Ok (slice_index_or t.rows s [])) = e ∙ read in
    cc

-- one record more
firsts_suc : (f : ℕ → List ℕ) (n : ℕ) → firsts f (n + 1) ≡ firsts f n ++ (f n ∷ [])
unfolding firsts
firsts_suc f n = ap (firsts f) (sym (suc-eq-add-one n))

pub one_more : {K : Type 0} (bytes : K → List ℕ) (t : Memory) (s : ℕ) (xs ys : List K) (r : K) → s < filled t.head
    → ◌≡◌ {A = Result (List ℕ) Fault} (Ok (bytes r)) (slot_read t s) → ys ≡ xs ++ r ∷ []
    → map bytes xs ≡ firsts (λ i. slice_index_or t.rows i []) s → map bytes ys ≡ firsts (λ i. slice_index_or t.rows i []) (s + 1)
one_more bytes t s xs ys r h e push before =
    rw push (map-append bytes xs (r ∷ []) ∙ rw (before, slot_is bytes t s r h e) (sym (firsts_suc (λ i. slice_index_or t.rows i []) s)))

-- as many as there are filled slots
pub length_firsts : (f : ℕ → List ℕ) (n : ℕ) → length (firsts f n) ≡ n
unfolding firsts
length_firsts f zero = refl
length_firsts f (suc n) = length-append (firsts f n) (f n ∷ []) ∙ ap (λ k. k + 1) (length_firsts f n) ∙ sym (suc-eq-add-one n)

-- a reading has as many records as its head has filled slots
pub as_many : {K : Type 0} (bytes : K → List ℕ) (xs : List K) (t : Memory) → map bytes xs ≡ rows_of t → length xs ≡ filled t.head
as_many bytes xs t e = sym (length-map xs bytes) ∙ ap length e ∙ length_firsts (λ s. slice_index_or t.rows s []) (filled t.head)

-- lists of the first slots are alike where each slot is
firsts_alike : (f k : ℕ → List ℕ) (n : ℕ) → ((s : ℕ) → s < n → f s ≡ k s) → firsts f n ≡ firsts k n
unfolding firsts
firsts_alike f k zero h = refl
firsts_alike f k (suc n) h = rw (firsts_alike f k n (λ s l. h s (omega arith)), h n (omega arith)) refl

-- a memory that remembers a card has the records of its filled slots
pub remembered : (h : Fields) (card : Card) (t : Memory) → h.size ≤ 672 → Remembers h card t → rows_of t ≡ firsts (slot_record h card) (filled h)
remembered h card t most r =
    rw r.head_is (firsts_alike (λ s. slice_index_or t.rows s []) (slot_record h card) (filled h) (λ s l.
    let full : ltb s (filled h) ≡ true = lt-ltb _ _ l in
    let row : slice_get t.rows s ≡ Some (row_of h card s) = r.row s (omega arith) in
    let same : row_of h card s ≡ slot_record h card s = rw full refl in
    get_or_from_slice_get t.rows s (row_of h card s) [] row ∙ same))
