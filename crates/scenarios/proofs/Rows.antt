-- The rows of a report, made of what its slots answer. Assumes nothing.
use Rattle.std.proofs.Common.{◌≡◌, ℕ, zero, suc, ◌+◌, ◌<◌, ◌≤◌, List, [], ◌∷◌, ◌++◌, map, Some, None, Option, Result, sym, refl, ap, ◌∙◌, arith}
use Rattle.std.proofs.lemmas.List.{map-append}
use Rattle.std.proofs.lemmas.Bool.{lt-ltb}
use Rattle.std.proofs.lemmas.List.Elements.{filter_map-append}
use Rattle.std.specs.List.{filter_map, cons_option, range_with_len}
use Rattle.std.specs.Option.{option_map, ok_or}
use Rattle.std.specs.Result.{result_ok}
use Rattle.faults.specs.declared.faults.Fault.{Fault}
use Rattle.faults.specs.declared.faults.Reason.TheVariants.{EmptySlot}
use Rattle.records.specs.Offsets.{Fields, offset_fields}
use Rattle.records.specs.declared.offsets.Offset.{Offset}
use Rattle.reservoir.specs.declared.reservoirs.Reservoir.{Reservoir}
use Rattle.sampling.specs.Answers.{refusal, slot_answer}
use Rattle.sampling.specs.Samples.{sample_at}
use Rattle.sampling.proofs.ViewLaws.{sample_map}
use Rattle.scenarios.specs.Replies.{row, rows_below}
use Rattle.scenarios.specs.Answering.{KeepsFields, row_of}
use Rattle.scenarios.specs.declared.answers.Row.{Row}

-- the row made of a slot's answer
abbrev pub row_answered : ℕ → Result Offset Fault → Option Row
row_answered i r = option_map (λ x. record { slot = i; offset = x }) (result_ok r)

row_shown : (i : ℕ) (o : Option Offset) (f : Fault) → map row_of (cons_option (row_answered i (ok_or o f)) []) ≡ row i (option_map offset_fields o)
row_shown i None f = refl
row_shown i (Some x) f = refl

at_slot : (seed size : ℕ) (xs : List Fields) (i : ℕ) (s : Reservoir Offset) (k : KeepsFields seed size xs s) → i < size
    → map row_of (cons_option (row_answered i (slot_answer seed size k.records i)) []) ≡ row i (sample_at seed size xs i)
at_slot seed size xs i s k h =
    rw (lt-ltb i size h) (row_shown i (sample_at seed size k.records i) (refusal EmptySlot i))
    ∙ ap (row i) (sym (sample_map offset_fields seed size k.records i) ∙ ap (λ ys. sample_at seed size ys i) k.fields_are)

-- a longer range ends in one number more
range_more : (a n m : ℕ) → a + n ≡ m → range_with_len a (suc n) ≡ range_with_len a n ++ m ∷ []
range_more a zero m e = let same : a ≡ m = omega arith in ap (λ k. k ∷ []) same
range_more a (suc n) m e = ap (λ l. a ∷ l) (range_more (a + 1) n m (omega arith))

-- the rows made of the answers of the slots below n
pub rows_answered : (seed size : ℕ) (xs : List Fields) (s : Reservoir Offset) (k : KeepsFields seed size xs s) (n : ℕ) → n ≤ size
    → map row_of (filter_map (λ i. row_answered i (slot_answer seed size k.records i)) (range_with_len 0 n)) ≡ rows_below n seed size xs
rows_answered seed size xs s k zero h = refl
rows_answered seed size xs s k (suc n) h =
    let made : ℕ → Option Row = λ i. row_answered i (slot_answer seed size k.records i) in
    ap (λ l. map row_of (filter_map made l)) (range_more 0 n n (omega arith))
    ∙ ap (map row_of) (filter_map-append made (range_with_len 0 n) (n ∷ []))
    ∙ map-append row_of (filter_map made (range_with_len 0 n)) (cons_option (made n) [])
    ∙ ap (λ l. l ++ map row_of (cons_option (made n) [])) (rows_answered seed size xs s k n (omega arith))
    ∙ ap (λ l. rows_below n seed size xs ++ l) (at_slot seed size xs n s k (omega arith))
