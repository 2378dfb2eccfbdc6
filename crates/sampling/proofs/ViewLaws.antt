-- The sample of records that are shown in another way, as by their fields or their bytes, is the sample so shown.
-- Assumes nothing.
use Rattle.std.proofs.Common.{◌≡◌, ℕ, zero, suc, List, map, Some, None, Option, refl, arith}
use Rattle.std.proofs.lemmas.Grind.{common_steps}
use Rattle.std.proofs.lemmas.List.{length-map}
use Rattle.std.proofs.lemmas.Option.{slice_get-map}
use Rattle.std.specs.Option.{option_map}
use Rattle.records.specs.Reading.{shown_as}
use Rattle.sampling.specs.Answers.{counted, insert_answer, slot_answer}
use Rattle.sampling.specs.Samples.{numbered_by, sample_at}

numbered_by_map : {R S : Type 0} (f : R → S) (rs : List R) (o : Option ℕ) → numbered_by (map f rs) o ≡ option_map f (numbered_by rs o)
numbered_by_map f rs None = refl
numbered_by_map f rs (Some zero) = refl
numbered_by_map f rs (Some (suc k)) = slice_get-map f rs k

pub sample_map : {R S : Type 0} (f : R → S) (seed size : ℕ) (rs : List R) (i : ℕ) → sample_at seed size (map f rs) i ≡ option_map f (sample_at seed size rs i)
sample_map f seed size rs i = grind (arith, common_steps, numbered_by_map)

pub insert_map : {R S : Type 0} (f : R → S) (seed size : ℕ) (rs : List R) → insert_answer seed size (map f rs) ≡ insert_answer seed size rs
insert_map f seed size rs = rw (length-map rs f) refl

pub slot_map : {R S : Type 0} (f : R → S) (seed size : ℕ) (rs : List R) (i : ℕ) → slot_answer seed size (map f rs) i ≡ shown_as f (slot_answer seed size rs i)
slot_map f seed size rs i = grind (arith, sample_map)

pub counted_map : {R S : Type 0} (f : R → S) (rs : List R) (x : R) → map f (counted rs x) ≡ counted (map f rs) (f x)
counted_map f rs x = grind (arith, common_steps)
