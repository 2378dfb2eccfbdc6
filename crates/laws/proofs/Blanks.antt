-- What an accepted format leaves is the open sampler of no records. Assumes nothing.
use Rattle.std.proofs.Common.{◌≡◌, ℕ, ◌+◌, ◌-◌, ◌*◌, ◌%◌, ◌^◌, ◌<◌, ◌≤◌, Bool, true, false, cond, leb, List, [], length, replicate, take, drop, Some, Ok, Err, Option, is_some, sym, refl, ap, ◌∙◌, arith}
use Rattle.std.specs.List.{slice_get}
use Rattle.std.proofs.lemmas.Bool.{leb-true, and_parts}
use Rattle.std.proofs.lemmas.Grind.{common_steps}
use Rattle.std.proofs.lemmas.List.{length-replicate, take-replicate, drop-replicate}
use Rattle.std.proofs.lemmas.Option.{gets, slice_get_within}
use Rattle.faults.specs.declared.faults.Fault.{Fault}
use Rattle.sampling.specs.Answers.{is_size}
use Rattle.sampling.specs.Samples.{newest}
use Rattle.stores.specs.Meanings.{Meaning, whole}
use Rattle.layouts.specs.Shapes.{is_log, shape_of, blocks}
use Rattle.layouts.specs.Slots.{slot_at}
use Rattle.layouts.specs.declared.entries.Entry.{Entry}
use Rattle.formats.specs.Formats.{Formatted, zeros}
use Rattle.samples.specs.Memories.{new_head, blank_memory}
use Rattle.recovery.proofs.Frames.{Frame, InLimits}
use Rattle.recovery.proofs.Opens.{Open}
use Rattle.recovery.proofs.Standings.{Fit, Counting, Just}
use Rattle.recovery.proofs.Tellings.{sampled, Tells}
use Rattle.recovery.proofs.TellingLaws.{newest_none}

none_sampled : (f : Frame) (s : ℕ) → sampled f [] s ≡ replicate 12 0
unfolding sampled newest
none_sampled f s = refl

in_limits : (a b : Bool) (e f : Fault) (x y : ℕ × ℕ) → cond a (cond b (Ok x) (Err e)) (Err f) ≡ Ok y → (a ≡ true) × (b ≡ true)
in_limits true true e f x y h = (refl, refl)
in_limits true false e f x y h = absurd cc
in_limits false b e f x y h = absurd cc

-- the limits of a shape
pub limits_of : (code seed size log_blocks base : ℕ) → 0 < code → seed < 2 ^ 64 → shape_of size log_blocks ≡ Ok (size, log_blocks)
    → InLimits (record { kind = code; seed = seed; size = size; log_blocks = log_blocks; base = base })
limits_of code seed size log_blocks base coded seeded shape =
    let both = in_limits (is_size size) (is_log log_blocks) _ _ _ _ shape in
    let a = and_parts (leb 1 size) (leb size 672) both.0 in
    let b = and_parts (leb 1 log_blocks) (leb log_blocks 64) both.1 in
    record { coded = coded; seeded = seeded; some = leb-true 1 size a.0; most = leb-true size 672 a.1; logged = leb-true 1 log_blocks b.0; limited = leb-true log_blocks 64 b.1 }

same_part : (n a k y : ℕ) → k + a ≤ n → take a (drop k (replicate n y)) ≡ replicate a y
same_part n a k y l = rw (drop-replicate k n y) (take-replicate a (n - k) y (omega arith))

zero_slot : (k : ℕ) → k < 42 → slot_at (replicate 504 0) k ≡ replicate 12 0
zero_slot k l = same_part 504 12 (12 * k) 0 (omega arith)

all_same : {A : Type 0} (n s : ℕ) (y : A) → s < n → slice_get (replicate n y) s ≡ Some y
all_same n s y l = grind (arith, common_steps, gets)

only_same : {A : Type 0} (n s : ℕ) (y z : A) → slice_get (replicate n y) s ≡ Some z → z ≡ y
only_same n s y z e =
    let a = slice_get_within (replicate n y) s z e in
    let long = length-replicate n y in
    let b = all_same n s y (omega arith) in
    cc

row_long : (n : ℕ) (y bs : List ℕ) (s : ℕ) → slice_get (replicate n y) s ≡ Some bs → length bs ≡ length y
row_long n y bs s e = ap length (only_same n s y bs e)

length_zeros : (n : ℕ) → length (replicate {A = ℕ} n 0) ≡ n
length_zeros n = let y : ℕ = 0 in length-replicate n y

none : Entry
none = record { number = 0; bytes = [] }

no_rows : ℕ → List ℕ
no_rows s = replicate 12 0

module _ (m n : Meaning) (code size log_blocks seed : ℕ) (coded : 0 < code) (shape : shape_of size log_blocks ≡ Ok (size, log_blocks)) (room : blocks size log_blocks ≤ m.size)
    (seeded : seed < 2 ^ 64) (done : Formatted m n (new_head code size log_blocks seed)) where
  abbrev f : Frame
  f = record { kind = code; seed = seed; size = size; log_blocks = log_blocks; base = 0 }

  -- what is read fits, however many entries it is asked for below 0
  fits : (c : ℕ) → c ≤ 0 → (b : ℕ) (bs : List ℕ) → b < m.size → n.reads b ≡ whole bs → Fit f (Counting f 0 0) (Just no_rows) (λ _. none) c b bs
  unfolding no_rows
  fits c le b bs l e = record {
    head = λ z. let h = done.head in let at : n.reads 0 ≡ whole bs = ap n.reads (sym z) ∙ e in cc;
    row = λ s k z.
        let zero : n.reads b ≡ whole zeros = done.blank b (omega arith) (omega arith) in
        let same : bs ≡ replicate 504 0 = cc in
        rw same (zero_slot (s % 42) (omega arith));
    entry = λ j k z. absurd (omega arith);
  }

  tells : Tells f [] no_rows (λ _. none) 0
  unfolding no_rows
  tells = record {
    begun = omega arith;
    logged = λ j l. absurd (omega arith);
    ascend = λ i j l h. absurd (omega arith);
    slots = λ s l. rw (newest_none f (λ _. none) s) (sym (none_sampled f s));
  }

  pub blank_open : Open 0 n (blank_memory code size log_blocks seed) [] 0
  blank_open = record {
    rows = no_rows;
    log = λ _. none;
    limits = limits_of code seed size log_blocks 0 coded seeded shape;
    rest = record {
      standing = record {
        on = done.on;
        room = rw done.size room;
        stands = λ b bs l st. let k : b < m.size = rw (← done.size) l in fits 0 (omega arith) b bs k (sym (done.settled.only b (whole bs) l st));
        reads = λ b bs l e. let k : b < m.size = rw (← done.size) l in fits _ (omega arith) b bs k e;
      };
      counts = record { fits = omega arith; counted = omega arith; early = omega arith; order = omega arith; settled = tells; all = tells };
    };
    shape = record { rows = length-replicate 672 (replicate {A = ℕ} 12 0); row = λ s bs e. row_long 672 (replicate {A = ℕ} 12 0) bs s e; flags = length-replicate 672 false; work = length_zeros 504 };
    count = refl;
    held = λ s l. all_same 672 s (replicate {A = ℕ} 12 0) l ∙ ap {B = Option (List ℕ)} Some (sym (none_sampled f s));
    flagged = λ s l. all_same 672 s false l ∙ ap (λ (o : Option (List ℕ)). Some (is_some o)) (sym (newest_none f (λ _. none) s));
    working = λ j l e. absurd (omega arith);
  }
