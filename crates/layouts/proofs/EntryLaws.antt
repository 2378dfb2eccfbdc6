-- What the entries of a log block are, once an entry is put at a place. Assumes nothing.
use Rattle.std.proofs.Common.{◌≡◌, ◌≢◌, ℕ, ◌+◌, ◌*◌, ◌^◌, ◌<◌, ◌≤◌, List, length, take, drop, sym, ◌∙◌, ap, arith, lit<, get_or, add-zero}
use Rattle.std.proofs.lemmas.List.{take_all, length-drop, length-take, drop-drop, drop-take, get_or-drop, get_or-take}
use Rattle.records.specs.Twelves.{four_back}
use Rattle.layouts.specs.Entries.{entry_bytes, entry_at, entry_bytes_at, with_entry}
use Rattle.layouts.specs.declared.entries.Entry.{Entry}
use Rattle.layouts.proofs.Spans.{span_here, span_other}

-- a block's byte at a place of an entry is that of the entry's own bytes
byte_at : (bs : List ℕ) (at k : ℕ) → k < 16 → get_or bs (at + k) 0 ≡ get_or (take 16 (drop at bs)) k 0
byte_at bs at k h = sym (get_or-take 16 (drop at bs) k 0 h ∙ get_or-drop at bs k 0)

bytes_at : (bs : List ℕ) (at : ℕ) → take 12 (drop (at + 4) bs) ≡ take 12 (drop 4 (take 16 (drop at bs)))
bytes_at bs at = ap (take 12) (sym (drop-drop 4 at bs)) ∙ sym (drop-take 4 12 (drop at bs)) ∙ sym (take_all 12 (drop 4 (take 16 (drop at bs))) (simp (length-drop, length-take) (omega arith)))

-- an entry is read from its own sixteen bytes alone
read_of : (bs : List ℕ) (place : ℕ) → entry_at bs place ≡ entry_at (entry_bytes_at bs place) 0
read_of bs place =
    let at = 16 * place in
    rw (rw add-zero at (byte_at bs at 0 (lit< tt)), byte_at bs at 1 (lit< tt), byte_at bs at 2 (lit< tt), byte_at bs at 3 (lit< tt), bytes_at bs at)

-- an entry's bytes are read as it
pub entry_back : (e : Entry) → e.number < 2 ^ 32 → length e.bytes ≡ 12 → entry_at (entry_bytes e) 0 ≡ e
entry_back e small long = rw (four_back e.number small, take_all 12 e.bytes (omega arith))

-- an entry that is put in a block is read at its place, and every other as before
pub entry_here : (bs : List ℕ) (place : ℕ) (e : Entry) → 16 * place + 16 ≤ length bs → length (entry_bytes e) ≡ 16 → entry_at (entry_bytes e) 0 ≡ e
    → entry_at (with_entry bs place e) place ≡ e
entry_here bs place e fit long back =
    read_of (with_entry bs place e) place ∙ ap (λ (xs : List ℕ). entry_at xs 0) (span_here 16 bs (entry_bytes e) place fit long) ∙ back

pub entry_other : (bs : List ℕ) (place other : ℕ) (e : Entry) → 16 * place + 16 ≤ length bs → length (entry_bytes e) ≡ 16 → (other ≢ place)
    → entry_at (with_entry bs place e) other ≡ entry_at bs other
entry_other bs place other e fit long ne =
    read_of (with_entry bs place e) other
    ∙ ap (λ (xs : List ℕ). entry_at xs 0) (span_other 16 bs (entry_bytes e) place other fit long ne)
    ∙ sym (read_of bs other)
