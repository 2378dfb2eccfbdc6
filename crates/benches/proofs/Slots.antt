-- A block's bytes alone, without the byte after them. Assumes nothing.
use Rattle.std.proofs.Common.{◌≡◌, ℕ, ◌+◌, ◌*◌, ◌<◌, ◌≤◌, ◌⊎◌, List, take, drop, slice_index, slice_set, sym, ◌∙◌, ap, inl, inr}
use Rattle.std.proofs.lemmas.List.{drop-take, take-set-le, drop-set-lt}
use Rattle.benches.specs.Held.{content}
use Rattle.benches.proofs.Contents.{seen}

-- These stood in specs/ when the design pass began. What is cited today are the lemmas of Contents, on a block with the
-- byte after it.

abbrev slot : List ℕ → ℕ → List ℕ
slot mem b = take 504 (drop (505 * b) mem)

pub content_same : (m n : List ℕ) (b : ℕ) → slice_index m (505 * b + 504) ≡ slice_index n (505 * b + 504) → slot m b ≡ slot n b → content m b ≡ content n b
content_same m n b f x = ap (λ i. seen i (slot m b)) f ∙ ap (λ (xs : List ℕ). seen (slice_index n (505 * b + 504)) xs) x

slot_from : (m : List ℕ) (b : ℕ) → slot m b ≡ drop (505 * b) (take (505 * b + 504) m)
slot_from m b = sym (drop-take (505 * b) 504 m)

slot_set : (m : List ℕ) (i v b : ℕ) → (505 * b + 504 ≤ i) ⊎ (i < 505 * b) → slot (slice_set m i v) b ≡ slot m b
slot_set m i v b (inl h) = slot_from (slice_set m i v) b ∙ ap (λ (xs : List ℕ). drop (505 * b) xs) (take-set-le (505 * b + 504) m i v h) ∙ sym (slot_from m b)
slot_set m i v b (inr h) = ap (λ (xs : List ℕ). take 504 xs) (drop-set-lt (505 * b) m i v h)
