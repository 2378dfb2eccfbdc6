-- What a bench's memory and its held writes say of each block. Assumes nothing.
use Rattle.std.specs.Prelude.{◌≡◌, refl, Bool, true, false, replicate, ℕ, ◌+◌, ◌*◌, ◌<◌, ◌≤◌, cond, ◌⊎◌, List, [], ◌∷◌, length, take, drop, map, filter, Option, None, Some, ◌==◌, nat_lt, slice_index, slice_index_or, slice_set}
use Rattle.std.proofs.lemmas.Bool.{eqb-true}
use borrow.Rule.Slice.PartMut.{put_mid}
use Rattle.stores.specs.Meanings.{Content, whole, torn, Meaning}
use Rattle.stores.specs.Places.{blocks_of}
use Rattle.benches.specs.declared.held.Held.{Held}
use Rattle.benches.specs.declared.power.Power.{Power}
use Rattle.benches.specs.Supplies.{is_on, is_lasting}

-- as many whole blocks as fit in this many bytes, up to the limit
abbrev pub blocks_in : ℕ → ℕ
blocks_in n = blocks_of 505 n

-- what is settled at block b: 504 bytes, and then a byte that is zero unless the block is torn
abbrev pub content : List ℕ → ℕ → Content
content mem b = cond (slice_index mem (505 * b + 504) == 0) (whole (take 504 (drop (505 * b) mem))) torn

-- what a reader gets of it: the bytes, or none where it is torn
abbrev pub shown : Content → Option (List ℕ)
shown (whole bs) = Some bs
shown torn = None

-- the memory with these bytes settled at block b
abbrev pub settled : List ℕ → ℕ → List ℕ → List ℕ
settled mem b bs = slice_set (put_mid (505 * b) 504 mem bs) (505 * b + 504) 0

-- the memory with block b torn
abbrev pub tore : List ℕ → ℕ → List ℕ
tore mem b = slice_set mem (505 * b + 504) 1

-- the held writes of block b, in order
abbrev pub writes_of : List Held → ℕ → List (List ℕ)
writes_of hs b = map (λ (h : Held). h.bytes) (filter (λ (h : Held). h.block == b) hs)

-- the last of these writes, or else c
abbrev pub latest : Content → List (List ℕ) → Content
latest c [] = c
latest c (w ∷ ws) = latest (whole w) ws

-- one of these writes, or torn if there is one
abbrev pub Among : List (List ℕ) → Content → Type 0
Among [] c = ⊥
Among (w ∷ ws) c = ((c ≡ whole w) ⊎ (c ≡ torn)) ⊎ Among ws c

-- the memory with all these writes settled, in order
abbrev pub settled_all : List ℕ → List Held → List ℕ
settled_all mem [] = mem
settled_all mem (h ∷ hs) = settled_all (settled mem h.block h.bytes) hs

-- sixteen held writes are settled before the next one
abbrev pub room_mem : List ℕ → List Held → List ℕ
room_mem mem held = cond (nat_lt (length held) 16) mem (settled_all mem held)

-- and are held no more
abbrev pub room_held : List Held → List Held
room_held held = cond (nat_lt (length held) 16) held []

-- what stands for a write past the last one
abbrev pub blank : Held
blank = record { block = 0; bytes = replicate 504 0; long = refl }

-- the write of these bytes to block b, if the test found that they are 504
abbrev pub held_if : (b : ℕ) (bs : List ℕ) (t : Bool) → (length bs == 504) ≡ t → Option Held
held_if b bs true e = Some (record { block = b; bytes = bs; long = eqb-true (length bs) 504 e })
held_if b bs false e = None

-- the write of these bytes to block b, if they are 504
abbrev pub held_of : ℕ → List ℕ → Option Held
held_of b bs = held_if b bs (length bs == 504) refl

-- each held write is of a block in the memory
abbrev pub Inside : ℕ → List Held → Type 0
Inside len held = (i : ℕ) → i < length held → 505 * (slice_index_or held i blank).block + 505 ≤ len

-- what always holds of the held writes of a bench with so many bytes: they are sixteen at most, each of a block in the memory
pub record HeldIn (len : ℕ) (held : List Held) : Type 0 where
  pub few : length held ≤ 16
  pub inside : Inside len held

-- a block reads its last held write, or else what is settled; after a cut that, any held write of it or torn may stand
abbrev pub bench_meaning : Power → List ℕ → List Held → Meaning
bench_meaning power mem held =
    record {
      size = blocks_in (length mem);
      on = is_on power;
      reads = λ b. latest (content mem b) (writes_of held b);
      stands = λ b c. (c ≡ content mem b) ⊎ Among (writes_of held b) c;
      lasts = is_lasting power;
    }
