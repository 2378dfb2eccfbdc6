-- What an image means, and what it says to each call. Assumes nothing.
use Rattle.std.specs.Prelude.{◌≡◌, ℕ, ◌+◌, ◌*◌, Bool, true, false, List, [], ◌++◌, length, take, drop, Ok, Err, vec_items}
use Rattle.std.specs.Global.{Vec}
use Rattle.faults.specs.declared.faults.Layer.TheVariants.{Device}
use Rattle.stores.specs.Meanings.{whole, Meaning}
use Rattle.stores.specs.Outcomes.{Answer}
use Rattle.stores.specs.Admission.{powered, admission}
use Rattle.stores.specs.Calls.{Call, Response, reads, writes, flushes, restarts, unless, response}
use Rattle.stores.specs.Places.{blocks_of}
use Rattle.images.specs.declared.images.Image.{Image}

-- the bytes of block b
abbrev pub block : List ℕ → ℕ → List ℕ
block bytes b = take 504 (drop (504 * b) bytes)

-- the memory with a block's bytes in their place
abbrev pub splice : List ℕ → ℕ → List ℕ → List ℕ
splice memory b bytes = take (504 * b) memory ++ (bytes ++ drop (504 * b + 504) memory)

-- the memory after a write that was answered so
abbrev pub memory_after : Answer → List ℕ → ℕ → List ℕ → List ℕ
memory_after (Ok done) memory b bytes = splice memory b bytes
memory_after (Err e) memory b bytes = memory

-- as many whole blocks as fit in this many bytes, up to the limit
abbrev pub blocks_in : ℕ → ℕ
blocks_in n = blocks_of 504 n

-- a memory that is used as so many blocks: each write is settled, none is torn, and the supply lasts
abbrev pub sized_meaning : ℕ → Bool → List ℕ → Meaning
sized_meaning blocks on bytes = record {
  size = blocks;
  on = on;
  reads = λ b. whole (block bytes b);
  stands = λ b c. c ≡ whole (block bytes b);
  lasts = true;
}

-- an image has as many blocks as fit in its memory
abbrev pub image_meaning : Bool → List ℕ → Meaning
image_meaning on bytes = sized_meaning (blocks_in (length bytes)) on bytes

-- what an image has: its memory, and whether it is on
pub record View : Type 0 where
  pub bytes : List ℕ
  pub on : Bool

-- an image as its view
abbrev pub view_of : Image → View
view_of s = record { bytes = vec_items s.bytes; on = s.on }

-- what it means
abbrev pub meaning_of : View → Meaning
meaning_of v = image_meaning v.on v.bytes

-- whether a block's call is admitted
abbrev pub admitted : View → ℕ → ℕ → Answer
admitted v b length_given = admission Device (blocks_in (length v.bytes)) v.on b length_given

-- what it says to each call
abbrev pub image_response : View → Call → Response View
image_response v (reads b before) = unless (admitted v b (length before)) before v (record { answer = Ok tt; buffer = block v.bytes b; next = v })
image_response v (writes b bytes) = unless (admitted v b (length bytes)) [] v (response (Ok tt) (record { bytes = splice v.bytes b bytes; on = v.on }))
image_response v flushes = unless (powered Device v.on) [] v (response (Ok tt) v)
image_response v restarts = response (Ok tt) (record { bytes = v.bytes; on = true })

-- what it does: of each call just what it says
abbrev pub image_does : View → Call → Response View → Type 0
image_does v c r = r ≡ image_response v c

-- an image of this memory is off
pub record Made (bytes : Vec ℕ) (r : Image) : Type 0 where
  pub memory : r.bytes ≡ bytes
  pub off : r.on ≡ false
