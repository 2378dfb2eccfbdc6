-- What a restart makes of the memory, the held writes and the choices left. Assumes nothing.
use Rattle.std.specs.Prelude.{ℕ, zero, suc, ◌+◌, ◌%◌, cond, List, length, drop, Option, None, Some, ◌==◌, slice_get, slice_index}
use Rattle.benches.specs.declared.held.Held.{Held}
use Rattle.benches.specs.Held.{writes_of, settled, tore}

-- the memory, and the choices left
pub record Pass : Type 0 where
  pub mem : List ℕ
  pub left : List ℕ

-- the memory with this write settled at block b, or with the block torn where there is none
abbrev pub settled_or_tore : List ℕ → ℕ → Option (List ℕ) → List ℕ
settled_or_tore mem b (Some bs) = settled mem b bs
settled_or_tore mem b None = tore mem b

-- what stands at block b: what was settled, or else the i-th of these writes, and past the last of them torn
abbrev pub kept : List ℕ → ℕ → List (List ℕ) → Option ℕ → List ℕ
kept mem b ws None = mem
kept mem b ws (Some i) = settled_or_tore mem b (slice_get ws i)

-- choice 0 keeps what was settled, and choice i + 1 the write with the number i
abbrev pub choice : ℕ → Option ℕ
choice zero = None
choice (suc i) = Some i

-- a block without writes stays; with n of them the next choice decides, which is zero past the last
abbrev pub chosen : ℕ → List ℕ → Option ℕ
chosen n left = cond (n == 0) None (choice (slice_index left 0 % (n + 2)))

-- a block without writes uses no choice
abbrev pub left_after : ℕ → List ℕ → List ℕ
left_after n left = cond (n == 0) left (drop 1 left)

-- one block
abbrev pub decided : ℕ → List (List ℕ) → Pass → Pass
decided b ws p = record { mem = kept p.mem b ws (chosen (length ws) p.left); left = left_after (length ws) p.left }

-- the first n blocks, in ascending order
abbrev pub passed : List Held → Pass → ℕ → Pass
passed held p zero = p
passed held p (suc b) = decided b (writes_of held b) (passed held p b)
