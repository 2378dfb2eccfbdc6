-- What a caller sees of a bench. Assumes nothing.
use Rattle.std.specs.Prelude.{◌≡◌, ℕ, ◌<◌, ◌≤◌, ◌^◌, List, length, vec_capacity}
use Rattle.std.specs.Vec.{vec_ptr, vec_allocator}
use Rattle.std.specs.Global.{Vec, Global}
use Rattle.std.proofs.Common.{sym, ap, ◌∙◌}
use Rattle.std.proofs.Math.Bridge.{le_prop}
use Rattle.std.proofs.Math.Nat.{ℕ_set}
use denote.RawPtr.{Ptr}
use mathlib.Core.HLevel.{is_prop→PathP}
use Rattle.benches.specs.declared.held.Held.{Held}
use Rattle.benches.specs.declared.power.Power.{Power}

-- what a Vec has beside its items: where they lie, how many of them there is room for, and the heap that they lie in
pub record Allocation : Type 0 where
  pub ptr : Ptr
  pub capacity : ℕ
  pub heap : Global

-- that of a Vec of bytes
abbrev pub allocation_of : Vec ℕ → Allocation
allocation_of v = record { ptr = vec_ptr v; capacity = vec_capacity v; heap = vec_allocator v }

-- a Vec of bytes is known from its items and its allocation: what has those of a bench's memory is that memory
pub same_vec : (v w : Vec ℕ) → v.items ≡ w.items → ◌≡◌ {A = Allocation} (allocation_of v) (allocation_of w) → v ≡ w
same_vec v w e a =
    let len : v.len ≡ w.len = v.ok.0 ∙ ap length e ∙ sym w.ok.0 in
    let all = is_prop→PathP (λ i. len i ≡ length (e i)) (λ i. ℕ_set (len i) (length (e i))) v.ok.0 w.ok.0 in
    let fits = is_prop→PathP (λ i. len i ≤ (a i).capacity) (λ i. le_prop) v.ok.1 w.ok.1 in
    let small = is_prop→PathP (λ i. (a i).capacity < 2 ^ 63) (λ i. le_prop) v.small w.small in
    λ i. record { ptr = (a i).ptr; len = len i; cap = (a i).capacity; alloc = (a i).heap; items = e i; ok = (all i, fits i); small = small i }

-- the memory and its allocation, the held writes, the fuses left, the power and the choices left
pub record View : Type 0 where
  pub mem : List ℕ
  pub allocation : Allocation
  pub held : List Held
  pub fuses : List ℕ
  pub power : Power
  pub left : List ℕ

-- all of it but the allocation, which no call depends on
pub record Contents : Type 0 where
  pub mem : List ℕ
  pub held : List Held
  pub fuses : List ℕ
  pub power : Power
  pub left : List ℕ

-- a bench's, by what a caller sees of it
abbrev pub contents_of : View → Contents
contents_of v = record { mem = v.mem; held = v.held; fuses = v.fuses; power = v.power; left = v.left }
