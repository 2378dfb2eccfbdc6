-- Blocks that lie one after another in a memory, each in a span of so many bytes, and what is left of each where one is
-- written in. Assumes nothing.
use Rattle.std.proofs.Common.{◌≡◌, ◌≢◌, ℕ, suc, ◌+◌, ◌-◌, ◌*◌, ◌<◌, ◌≤◌, List, length, take, drop, sym, ◌∙◌, ap, ⊎_elim, arith}
use borrow.Rule.Slice.PartMut.{put_mid, same_len_mid}
use Rattle.std.proofs.Math.Nat.{mul-le-mul_left}
use Rattle.std.proofs.lemmas.List.{length-drop, length-take-le, drop-take}
use Rattle.std.proofs.lemmas.Slice.{between-put_mid, drop-put_mid, take-put_mid_below}
use Rattle.std.proofs.lemmas.Bool.{cases_lt}

-- the span of block b
abbrev pub span_of : ℕ → List ℕ → ℕ → List ℕ
span_of span m b = take span (drop (span * b) m)

-- one block's span ends before the next one's begins
ends_before : (span b a : ℕ) → b < a → span * b + span ≤ span * a
ends_before span b a h = let m : span * suc b ≤ span * a = mul-le-mul_left span h in omega arith

-- k bytes written from the i-th on leave the memory as long as it was, and are read there
pub length_put : (m ys : List ℕ) (i k : ℕ) → i + k ≤ length m → length ys ≡ k → length (put_mid i k m ys) ≡ length m
length_put m ys i k f l = same_len_mid i k m ys (l ∙ sym (length-take-le k (drop i m) (omega (arith, length-drop i m))))

pub put_here : (m ys : List ℕ) (i k n : ℕ) → i ≤ length m → length ys ≡ n → take n (drop i (put_mid i k m ys)) ≡ ys
put_here m ys i k n f l = let e : i + n - i ≡ n = omega arith in rw e at (between-put_mid i k m ys (i + n) f (omega arith))

-- bytes written in one block's span leave every other span as it was
pub put_other : (span k : ℕ) (m ys : List ℕ) (a b : ℕ) → span * a + k ≤ length m → k ≤ span → length ys ≡ k → (b ≢ a) → span_of span (put_mid (span * a) k m ys) b ≡ span_of span m b
put_other span k m ys a b f s l ne =
    ⊎_elim
    (λ below.
    let e = ends_before span b a below in
    sym (drop-take (span * b) span (put_mid (span * a) k m ys))
    ∙ ap (λ (xs : List ℕ). drop (span * b) xs) (take-put_mid_below (span * a) k m ys (span * b + span) e (omega arith))
    ∙ drop-take (span * b) span m)
    (λ above.
    let e = ends_before span a b (omega arith) in
    ap (λ (xs : List ℕ). take span xs) (drop-put_mid (span * a) k m ys (span * b) (omega arith) (omega arith) l))
    (cases_lt b a)
