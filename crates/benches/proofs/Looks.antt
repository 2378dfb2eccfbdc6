-- What is found of a block in the held writes and in the memory. Assumes nothing.
use Rattle.std.proofs.Common.{◌≡◌, ℕ, ◌+◌, ◌-◌, ◌*◌, ◌<◌, Bool, true, false, cond, Bor, ◌==◌, List, filter, reverse, Option, None, Some, slice_get, get_or, length, take, drop, refl, sym, ap, ◌∙◌, arith}
use Rattle.std.specs.List.{find}
use Rattle.std.specs.Bool.{then_some}
use Rattle.std.specs.Option.{option_copied, option_map}
use Rattle.std.proofs.lemmas.List.{get_or_read_under}
use Rattle.std.proofs.lemmas.Option.{slice_get-map}
use Rattle.stores.specs.Meanings.{Content, whole, torn}
use Rattle.benches.specs.declared.held.Held.{Held}
use Rattle.benches.specs.Held.{writes_of, latest, content, shown}
use Rattle.benches.specs.Lawful.{Of, held_bytes}
use Rattle.benches.proofs.Writes.{latest_of, latest_found}

bytes_copied : (o : Option (Bor Held)) → option_map (λ (h : Bor Held). h.now.bytes) o ≡ option_map held_bytes (option_copied o)
bytes_copied None = refl
bytes_copied (Some h) = refl

-- the bytes of the held write of a block that has this number
pub nth_is : (hs : List Held) (b k : ℕ) (o : Option (Bor Held)) → option_copied o ≡ slice_get (filter (Of b) hs) k → option_map (λ (h : Bor Held). h.now.bytes) o ≡ slice_get (writes_of hs b) k
nth_is hs b k o e = bytes_copied o ∙ ap (option_map held_bytes) e ∙ sym (slice_get-map held_bytes (filter (Of b) hs) k)

-- what a block shows is its last held write, or else what is settled there
pub look_is : (c : Content) (hs xs : List Held) (b : ℕ) (o : Option Held) → xs ≡ hs → o ≡ find (λ (h : Held). h.block == b) (reverse xs) → shown (latest_of c o) ≡ shown (latest c (writes_of hs b))
look_is c hs xs b o f e =
    ap (λ x. shown (latest_of c x)) (e ∙ ap (λ (ys : List Held). find (Of b) (reverse ys)) f) ∙ ap shown (sym (latest_found c hs b))

shown_by : (t : Bool) (ys : List ℕ) (x : Bor (List ℕ)) → x.now ≡ ys → option_copied (then_some t x) ≡ shown (cond t (whole ys) torn)
shown_by true ys x e = ap (λ (zs : List ℕ). Some zs) e
shown_by false ys x e = refl

-- what is settled at a block shows its bytes, if the byte n after them is zero
pub settled_shown : (mem xs : List ℕ) (b n : ℕ) (x : Bor (List ℕ)) (o : Option (Bor (List ℕ))) → o ≡ then_some (n == 0) x → 505 * b + 504 < length mem → n ≡ get_or mem (505 * b + 504) n → x.now ≡ take (505 * b + 504 - 505 * b) (drop (505 * b) xs) → xs ≡ mem → option_copied o ≡ shown (content mem b)
settled_shown mem xs b n x o e f g h k =
    let long : 505 * b + 504 - 505 * b ≡ 504 = omega arith in
    let read : n ≡ get_or mem (505 * b + 504) 0 = get_or_read_under mem (505 * b + 504) (length mem) n 0 g f refl in
    ap option_copied e
    ∙ shown_by (n == 0) (take 504 (drop (505 * b) mem)) x (h ∙ ap (λ i. take i (drop (505 * b) xs)) long ∙ ap (λ (ys : List ℕ). take 504 (drop (505 * b) ys)) k)
    ∙ ap (λ i. shown (cond (i == 0) (whole (take 504 (drop (505 * b) mem))) torn)) read
