-- What a settled or torn block leaves of each block. Assumes nothing.
use Rattle.std.proofs.Common.{◌≡◌, ◌≢◌, ℕ, ◌+◌, ◌*◌, ◌≤◌, cond, ◌==◌, List, length, take, drop, slice_index, slice_set, sym, ◌∙◌, ap, ⊎_elim, arith}
use borrow.Rule.Slice.PartMut.{put_mid}
use Rattle.std.proofs.lemmas.List.{length-set, drop-take, take-take, get_or-take, get_or-drop, get_or-set_same, take-set-le, drop-set-lt}
use Rattle.std.proofs.lemmas.Bool.{cases_lt}
use Rattle.stores.specs.Meanings.{Content, whole, torn}
use Rattle.stores.proofs.Places.{span_of, length_put, put_here, put_other}
use Rattle.benches.specs.Held.{content, settled, tore}

-- the bytes of a block, and the one after them
abbrev place : List ℕ → ℕ → List ℕ
place m b = span_of 505 m b

abbrev pub seen : ℕ → List ℕ → Content
seen f xs = cond (f == 0) (whole xs) torn

content_place : (m : List ℕ) (b : ℕ) → seen (slice_index (place m b) 504) (take 504 (place m b)) ≡ content m b
content_place m b =
    ap (λ f. seen f (take 504 (place m b))) (get_or-take 505 (drop (505 * b) m) 504 0 (omega arith) ∙ get_or-drop (505 * b) m 504 0)
    ∙ ap (λ (xs : List ℕ). seen (slice_index m (505 * b + 504)) xs) (take-take 504 505 (drop (505 * b) m) (omega arith))

-- what is settled at a block is known from its place
same_place_content : (m n : List ℕ) (b : ℕ) → place m b ≡ place n b → content m b ≡ content n b
same_place_content m n b e = sym (content_place m b) ∙ ap (λ (xs : List ℕ). seen (slice_index xs 504) (take 504 xs)) e ∙ content_place n b

place_from : (m : List ℕ) (b : ℕ) → place m b ≡ drop (505 * b) (take (505 * b + 505) m)
place_from m b = sym (drop-take (505 * b) 505 m)

place_set : (m : List ℕ) (a b v : ℕ) → (b ≢ a) → place (slice_set m (505 * a + 504) v) b ≡ place m b
place_set m a b v ne =
    ⊎_elim
    (λ below. place_from (slice_set m (505 * a + 504) v) b ∙ ap (λ (xs : List ℕ). drop (505 * b) xs) (take-set-le (505 * b + 505) m (505 * a + 504) v (omega arith)) ∙ sym (place_from m b))
    (λ above. ap (λ (xs : List ℕ). take 505 xs) (drop-set-lt (505 * b) m (505 * a + 504) v (omega arith)))
    (cases_lt b a)

pub length_settled : (m ys : List ℕ) (a : ℕ) → 505 * a + 505 ≤ length m → length ys ≡ 504 → length (settled m a ys) ≡ length m
length_settled m ys a f l = length-set (put_mid (505 * a) 504 m ys) (505 * a + 504) 0 ∙ length_put m ys (505 * a) 504 (omega arith) l

pub length_tore : (m : List ℕ) (a : ℕ) → length (tore m a) ≡ length m
length_tore m a = length-set m (505 * a + 504) 1

-- the block itself
pub settled_here : (m ys : List ℕ) (a : ℕ) → 505 * a + 505 ≤ length m → length ys ≡ 504 → content (settled m a ys) a ≡ whole ys
settled_here m ys a f l =
    let n = put_mid (505 * a) 504 m ys in
    let before : drop (505 * a) (take (505 * a + 504) (settled m a ys)) ≡ drop (505 * a) (take (505 * a + 504) n) =
    ap (λ (xs : List ℕ). drop (505 * a) xs) (take-set-le (505 * a + 504) n (505 * a + 504) 0 (omega arith)) in
    ap (λ i. seen i (take 504 (drop (505 * a) (settled m a ys)))) (get_or-set_same n (505 * a + 504) 0 0 (omega (arith, length_put m ys (505 * a) 504 (omega arith) l)))
    ∙ ap whole (sym (drop-take (505 * a) 504 (settled m a ys)) ∙ before ∙ drop-take (505 * a) 504 n ∙ put_here m ys (505 * a) 504 504 (omega arith) l)

pub settled_other : (m ys : List ℕ) (a b : ℕ) → 505 * a + 505 ≤ length m → length ys ≡ 504 → (b ≢ a) → content (settled m a ys) b ≡ content m b
settled_other m ys a b f l ne = same_place_content (settled m a ys) m b (place_set (put_mid (505 * a) 504 m ys) a b 0 ne ∙ put_other 505 504 m ys a b (omega arith) (omega arith) l ne)

pub tore_here : (m : List ℕ) (a : ℕ) → 505 * a + 505 ≤ length m → content (tore m a) a ≡ torn
tore_here m a f = ap (λ i. seen i (take 504 (drop (505 * a) (tore m a)))) (get_or-set_same m (505 * a + 504) 1 0 (omega arith))

pub tore_other : (m : List ℕ) (a b : ℕ) → (b ≢ a) → content (tore m a) b ≡ content m b
tore_other m a b ne = same_place_content (tore m a) m b (place_set m a b 1 ne)
