-- Where nothing is torn and nothing is held, torn may stand nowhere. Assumes nothing.
use Rattle.std.proofs.Common.{◌≡◌, ℕ, ◌*◌, ◌+◌, ◌<◌, Bool, List, length, take, drop, replicate, slice_index, refl, sym, subst, ⊎_elim, arith}
use Rattle.std.proofs.lemmas.Bool.{cond-true, eq-eqb}
use Rattle.std.proofs.lemmas.List.{get_or-replicate, length-replicate}
use Rattle.stores.specs.Meanings.{Content, whole, torn, Meaning, Sound}
use Rattle.images.specs.Images as images
use Rattle.benches.specs.Benches as benches
use Rattle.benches.specs.Views.{Contents}
use Rattle.benches.specs.Held.{content}
use Rattle.mirrors.specs.Mirrors.{either, mirror_meaning}
use Rattle.zeros.specs.Zeros.{zero_bench}

-- an image is never torn
pub image_sound : (v : images.View) → Sound (images.meaning_of v)
image_sound v b h e = cc e

-- a byte that is zero says that a block is whole
zero_whole : (n b : ℕ) → 505 * b + 504 < n → torn ≡ content (replicate n 0) b → ⊥
zero_whole n b l e =
    let zero : slice_index (replicate n 0) (505 * b + 504) ≡ 0 = get_or-replicate n (505 * b + 504) 0 0 l in
    let whole_is : content (replicate n 0) b ≡ whole (take 504 (drop (505 * b) (replicate n 0))) = cond-true _ _ _ (eq-eqb _ 0 zero) in
    cc (e, whole_is)

zeros_sound : (blocks : ℕ) (fuses choices : List ℕ) → Sound (benches.meaning_of (zero_bench blocks fuses choices))
zeros_sound blocks fuses choices b h stands =
    let long : length {A = ℕ} (replicate (505 * blocks) 0) ≡ 505 * blocks = length-replicate (505 * blocks) 0 in
    ⊎_elim (λ e. zero_whole (505 * blocks) b (omega (arith, long)) e) (λ held. held) stands

pub bench_sound : (v : Contents) (blocks : ℕ) (fuses choices : List ℕ) → v ≡ zero_bench blocks fuses choices → Sound (benches.meaning_of v)
bench_sound v blocks fuses choices e = subst (λ (w : Contents). Sound (benches.meaning_of w)) (sym e) (zeros_sound blocks fuses choices)

-- of two copies that read torn, the first is torn
first_torn : (x y : Content) → torn ≡ either x y → x ≡ torn
first_torn (whole bytes) y e = let f : ⊥ = cc in absurd f
first_torn torn y e = refl

-- a mirror over a store where torn may stand nowhere
pub mirror_sound : (on : Bool) (m : Meaning) → Sound m → Sound (mirror_meaning on m)
mirror_sound on m sound b h copies =
    sound b (omega arith) (rw (first_torn copies.first copies.second copies.is) at copies.at_first)
