-- A mirror that is sound stays sound, whatever store it is over. Soundness does not read the flag: `true` or `false` is
-- what the call leaves, and each lemma serves for both. Assumes nothing.
use Rattle.std.proofs.Common.{◌≡◌, ℕ, ◌+◌, ◌<◌, Bool, true, false, List, sym, refl, ◌∙◌, ap, ⊎_elim, arith}
use Rattle.std.proofs.lemmas.Bool.{cases_eq}
use Rattle.stores.specs.Meanings.{Content, whole, torn, Meaning, Sound, Settled, Same, Cut, Written}
use Rattle.mirrors.specs.Mirrors.{either, half, mirror_meaning, Copies, Paired}
use Rattle.mirrors.specs.Repairs.{Stored}
use Rattle.stores.proofs.Sameness.{settled_same}
use Rattle.mirrors.proofs.Mends.{half_same}

either_torn : (x y : Content) → torn ≡ either x y → (x ≡ torn) × (y ≡ torn)
either_torn (whole xs) y e = let f : ⊥ = cc in absurd f
either_torn torn y e = (refl, sym e)

-- of two copies that read torn, both may be torn
both_torn : (m n : Meaning) → n.size ≡ m.size → (b : ℕ) → b < half n → Copies n b torn → (b < half m) × n.stands b torn × n.stands (half m + b) torn
both_torn m n e b h z =
    let k : half n ≡ half m = half_same m n e in
    let t = either_torn z.first z.second z.is in
    (rw k at h, rw t.0 at z.at_first, rw (k, t.1) at z.at_second)

-- What a mirror that is on says of the store below.
module _ {m : Meaning} (p : Paired m) where
  module _ (sound : Sound (mirror_meaning true m)) where
    not_torn : (b : ℕ) → b < half m → m.reads b ≡ torn → ⊥
    not_torn b h e =
        let f : m.reads (half m + b) ≡ torn = sym (p.agree b h) ∙ e in
        sound b h record { first = torn; second = torn; at_first = rw e at (p.settled.holds b (omega arith)); at_second = rw f at (p.settled.holds (half m + b) (omega arith)); is = refl }

    pub first_cut_sound : {n : Meaning} {a : ℕ} {bs : List ℕ} → a < half m → Cut m n (Written a bs) → Sound (mirror_meaning false n)
    first_cut_sound {n} l s b h z =
        let t = both_torn m n s.size b h z in
        ⊎_elim
        (λ w. not_torn b t.0 (p.agree b t.0 ∙ sym (p.settled.only (half m + b) torn (omega (arith, t.0)) w)))
        (λ w. omega (arith, w.0))
        (s.stands (half m + b) torn (omega (arith, t.0)) t.2)

    module _ {k : Meaning} {a : ℕ} {bs : List ℕ} (s : Stored m k a bs) where
      -- where torn may stand at a first copy only if the first write left it there
      kept_sound : {n : Meaning} → n.size ≡ m.size → ((b : ℕ) → b < half m → n.stands b torn → torn ≡ k.reads b) → Sound (mirror_meaning true n)
      kept_sound {n} i f b h z =
          let t = both_torn m n i b h z in
          let g : b < half m = t.0 in
          let e : torn ≡ k.reads b = f b g t.1 in
          ⊎_elim
          (λ q. let x : k.reads b ≡ whole bs = rw q s.here in cc)
          (λ ne. not_torn b g (sym (s.others b (omega arith) ne) ∙ sym e))
          (cases_eq b a)

      pub second_cut_sound : {n : Meaning} → Cut k n (Written (half m + a) bs) → Sound (mirror_meaning false n)
      second_cut_sound c =
          kept_sound (c.size ∙ s.size)
          (λ b h x.
          let l : b < k.size = omega (arith, s.size) in
          ⊎_elim (λ w. s.settled.only b torn l w) (λ w. let f : ⊥ = omega (arith, w.0) in absurd f) (c.stands b torn l x))

      pub stored_sound : {n : Meaning} → Stored k n (half m + a) bs → Sound (mirror_meaning true n)
      stored_sound u =
          kept_sound (u.size ∙ s.size)
          (λ b h x. u.settled.only b torn (omega (arith, s.size, u.size)) x ∙ u.others b (omega (arith, s.size)) (λ q. omega arith))

-- a mirror that is on is settled, as the store below is
pub paired_settled : (on : Bool) (m : Meaning) → Paired m → Settled (mirror_meaning on m)
paired_settled on m p =
    record {
      holds = λ b h. record { first = m.reads b; second = m.reads (half m + b); at_first = p.settled.holds b (omega arith); at_second = p.settled.holds (half m + b) (omega arith); is = refl };
      only = λ b c h z.
          let x = p.settled.only b z.first (omega arith) z.at_first in
          let y = p.settled.only (half m + b) z.second (omega arith) z.at_second in
          z.is ∙ cc;
    }

-- a mirror that is on still is where nothing changed below
pub same_paired : (m n : Meaning) → Same m n → Paired m → Paired n
same_paired m n s p =
    let k : half n ≡ half m = half_same m n s.size in
    record {
      on = s.on ∙ p.on;
      settled = settled_same p.settled s;
      agree = λ b h.
          let g : b < half m = rw k at h in
          s.reads b (omega arith) ∙ p.agree b g ∙ sym (s.reads (half m + b) (omega arith)) ∙ ap (λ (i : ℕ). n.reads (i + b)) (sym k);
    }
