-- A mirror keeps the law of a store. Assumes nothing.
use Rattle.std.specs.Prelude.{◌≡◌, ℕ, ◌+◌, Bool, ◌⊎◌, List, refl}
use Rattle.std.proofs.Common.{inl, inr, ⊎_elim, arith}
use Rattle.stores.specs.Meanings.{Content, whole, torn, Meaning, Lawful}
use Rattle.mirrors.specs.Mirrors.{either, half, mirror_meaning}

copy_stands : (m : Meaning) (b : ℕ) (c x y : Content) → m.stands b x → m.stands (half m + b) y → c ≡ either x y → m.stands b c ⊎ m.stands (half m + b) c
copy_stands m b c (whole xs) y p q e = inl (rw e p)
copy_stands m b c torn y p q e = inr (rw e q)

copy_reads : (bs : List ℕ) (x y : Content) → either x y ≡ whole bs → (x ≡ whole bs) ⊎ (y ≡ whole bs)
copy_reads bs (whole xs) y e = inl e
copy_reads bs torn y e = inr e

pub mirror_lawful : (on : Bool) (m : Meaning) → Lawful 504 65536 m → Lawful 504 65536 (mirror_meaning on m)
mirror_lawful on m w =
    record {
      limited = omega (arith, w.limited);
      some = λ b l.
          let p = w.some b (omega arith) in
          let q = w.some (half m + b) (omega arith) in
          (either p.0 q.0, record { first = p.0; second = q.0; at_first = p.1; at_second = q.1; is = refl });
      stand_long = λ b bs l z.
          ⊎_elim
          (λ p. w.stand_long b bs (omega arith) p)
          (λ p. w.stand_long (half m + b) bs (omega arith) p)
          (copy_stands m b (whole bs) z.first z.second z.at_first z.at_second z.is);
      read_long = λ b bs l e.
          ⊎_elim
          (λ p. w.read_long b bs (omega arith) p)
          (λ p. w.read_long (half m + b) bs (omega arith) p)
          (copy_reads bs (m.reads b) (m.reads (half m + b)) e);
    }
