-- The steps of a mirror's restart. Assumes nothing.
use Rattle.std.proofs.Common.{◌≡◌, ℕ, ◌+◌, ◌/◌, Bool, true, false, refl, sym, ◌∙◌, ap, inl, arith}
use Rattle.faults.specs.declared.faults.Fault.{Fault}
use Rattle.faults.specs.declared.faults.Layer.{Layer}
use Rattle.stores.specs.Meanings.{Meaning, Nothing}
use Rattle.stores.specs.Outcomes.{Failed, Restarted}
use Rattle.mirrors.specs.Mirrors.{either, half, mirror_meaning}
use Rattle.mirrors.specs.Repairs.{MendFailed}

-- halves of stores of one size are one
pub half_same : (m n : Meaning) → n.size ≡ m.size → half n ≡ half m
half_same m n e = ap (λ (x : ℕ). x / 2) e

not_lasting : (a b : Bool) → (a ≡ true → b ≡ true) → b ≡ false → a ≡ false
not_lasting true b f e = sym (f refl) ∙ e
not_lasting false b f e = refl

-- a mirror whose repair is cut
pub mend_cut : (source : Layer) (on : Bool) (m k n : Meaning) (e : Fault) → Restarted m k → MendFailed source k n e → Failed source (mirror_meaning on m) (mirror_meaning false n) Nothing e
mend_cut source on m k n e r f =
    let h : half k ≡ half m = half_same m k r.size in
    record {
      is = f.is;
      supply = not_lasting m.lasts k.lasts r.lasts f.supply;
      left = record {
        size = half_same m n (f.size ∙ r.size);
        off = refl;
        stands = λ b c l z. inl record {
          first = k.reads b;
          second = k.reads (half m + b);
          at_first = r.reads b (omega arith);
          at_second = r.reads (half m + b) (omega arith);
          is = f.stands b c (rw h l) z ∙ ap (λ (i : ℕ). either (k.reads b) (k.reads (i + b))) h;
        };
        lasts = λ l. let x : ⊥ = cc (r.lasts l) in absurd x;
      };
    }
