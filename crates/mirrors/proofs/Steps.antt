-- The steps of a mirror's repair. Assumes nothing.
use Rattle.std.proofs.Common.{◌≡◌, ℕ, List, Option, Some, None, Ok, Err, true, rules, refl, sym, ◌∙◌, inl, inr, ⊎_elim, arith}
use Rattle.faults.specs.declared.faults.Fault.{Fault}
use Rattle.faults.specs.declared.faults.Layer.{Layer}
use Rattle.stores.specs.Meanings.{Content, whole, torn, Meaning, Settled, Same, Written}
use Rattle.stores.specs.Outcomes.{Answer, Failed}
use Rattle.stores.proofs.Sameness.{settled_same}
use Rattle.mirrors.specs.Repairs.{Stored, StoreOutcome, Probed, Twins, Repaired, RepairBrings, RepairOutcome, Mended}

-- These stood in specs/ when the design pass began. The check of `repair`, `probe` and `mend` finds each by itself.

pub twins_same : {m k : Meaning} {a b : ℕ} → Twins m a b → Same m k → Twins k a b
twins_same t s =
    record {
      on = s.on ∙ t.on;
      settled = settled_same t.settled s;
      first = rw s.size t.first;
      second = rw s.size t.second;
      apart = t.apart;
    }

module _ (source : Layer) (m k n : Meaning) (a b : ℕ) (t : Twins m a b) (s : Same m k) (bs : List ℕ) where
  pub already : m.reads a ≡ whole bs → m.reads b ≡ whole bs → Repaired m k a b
  already x y =
      record {
        size = s.size;
        on = s.on ∙ t.on;
        settled = settled_same t.settled s;
        alike = s.reads a t.first ∙ x ∙ sym (s.reads b t.second ∙ y);
        kept = s.reads a t.first ∙ rw x refl;
        others = λ i h _ _. s.reads i h;
        lasts = λ l. s.lasts ∙ l;
      }

  pub second_stored : m.reads a ≡ whole bs → Stored k n b bs → Repaired m n a b
  second_stored x p =
      let ne : a ≡ b → ⊥ = λ e. omega (arith, t.apart) in
      let at_a : n.reads a ≡ whole bs = p.others a (rw s.size t.first) ne ∙ s.reads a t.first ∙ x in
      record {
        size = p.size ∙ s.size;
        on = p.on;
        settled = p.settled;
        alike = at_a ∙ sym p.here;
        kept = at_a ∙ rw x refl;
        others = λ i h _ v. p.others i (rw s.size h) v ∙ s.reads i h;
        lasts = λ l. p.lasts (s.lasts ∙ l);
      }

  pub first_stored : m.reads a ≡ torn → m.reads b ≡ whole bs → Stored k n a bs → Repaired m n a b
  first_stored x y p =
      let ne : b ≡ a → ⊥ = λ e. omega (arith, t.apart) in
      let at_b : n.reads b ≡ whole bs = p.others b (rw s.size t.second) ne ∙ s.reads b t.second ∙ y in
      record {
        size = p.size ∙ s.size;
        on = p.on;
        settled = p.settled;
        alike = p.here ∙ sym at_b;
        kept = p.here ∙ rw x (sym y);
        others = λ i h u _. p.others i (rw s.size h) u ∙ s.reads i h;
        lasts = λ l. p.lasts (s.lasts ∙ l);
      }

  pub cut_same : (may : ℕ → Content → Type 0) (x : ℕ) (e : Fault) → ((i : ℕ) (c : Content) → Written x bs i c → may i c) → Failed source k n (Written x bs) e → Failed source m n may e
  cut_same may x e f p =
      record {
        is = p.is;
        supply = sym s.lasts ∙ p.supply;
        left = record {
          size = p.left.size ∙ s.size;
          off = p.left.off;
          stands = λ i c h z. ⊎_elim (λ w. inl (s.fewer i c h w)) (λ w. inr (f i c w)) (p.left.stands i c (rw s.size h) z);
          lasts = λ l. p.left.lasts (s.lasts ∙ l);
        };
      }

  pub second_put : (r : Answer) → m.reads a ≡ whole bs → StoreOutcome source k n b bs r → RepairOutcome source m n a b r
  second_put (Ok _) x p = second_stored x p
  second_put (Err e) x p = cut_same (RepairBrings m a b) b e (λ i c w. record { bytes = bs; at = inl (x, w) }) p

  pub first_put : (r : Answer) → m.reads a ≡ torn → m.reads b ≡ whole bs → StoreOutcome source k n a bs r → RepairOutcome source m n a b r
  first_put (Ok _) x y p = first_stored x y p
  first_put (Err e) x y p = cut_same (RepairBrings m a b) a e (λ i c w. record { bytes = bs; at = inr (x, y, w) }) p

module _ (source : Layer) (m n : Meaning) (b : ℕ) where
  pub probed_whole : (bs : List ℕ) → Probed source m n b (Ok (Some bs)) → (m.reads b ≡ whole bs) × Same m n
  probed_whole bs p = p

  pub probed_torn : Probed source m n b (Ok None) → (m.reads b ≡ torn) × Same m n
  probed_torn p = p

  pub probed_same : (found : Option (List ℕ)) → Probed source m n b (Ok found) → Same m n
  probed_same found p = p.1

pub mended_start : (m : Meaning) → m.on ≡ true → Settled m → Mended 0 m m
mended_start m on settled = search rules
