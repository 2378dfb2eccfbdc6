-- One record more leaves the rows of the filled slots lawful. Assumes nothing.
use Rattle.std.proofs.Common.{◌≡◌, ℕ, ◌+◌, ◌<◌, List, [], length, set, get_or, Some, None, Option, sym, ap, ◌∙◌, ⊎_elim, arith}
use Rattle.std.proofs.lemmas.Bool.{cases_eq}
use Rattle.std.proofs.lemmas.Bool.Decides.{nat_tests}
use Rattle.std.proofs.lemmas.Grind.{common_steps}
use Rattle.std.proofs.Math.Numerals.{suc-eq-add-one}
use Rattle.sampling.specs.Draws.{slot_of}
use Rattle.sampling.proofs.SlotLaws.{slot_early}
use Rattle.layouts.specs.Heads.{Fields}
use Rattle.cards.specs.Cards.{filled}
use Rattle.cards.specs.Memories.{RowsLawful}
use Rattle.workings.specs.Inserts.{grown}

-- record n + 1 has slot n while the sample fills
early : (seed size n : ℕ) → n < size → slot_of seed size (n + 1) ≡ Some n
early seed size n h = ap (slot_of seed size) (sym (suc-eq-add-one n)) ∙ slot_early seed size n h

set_here : (rows : List (List ℕ)) (s : ℕ) (x : List ℕ) → s < length rows → get_or (set rows s x) s [] ≡ x
set_here rows s x h = grind (arith, common_steps, nat_tests)

set_other : (rows : List (List ℕ)) (s i : ℕ) (x : List ℕ) → (i ≡ s → ⊥) → get_or (set rows s x) i [] ≡ get_or rows i []
set_other rows s i x ne = grind (arith, common_steps, nat_tests)

-- a slot that is filled now was filled before, or is that of the new record
pub filled_before : (more i : ℕ) (h : Fields) (o : Option ℕ) → slot_of h.seed h.size (h.count + 1) ≡ o → i < filled (grown more h) → (o ≡ Some i → ⊥) → i < filled h
filled_before more i h o e l ne =
    ⊎_elim
    (λ (same : i ≡ h.count). absurd (ne (sym e ∙ early h.seed h.size h.count (omega arith) ∙ ap (λ k. Some k) (sym same))))
    (λ (other : i ≡ h.count → ⊥). omega arith)
    (cases_eq i h.count)

-- a record without a slot
pub lawful_counted : (wrong : List ℕ → Option ℕ) (h : Fields) (rows : List (List ℕ)) → slot_of h.seed h.size (h.count + 1) ≡ None → RowsLawful wrong h rows → RowsLawful wrong (grown 0 h) rows
lawful_counted wrong h rows e before i l = before i (filled_before 0 i h None e l (λ k. cc k))

-- a candidate, whose bytes are a record's
pub lawful_placed : (wrong : List ℕ → Option ℕ) (h : Fields) (rows : List (List ℕ)) (s : ℕ) (bytes : List ℕ) → slot_of h.seed h.size (h.count + 1) ≡ Some s → s < length rows
    → wrong bytes ≡ None → RowsLawful wrong h rows → RowsLawful wrong (grown 1 h) (set rows s bytes)
lawful_placed wrong h rows s bytes e inside right before i l =
    ⊎_elim
    (λ (same : i ≡ s). ap wrong (ap (λ k. get_or (set rows s bytes) k []) same ∙ set_here rows s bytes inside) ∙ right)
    (λ (ne : i ≡ s → ⊥). ap wrong (set_other rows s i bytes ne) ∙ before i (filled_before 1 i h (Some s) e l (λ k. ne (sym cc))))
    (cases_eq i s)
