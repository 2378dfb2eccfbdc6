-- When whatever may stand recovers. Assumes nothing.
use Rattle.std.proofs.Common.{◌≡◌, ℕ, ◌*◌, ◌<◌, ◌≤◌, ◌⊎◌, inl, inr, List, length, take, refl, arith}
use Rattle.std.proofs.lemmas.List.{length-take}
use Rattle.stores.specs.Meanings.{Meaning}
use Rattle.layouts.specs.declared.entries.Entry.{Entry}
use Rattle.cards.specs.Cards.{slot_block}
use Rattle.recovery.proofs.Frames.{Frame, InLimits, log_block, frame_blocks}
use Rattle.recovery.proofs.Recoveries.{Recovers, Safe}
use Rattle.recovery.proofs.Standings.{Within, Fit, Counting, Just, Counts}
use Rattle.recovery.proofs.Tellings.{sampled, Tells}
use Rattle.recovery.proofs.TellingLaws.{tells_same, tells_rows}

-- one of two heads
abbrev pub OneOf : Frame → ℕ → ℕ → ℕ → ℕ → List ℕ → Type 0
OneOf f n c n′ c′ bs = Counting f n c bs ⊎ Counting f n′ c′ bs

-- rows each old or new
abbrev pub Either : (ℕ → List ℕ) → (ℕ → List ℕ) → ℕ → List ℕ → Type 0
Either old new s bs = (bs ≡ old s) ⊎ (bs ≡ new s)

-- what fits every block recovers
recovers : {f : Frame} {card : ℕ → List ℕ} {rs : List (List ℕ)} {H : List ℕ → Type 0} {R : ℕ → List ℕ → Type 0} {rows : ℕ → List ℕ} {log : ℕ → Entry} {k c n : ℕ} (size : ℕ)
    → InLimits f → frame_blocks f ≤ size → length rs ≤ 4000000000 → c ≤ 31 * f.log_blocks → c ≤ k → ((b : ℕ) → b < size → Fit f H R log k b (card b))
    → n ≡ length rs → Counting f n c (card 0) → Tells f rs rows log c → ((s : ℕ) (y : List ℕ) → R s y → Either rows (sampled f rs) s y) → Recovers f card rs
recovers {f} {card} {c = c} size limits room few fits le fit e h t r = record {
  entries = c;
  limits = limits;
  counted = few;
  fits = fits;
  head = rw (← e) h;
  tells = tells_same _ _ t (λ s l. r s _ ((fit (slot_block s) (omega arith)).row s l refl)) (λ j l. (fit (log_block f j) (omega arith)).entry j (omega arith) refl);
}

module _ {f : Frame} (limits : InLimits f) (m : Meaning) (room : frame_blocks f ≤ m.size) where
  -- under one head or the other
  safe_by : {rs ws : List (List ℕ)} {R : ℕ → List ℕ → Type 0} {rows : ℕ → List ℕ} {log : ℕ → Entry} {n k n′ k′ c : ℕ}
      → length rs ≤ 4000000000 → length ws ≤ 4000000000 → c ≤ 31 * f.log_blocks → k ≤ c → k′ ≤ c → n ≡ length rs → n′ ≡ length ws → Tells f rs rows log k → Tells f ws rows log k′
      → ((s : ℕ) (y : List ℕ) → R s y → Either rows (sampled f rs) s y) → ((s : ℕ) (y : List ℕ) → R s y → Either rows (sampled f ws) s y)
      → Within m (Fit f (OneOf f n k n′ k′) R log c) → Safe f m rs ws
  safe_by few few′ fits le le′ e e′ t t′ r r′ w card may =
      let fit = λ (b : ℕ) (l : b < m.size). w b (card b) l (may b l) in
      elim ((fit 0 (omega arith)).head refl) [
        | inl h ↦ inl (recovers m.size limits room few (omega arith) le fit e h t r)
        | inr h ↦ inr (recovers m.size limits room few′ (omega arith) le′ fit e′ h t′ r′)
      ]

  module _ {rs : List (List ℕ)} {n k c : ℕ} {rows : ℕ → List ℕ} {log : ℕ → Entry} where
    settled_length : Counts f rs n k c rows log → n ≡ length (take n rs)
    settled_length a = let early = a.early in omega (arith, length-take n rs)

    -- while only the settled head may stand: the settled records
    pub old_safe : (ws : List (List ℕ)) → Counts f rs n k c rows log → Within m (Fit f (Counting f n k) (Just rows) log k) → Safe f m (take n rs) ws
    old_safe ws a w card may =
        let e = settled_length a in
        let few = a.counted in
        let early = a.early in
        let fits = a.fits in
        let order = a.order in
        let fit = λ (b : ℕ) (l : b < m.size). w b (card b) l (may b l) in
        inl (recovers m.size limits room (omega arith) (omega arith) (omega arith) fit e ((fit 0 (omega arith)).head refl) a.settled (λ s y h. inl h))

    -- while the settled head or the new one may stand, over settled entries: the settled records or all
    pub heads_safe : Counts f rs n k c rows log → Within m (Fit f (OneOf f n k (length rs) c) (Just rows) log c) → Safe f m (take n rs) rs
    heads_safe a w =
        let e = settled_length a in
        let few = a.counted in
        let early = a.early in
        safe_by (omega arith) few a.fits a.order (omega arith) e refl a.settled a.all (λ s y h. inl h) (λ s y h. inl h) w

  module _ {rs : List (List ℕ)} {c : ℕ} {rows : ℕ → List ℕ} {log : ℕ → Entry} (few : length rs ≤ 4000000000) (fits : c ≤ 31 * f.log_blocks) (t : Tells f rs rows log c) where
    -- while each row that may stand is old or the sample's, under the head with the whole log
    pub rows_safe : Within m (Fit f (Counting f (length rs) c) (Either rows (sampled f rs)) log c) → Safe f m rs rs
    rows_safe w card may =
        let fit = λ (b : ℕ) (l : b < m.size). w b (card b) l (may b l) in
        inl (recovers m.size limits room few fits (omega arith) fit refl ((fit 0 (omega arith)).head refl) t (λ s y h. h))

    -- while the head with the log or the one without may stand, over the sample's rows
    pub emptied_safe : Within m (Fit f (OneOf f (length rs) c (length rs) 0) (Just (sampled f rs)) log c) → Safe f m rs rs
    emptied_safe w =
        safe_by few few fits (omega arith) (omega arith) refl refl (tells_same (sampled f rs) log t (λ s l. inr refl) (λ j l. refl)) (tells_rows f rs log t.begun)
        (λ s y h. inl h) (λ s y h. inl h) w
