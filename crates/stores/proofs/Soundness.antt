-- What leaves a sound store sound, whatever the store is. Assumes nothing.
use Rattle.std.proofs.Common.{◌≡◌, ℕ, Bool, true, false, List, length, Ok, Err, refl, ◌∙◌, ⊎_elim}
use Rattle.std.proofs.lemmas.Bool.{cases_eq, cases_lt}
use Rattle.faults.specs.declared.faults.Layer.{Layer}
use Rattle.stores.specs.Meanings.{torn, Meaning, Sound, Settled, Same, Cut, Nothing}
use Rattle.stores.specs.Outcomes.{Answer, ReadServed, ReadOutcome, FlushServed, FlushOutcome, RestartOutcome}

module _ (m n : Meaning) (sound : Sound m) where
  pub sound_same : Same m n → Sound n
  sound_same s b h x = let k = rw s.size at h in sound b k (s.fewer b torn k x)

  pub sound_cut : Cut m n Nothing → Sound n
  sound_cut s b h x = let k = rw s.size at h in ⊎_elim (λ y. sound b k y) (λ z. z) (s.stands b torn k x)

  -- a restart lets stand what might stand before
  pub sound_restart : (source : Layer) (r : Answer) → RestartOutcome source m n r → Sound n
  sound_restart source (Ok done) s b h x = let k = rw s.size at h in sound b k (rw (s.settled.only b torn h x) (s.reads b k))
  sound_restart source (Err e) s b h x = sound_cut s.left b h x

  by_on : (v : Bool) → m.on ≡ v → (m.on ≡ false → Sound n) → (m.on ≡ true → Sound n) → Sound n
  by_on true e f t = t e
  by_on false e f t = f e

  sound_flush_served : (source : Layer) (r : Answer) → FlushServed source m n r → Settled m → Sound n
  sound_flush_served source (Ok done) s z b h x =
      let k = rw s.size at h in sound b k (rw (s.settled.only b torn h x ∙ s.reads b k) (z.holds b k))
  sound_flush_served source (Err e) s z b h x = sound_cut s.left b h x

  -- a flush lets stand what is read, so what is read has to be what may stand
  pub sound_flush : (own source : Layer) (r : Answer) → FlushOutcome own source m n r → (m.on ≡ true → Settled m) → Sound n
  sound_flush own source r o z =
      by_on m.on refl (λ e. sound_cut (o.off e).1) (λ e. sound_flush_served source r (o.served e) (z e))

  sound_read_served : (own source : Layer) (b : ℕ) (before after : List ℕ) (r : Answer) → ReadServed own source m n b before after r → Sound n
  sound_read_served own source b before after (Ok done) s = sound_same s.1
  sound_read_served own source b before after (Err e) s = ⊎_elim (λ t. sound_same t.2) (λ t. sound_cut t.left) s.1

  pub sound_read : (unit : ℕ) (own source : Layer) (b : ℕ) (before after : List ℕ) (r : Answer)
      → ReadOutcome unit own source m n b before after r → Sound n
  sound_read unit own source b before after r o =
      ⊎_elim
      (λ h. ⊎_elim
      (λ l. by_on m.on refl (λ z. sound_cut (o.off h l z).0.1)
      (λ z. sound_read_served own source b before after r (o.served h l z)))
      (λ l. sound_same (o.buffer h l).0.1)
      (cases_eq (length before) unit))
      (λ h. sound_same (o.range h).0.1)
      (cases_lt b m.size)
