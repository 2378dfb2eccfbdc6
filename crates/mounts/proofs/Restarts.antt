-- A mount: a restart, and then the card is read. Assumes nothing.
use Rattle.std.proofs.Common.{ℕ, ◌<◌, List, Option, Ok, Err, Result, refl, sym, ◌∙◌, inl, inr, ⊎_elim}
use Rattle.faults.specs.declared.faults.Fault.{Fault}
use Rattle.faults.specs.declared.faults.Layer.{Layer}
use Rattle.stores.specs.Calls.{Call, Response, restarts, response}
use Rattle.stores.specs.Meanings.{Meaning, Sound, Same, Nothing}
use Rattle.stores.specs.Outcomes.{Failed, Restarted}
use Rattle.stores.proofs.Sameness.{settled_same}
use Rattle.stores.proofs.Soundness.{sound_cut, sound_restart}
use Rattle.stores.proofs.Supplies.{not_lasting}
use Rattle.cards.specs.Memories.{Memory}
use Rattle.mounts.specs.Mounts.{MountOutcome, CardCalls, MountCalls}
use Rattle.mounts.specs.Parts.{Shows, CardOutcome}

module _ (m k n : Meaning) (restarted : Restarted m k) where
  restarted_still : Same k n → Restarted m n
  restarted_still s = record {
    size = s.size ∙ restarted.size;
    on = s.on ∙ restarted.on;
    reads = λ b h. rw (s.reads b (rw restarted.size h)) (restarted.reads b h);
    settled = settled_same restarted.settled s;
    lasts = λ l. s.lasts ∙ restarted.lasts l;
  }

  -- a supply that fails after the restart leaves what the restart chose, which might stand before it
  failed_after : (source : Layer) (e : Fault) → Failed source k n Nothing e → Failed source m n Nothing e
  failed_after source e f = record {
    is = f.is;
    supply = not_lasting m.lasts k.lasts restarted.lasts f.supply;
    left = record {
      size = f.left.size ∙ restarted.size;
      off = f.left.off;
      stands = λ b c h x.
          let l : b < k.size = rw restarted.size h in
          ⊎_elim (λ y. inl (rw (restarted.settled.only b c l y) (restarted.reads b h))) (λ y. inr y) (f.left.stands b c l x);
      lasts = λ l. f.left.lasts (restarted.lasts l);
    };
  }

  module _ (own source : Layer) (code : ℕ) (wrong : List ℕ → Option ℕ) where
    -- what the restart chose is what is read at the end
    shows_end : Same k n → Shows k (λ b. n.reads b)
    shows_end s = record { on = restarted.on; reads = λ b h. sym (s.reads b h) }

    shows_first : Shows k (λ b. k.reads b)
    shows_first = record { on = restarted.on; reads = λ b h. refl }

    pub mounted : (r : Result Memory Fault) → CardOutcome own source code wrong k n r → MountOutcome own source code wrong m n r
    mounted (Ok t) card =
        let same = (card.each_card (λ b. k.reads b) shows_first).0 in
        let end = (card.each_card (λ b. n.reads b) (shows_end same)).1 in
        ((restarted_still same, rw restarted.size at end.0), end.1)
    mounted (Err e) card =
        ⊎_elim
        (λ x.
        ⊎_elim
        (λ y. inl (restarted_still y.0, rw restarted.size at y.1))
        (λ y. inr (failed_after source e y))
        (card.each_card (λ b. n.reads b) (shows_end x.0)))
        (λ x. inr (failed_after source e x))
        (card.each_card (λ b. k.reads b) shows_first)

    mount_sound : (r : Result Memory Fault) → MountOutcome own source code wrong m n r → Sound m → Sound n
    mount_sound (Ok t) o sound = sound_restart m n sound source (Ok tt) o.0.0
    mount_sound (Err e) o sound = ⊎_elim (λ f. sound_restart m n sound source (Ok tt) f.0) (λ f. sound_cut m n sound f.left) o

    -- a restart and reads leave a sound store sound
    pub sound_mounted : (r : Result Memory Fault) → CardOutcome own source code wrong k n r → Sound m → Sound n
    sound_mounted r card sound = mount_sound r (mounted r card) sound

module _ {S : Type 0} (own : Layer) (code : ℕ) (wrong : List ℕ → Option ℕ) (does : S → Call → Response S → Type 0) (meaning : S → Meaning) (s t : S) where
  pub restart_refused : (e : Fault) → does s restarts (response (Err e) t) → MountCalls own code wrong does meaning s (Err e) t
  restart_refused e h = (response (Err e) t, h, (refl, refl))

  pub restart_first : (u : S) (r : Result Memory Fault) → does s restarts (response (Ok tt) u) → CardCalls own code wrong does meaning u r t → MountCalls own code wrong does meaning s r t
  restart_first u r h reads = (response (Ok tt) u, h, reads)
