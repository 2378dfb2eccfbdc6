-- A write and a flush in a trace: the standing that an accepted one reaches, and what a refused one leaves within its sort.
-- Assumes nothing.
use Rattle.std.proofs.Common.{◌≡◌, ℕ, ◌<◌, ◌≤◌, true, false, ◌⊎◌, inl, inr, List, [], ◌∷◌, length, Err, MatchResult, refl, sym, ◌∙◌, subst, arith}
use Rattle.faults.specs.Refusals.{fault}
use Rattle.faults.specs.declared.faults.Fault.{Fault}
use Rattle.faults.specs.declared.faults.Layer.{Layer}
use Rattle.faults.specs.declared.faults.Reason.TheVariants.{Off}
use Rattle.stores.specs.Calls.{Call, Response, writes, flushes}
use Rattle.stores.specs.Meanings.{Meaning, Sound}
use Rattle.stores.specs.Outcomes.{Answer}
use Rattle.stores.proofs.Supplies.{not_lasting}
use Rattle.traces.specs.Traces.{Trace}
use Rattle.traces.proofs.Traces.{none_made, write_made, flush_made}
use Rattle.recovery.proofs.Frames.{Frame, frame_blocks}
use Rattle.recovery.proofs.Recoveries.{Safe, Lost, Goes}
use Rattle.recovery.proofs.Standings.{Within, Standing}
use Rattle.recovery.proofs.Fitting.{wrote_standing, flushed_standing, standing_wider, cut_within, none_within}

pub goes_none : {m : Meaning} → m.on ≡ true → Goes m m
goes_none on = record { on = on; size = refl; lasts = λ l. l; sound = λ s. s }

pub goes_on : {m n p : Meaning} → Goes m n → Goes n p → Goes m p
goes_on g h = record { on = h.on; size = h.size ∙ g.size; lasts = λ l. h.lasts (g.lasts l); sound = λ s. h.sound (g.sound s) }

-- what is lost after calls that were accepted
pub lost_later : {f : Frame} {source : Layer} {m p q : Meaning} {settled waiting old new : List (List ℕ)} {e : Fault}
    → Goes m p → Lost f source p q settled waiting e → (Safe f q settled waiting → Safe f q old new) → Lost f source m q old new e
lost_later g h safer = record {
  is = h.is;
  supply = not_lasting _ _ g.lasts h.supply;
  off = h.off;
  size = h.size ∙ g.size;
  sound = λ s. h.sound (g.sound s);
  safe = safer h.safe;
}

module _ {State : Type 0} (does : State → Call → Response State → Type 0) (meaning : State → Meaning) (own source : Layer) (f : Frame) (m : Meaning) where
  -- a standing reached by accepted calls, and the calls that are left
  pub record Reached (P Q : ℕ → List ℕ → Type 0) (cs : List Call) (r : Answer) (t : State) : Type 0 where
    pub next : State
    pub standing : Standing f (meaning next) P Q
    pub goes : Goes m (meaning next)
    pub rest : Trace does meaning own source true next cs r t

  -- a call that was refused, and the sort of what may stand
  pub record Broken (P : ℕ → List ℕ → Type 0) (r : Answer) (t : State) : Type 0 where
    pub refused : Fault
    pub answer : r ≡ Err refused
    pub is : refused ≡ fault Off source 0
    pub supply : m.lasts ≡ false
    pub off : (meaning t).on ≡ false
    pub size : (meaning t).size ≡ m.size
    pub sound : Sound m → Sound (meaning t)
    pub room : frame_blocks f ≤ (meaning t).size
    pub within : Within (meaning t) P

  pub reached_wider : {P P′ Q Q′ : ℕ → List ℕ → Type 0} {cs : List Call} {r : Answer} {t : State} → ((b : ℕ) (x : List ℕ) → P b x → P′ b x)
      → ((b : ℕ) (x : List ℕ) → Q b x → Q′ b x) → Reached P Q cs r t → Reached P′ Q′ cs r t
  reached_wider p q h = record { next = h.next; standing = standing_wider p q h.standing; goes = h.goes; rest = h.rest }

  pub write_step : {P Q R : ℕ → List ℕ → Type 0} {cs : List Call} {r : Answer} {t : State} (a : ℕ) (bs : List ℕ) → Reached P Q (writes a bs ∷ cs) r t
      → a < frame_blocks f → length bs ≡ 504 → P a bs → ((b : ℕ) (x : List ℕ) → (b ≡ a → ⊥) → Q b x → R b x) → R a bs
      → Reached P R cs r t ⊎ Broken P r t
  write_step {P} {Q} {R} {cs} {r} {t} a bs h l long p g q =
      let st = h.standing in
      let room = st.room in
      elim (write_made does meaning own source true h.next t a bs cs r (omega arith) long st.on h.rest) [
        | inl w ↦ inl (record {
          next = w.next;
          standing = wrote_standing st w.done p g q;
          goes = goes_on h.goes (record { on = w.done.on; size = w.done.size; lasts = w.done.lasts; sound = w.sound refl });
          rest = w.rest;
        })
        | inr c ↦ inr (record {
          refused = c.fault;
          answer = c.is;
          is = c.failed.is;
          supply = not_lasting _ _ h.goes.lasts c.failed.supply;
          off = c.failed.left.off;
          size = c.failed.left.size ∙ h.goes.size;
          sound = λ s. c.sound refl (h.goes.sound s);
          room = rw c.failed.left.size room;
          within = cut_within c.failed.left st.stands p;
        })
      ]

  pub flush_step : {P Q : ℕ → List ℕ → Type 0} {cs : List Call} {r : Answer} {t : State} → Reached P Q (flushes ∷ cs) r t → Reached Q Q cs r t ⊎ Broken P r t
  flush_step {P} {Q} {cs} {r} {t} h =
      let st = h.standing in
      elim (flush_made does meaning own source true h.next t cs r st.on h.rest) [
        | inl w ↦ inl (record {
          next = w.next;
          standing = flushed_standing st w.done;
          goes = goes_on h.goes (record { on = w.done.on; size = w.done.size; lasts = w.done.lasts; sound = w.sound refl });
          rest = w.rest;
        })
        | inr c ↦ inr (record {
          refused = c.fault;
          answer = c.is;
          is = c.failed.is;
          supply = not_lasting _ _ h.goes.lasts c.failed.supply;
          off = c.failed.left.off;
          size = c.failed.left.size ∙ h.goes.size;
          sound = λ s. c.sound refl (h.goes.sound s);
          room = rw c.failed.left.size st.room;
          within = none_within c.failed.left st.stands;
        })
      ]

  -- the end of the calls
  pub reached_end : {P Q : ℕ → List ℕ → Type 0} {r : Answer} {t : State} (X : Type 0) (Y : Fault → Type 0) → Reached P Q [] r t
      → (Standing f (meaning t) P Q → Goes m (meaning t) → X) → MatchResult r (λ done. X) Y
  reached_end {P} {Q} {r} {t} X Y h g =
      let e = none_made does meaning own source true h.next t r h.rest in
      let st = h.standing in
      let goes = h.goes in
      subst (λ (a : Answer). MatchResult a (λ done. X) Y) (sym e.0) (g (rw e.1 st) (rw e.1 goes))

  pub broken_end : {P : ℕ → List ℕ → Type 0} {r : Answer} {t : State} (X : Type 0) (settled waiting : List (List ℕ)) → Broken P r t
      → (frame_blocks f ≤ (meaning t).size → Within (meaning t) P → Safe f (meaning t) settled waiting)
      → MatchResult r (λ done. X) (λ e. Lost f source m (meaning t) settled waiting e)
  broken_end {P} {r} {t} X settled waiting b safe =
      subst (λ (a : Answer). MatchResult a (λ done. X) (λ e. Lost f source m (meaning t) settled waiting e)) (sym b.answer)
      (record { is = b.is; supply = b.supply; off = b.off; size = b.size; sound = b.sound; safe = safe b.room b.within })
